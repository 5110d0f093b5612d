-- Meanings and loans that agree everywhere are equal.
use Rattle.std.proofs.Common.{◌≡◌, ℕ, ◌<◌, Bool, true, false, Decides, refl, sym, ap, ◌∙◌, inl, inr}
use Rattle.std.proofs.lemmas.Bool.{cases_lt, false≢true}
use Rattle.memory.specs.Meaning.{AgreeAt, Lawful, Loan, Meaning}

pub meaning_ext : (m n : Meaning) → ((a : ℕ) → m.byte a ≡ n.byte a) → ((a : ℕ) → m.mark a ≡ n.mark a) → m ≡ n
meaning_ext m n p q i = record { byte = λ a. p a i; mark = λ a. q a i }

pub loan_ext : (l k : Loan) → l.name ≡ k.name → l.pages ≡ k.pages → l.size ≡ k.size → ((p : ℕ) → l.apart p ≡ k.apart p) → l ≡ k
loan_ext l k name pages size apart i = record { name = name i; pages = pages i; size = size i; apart = λ p. apart p i }

-- lawful meanings are equal where they agree at every address, so a test of all of these decides whether they are
pub agree_decided : (b : Bool) (m n : Meaning) → Lawful m → Lawful n
    → (b ≡ true → (a : ℕ) → a < 65536 → AgreeAt m n a) → (b ≡ false → ((a : ℕ) → AgreeAt m n a) → ⊥) → Decides b (m ≡ n)
agree_decided true m n lawful lawful' agree differ =
    let same : (a : ℕ) → AgreeAt m n a = λ a. elim (cases_lt a 65536) [
      | inl below ↦ agree refl a below
      | inr past ↦ ((lawful.beyond a past).0 ∙ sym (lawful'.beyond a past).0, (lawful.beyond a past).1 ∙ sym (lawful'.beyond a past).1)
    ] in
    ((λ e. meaning_ext m n (λ a. (same a).0) (λ a. (same a).1)), (λ e. refl))
agree_decided false m n lawful lawful' agree differ =
    ((λ e. absurd (false≢true e)), (λ e. absurd (differ refl (λ a. (ap (λ k. k.byte a) e, ap (λ k. k.mark a) e)))))

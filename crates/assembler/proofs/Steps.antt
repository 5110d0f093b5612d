-- What one step of a refusing pass keeps.
use Rattle.std.proofs.Common.{◌≡◌, ℕ, zero, suc, ◌<◌, ◌≤◌, ◌⊎◌, [], ◌∷◌, Some, None, Ok, Err, Option, refl, ap, ◌∙◌, subst, inl, inr, arith}
use Rattle.std.proofs.lemmas.Bool.{cases_eq}
use Rattle.listing.specs.Checks.{first_some}
use Rattle.text.specs.declared.outcomes.Refused.{Refused}
use Rattle.text.specs.Layout.{first_refused}
use Rattle.text.specs.Answer.{or_refused}

-- a refusal stands, whatever records follow
pub stands : (f : ℕ → Option Refused) (e : Refused) (i n : ℕ) → first_refused f i ≡ Some e → i ≤ n → first_refused f n ≡ Some e
unfolding first_refused
stands f e i zero h le = let is : i ≡ 0 = omega arith in subst (λ k. first_refused f k ≡ Some e) is h
stands f e i (suc n) h le = go (cases_eq i (suc n)) (λ lt. stands f e i n h lt)
  where
    go : (i ≡ suc n) ⊎ (i ≡ suc n → ⊥) → (i ≤ n → first_refused f n ≡ Some e) → first_refused f (suc n) ≡ Some e
    go (inl is) back = subst (λ k. first_refused f k ≡ Some e) is h
    go (inr not) back = ap (λ o. first_some (o ∷ f n ∷ [])) (back (omega arith))

-- no refusal before i, and one at i
pub refuses : (f : ℕ → Option Refused) (e : Refused) (i n : ℕ) → first_refused f i ≡ None → f i ≡ Some e → i < n → first_refused f n ≡ Some e
unfolding first_refused
refuses f e i n none here lt = stands f e (suc i) n (ap (λ o. first_some (o ∷ f i ∷ [])) none ∙ ap (λ o. first_some (o ∷ [])) here) lt

-- none before i, and none at i
pub passes : (f : ℕ → Option Refused) (i : ℕ) → first_refused f i ≡ None → f i ≡ None → first_refused f (suc i) ≡ None
unfolding first_refused
passes f i none here = ap (λ o. first_some (o ∷ f i ∷ [])) none ∙ ap (λ o. first_some (o ∷ [])) here

-- an answer was given, so nothing refused
pub answered : {A : Type 0} (o : Option Refused) (x y : A) → Ok y ≡ or_refused o x → o ≡ None
answered None x y e = refl
answered (Some e) x y h = let z : ◌≡◌ {A = ℕ} 0 1 = cc in absurd (omega arith)

-- a refusal was given, so it was refused
pub refused : {A : Type 0} (o : Option Refused) (x : A) (e : Refused) → Err e ≡ or_refused o x → o ≡ Some e
refused None x e h = let z : ◌≡◌ {A = ℕ} 0 1 = cc in absurd (omega arith)
refused (Some e') x e h = cc

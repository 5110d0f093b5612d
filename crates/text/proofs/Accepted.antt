-- What the acceptance of a listing says of each of its records.
use Rattle.std.proofs.Common.{◌≡◌, ℕ, zero, suc, ◌/◌, ◌<◌, ◌≤◌, Bool, true, false, ◌⊎◌, List, [], ◌∷◌, length, Some, None, Option, sym, refl, ap, ◌∙◌, inl, inr, arith}
use Rattle.std.proofs.lemmas.Bool.{cases_eq, ltb-false}
use Rattle.isa.specs.declared.refusals.Refusal.{Refusal}
use Rattle.listing.specs.declared.records.Record.{Record}
use Rattle.listing.specs.Checks.{when, first_some}
use Rattle.listing.specs.Reading.{record_at}
use Rattle.listing.specs.Rules.{rule_refusal}
use Rattle.listing.specs.Meaning.{meaning}
use Rattle.text.specs.declared.places.Layout.{Layout}
use Rattle.text.specs.declared.outcomes.Refused.{Refused}
use Rattle.text.specs.Layout.{misplaced, twice, parted_at, record_refusal, refused_at, layout_refusal, laid, first_refused, layout_refused}
use Rattle.text.specs.Image.{text_length, image_length}
use Rattle.text.specs.Values.{value_refused}
use Rattle.text.specs.Answer.{failure}

-- nothing refuses: the first check does not, nor do the others
pub first_none : {A : Type 0} (o : Option A) (os : List (Option A)) → first_some (o ∷ os) ≡ None → (o ≡ None) × (first_some os ≡ None)
first_none None os h = (refl, h)
first_none (Some e) os h = absurd cc

pub when_none : {A : Type 0} (b : Bool) (x : A) → when b x ≡ None → b ≡ false
when_none true x h = absurd cc
when_none false x h = refl

pub refused_none : (n : ℕ) (o : Option Refusal) → refused_at n o ≡ None → o ≡ None
refused_none n None h = refl
refused_none n (Some e) h = absurd cc

-- what a pass accepts, it accepts index by index
pub accepted : (f : ℕ → Option Refused) (n : ℕ) → first_refused f n ≡ None → (k : ℕ) → k < n → f k ≡ None
unfolding first_refused
accepted f zero h k lt = absurd (omega arith)
accepted f (suc n) h k lt =
    let both = first_none (first_refused f n) (f n ∷ []) h in
    go (cases_eq k n) both.0 (first_none (f n) [] both.1).0 (λ e lt. accepted f n e k lt)
  where
    go : (k ≡ n) ⊎ (k ≡ n → ⊥) → first_refused f n ≡ None → f n ≡ None → (first_refused f n ≡ None → k < n → f k ≡ None) → f k ≡ None
    go (inl e) a b back = ap f e ∙ b
    go (inr ne) a b back = back a (omega arith)

-- a record that can be laid out keeps its rules, stands in its place and defines no label again
pub record Fitting (s : Layout) (r : Record) : Type 0 where
  pub rules : rule_refusal r ≡ None
  pub placed : misplaced (meaning r) s.place ≡ false
  pub once : twice (meaning r) s.labels r ≡ false

pub fitting : (s : Layout) (r : Record) → record_refusal s r ≡ None → Fitting s r
fitting s r h =
    let all = all_pass (misplaced (meaning r) s.place) (twice (meaning r) s.labels r) (parted_at (meaning r) s.place r) (rule_refusal r) _ _ _ h in
    record { rules = all.0; placed = all.1.0; once = all.1.1 }
  where
    all_pass : (a b c : Bool) (o : Option Refusal) (x y z : Refusal)
        → first_some (o ∷ first_some (when a x ∷ when b y ∷ when c z ∷ []) ∷ []) ≡ None → (o ≡ None) × ((a ≡ false) × (b ≡ false))
    all_pass a b c o x y z h = (grind (arith, first_none, when_none), (grind (arith, first_none, when_none), grind (arith, first_none, when_none)))

-- every record of a listing whose layout is accepted is one that fits
pub record_fits : (l : List ℕ) (m : ℕ) → layout_refused l m ≡ None → (n : ℕ) (r : Record) → n < m → record_at l n ≡ Some r → Fitting (laid l n) r
record_fits l m h n r lt e =
    fitting (laid l n) r (refused_none n (record_refusal (laid l n) r)
    (ap (λ o. layout_refusal (laid l n) o n) (sym e) ∙ accepted (λ k. layout_refusal (laid l k) (record_at l k) k) m h n lt))

-- what is known of a listing that is not refused
pub record Accepted (l : List ℕ) (room : ℕ) : Type 0 where
  pub laid_out : layout_refused l (length l / 8) ≡ None
  pub small : image_length l (length l / 8) ≤ 65280
  pub valued : value_refused l (length l / 8) (text_length l (length l / 8)) (laid l (length l / 8)).labels ≡ None
  pub roomy : image_length l (length l / 8) ≤ room

pub acceptance : (l : List ℕ) (room : ℕ) → failure l room ≡ None → Accepted l room
acceptance l room h = record {
  laid_out = grind (arith, first_none, when_none);
  small = grind (arith, first_none, when_none, ltb-false);
  valued = grind (arith, first_none, when_none);
  roomy = grind (arith, first_none, when_none, ltb-false);
}

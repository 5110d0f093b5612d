-- The values of an accepted listing's records, and the places of its instructions.
use Rattle.std.proofs.Common.{◌≡◌, ℕ, ◌/◌, ◌%◌, ◌<◌, true, false, not, ◌&&◌, eqb, List, [], ◌∷◌, length, get_or, ℤ, pos, ◌+ℤ◌, Some, None, Option, sym, refl, ap, ◌∙◌}
use Rattle.std.proofs.lemmas.Bool.{cond-true, eqb-true, eq-eqb, not-false, false≢true}
use Rattle.std.specs.Option.{option_map}
use Rattle.isa.specs.declared.refusals.Refusal.{Refusal}
use Rattle.isa.specs.declared.refusals.Refusal.TheVariants as refusal
use Rattle.listing.specs.declared.records.Record.{Record}
use Rattle.listing.specs.declared.items.Body.{Body}
use Rattle.listing.specs.declared.items.Section.{Section}
use Rattle.listing.specs.declared.items.Section.TheVariants as section
use Rattle.listing.specs.declared.items.Item.TheVariants.{Words}
use Rattle.listing.specs.Checks.{when}
use Rattle.listing.specs.Reading.{record_at}
use Rattle.listing.specs.Meaning.{meaning}
use Rattle.text.specs.declared.places.Place.{Place}
use Rattle.text.specs.Layout.{laid, is_text, misplaced}
use Rattle.text.specs.Image.{address, text_length}
use Rattle.text.specs.Values.{outside, reaches, value_refusal, checked, value_refused}
use Rattle.text.specs.Immediates.{record_value}
use Rattle.text.proofs.Accepted.{first_none, when_none, refused_none, accepted}

-- an accepted record has a value, and it passed the checks
pub record Valued (p : Place) (r : Record) (o : Option ℤ) : Type 0 where
  pub value : ℤ
  pub given : o ≡ Some value
  pub inside : outside (meaning r) value ≡ false
  pub reached : reaches (meaning r) p.text value ≡ true

passed : (p : Place) (r : Record) (o : Option ℤ) → value_refusal p r o ≡ None → Valued p r o
passed p r None h = absurd cc
passed p r (Some v) h =
    let last : List (Option Refusal) = when (not (reaches (meaning r) p.text v)) refusal.Reach ∷ [] in
    let a = first_none (when (outside (meaning r) v) refusal.Value) last h in
    let b = first_none (when (not (reaches (meaning r) p.text v)) refusal.Reach) [] a.1 in
    record {
      value = v;
      given = refl;
      inside = when_none _ refusal.Value a.0;
      reached = not-false (reaches (meaning r) p.text v) (when_none _ refusal.Reach b.0);
    }

pub valued : (l : List ℕ) → value_refused l (length l / 8) (text_length l (length l / 8)) (laid l (length l / 8)).labels ≡ None
    → (n : ℕ) (r : Record) → n < length l / 8 → record_at l n ≡ Some r → Valued (laid l n).place r (record_value l r)
valued l h n r lt e =
    let m : ℕ = length l / 8 in
    let base : ℕ = text_length l m in
    let labels = (laid l m).labels in
    passed (laid l n).place r (record_value l r) (refused_none n (value_refusal (laid l n).place r (record_value l r))
    (ap (λ o. checked base labels (laid l n).place o n) (sym e) ∙ accepted (λ k. checked base labels (laid l k).place (record_at l k) k) m h n lt))

-- without a reference the value is the constant
pub constant_value : (l : List ℕ) (r : Record) (v : ℤ) → record_value l r ≡ Some v → r.reference ≡ 0 → v ≡ r.constant
constant_value l r v given zero' =
    let m : ℕ = length l / 8 in
    let other = option_map (λ k. r.constant +ℤ pos (address (text_length l m) k)) (get_or (laid l m).labels r.label None) in
    let is = cond-true (eqb r.reference 0) (Some r.constant) other (eq-eqb r.reference 0 zero') in
    let both : Some v ≡ Some r.constant = sym given ∙ is in
    cc

-- an instruction that is not misplaced stands in text, at an even address
pub in_text : (p : Place) (b : Body) → misplaced (Words b) p ≡ false → (p.section ≡ section.Text) × (p.text % 2 ≡ 0)
in_text p b h = go p.section (not-false (is_text p.section && eqb (p.text % 2) 0) h)
  where
    go : (s : Section) → (is_text s && eqb (p.text % 2) 0) ≡ true → (s ≡ section.Text) × (p.text % 2 ≡ 0)
    go section.Text e = (refl, eqb-true (p.text % 2) 0 e)
    go section.Data e = absurd (false≢true e)

-- A label of an accepted listing keeps the mark that its record gave it.
use Rattle.std.proofs.Common.{◌≡◌, ℕ, zero, suc, ◌<◌, ◌≤◌, Bool, true, false, not, ◌&&◌, ◌⊎◌, List, [], ◌∷◌, length, get_or, Some, None, Option, refl, ap, ◌∙◌, inl, inr, arith, length-set, get_or-set_other, get_or-set_same}
use lib.ListN.{length-replicate}
use Rattle.std.proofs.lemmas.Bool.{cases_eq, ltb-true}
use Rattle.isa.specs.declared.refusals.Refusal.TheVariants as refusal
use Rattle.listing.specs.declared.records.Record.{Record}
use Rattle.listing.specs.declared.items.Item.{Item}
use Rattle.listing.specs.declared.items.Item.TheVariants.{Label}
use Rattle.listing.specs.Checks.{when}
use Rattle.listing.specs.Reading.{record_at}
use Rattle.listing.specs.Rules.{bad_field, bad_constant}
use Rattle.listing.specs.Meaning.{meaning}
use Rattle.text.specs.declared.places.Mark.{Mark}
use Rattle.text.specs.declared.places.Place.{Place}
use Rattle.text.specs.Layout.{mark_at, marked_by, twice, laid, laid_more, layout_refused}
use Rattle.text.proofs.Accepted.{first_none, when_none, record_fits}

-- the table keeps its 1,024 rows
marked_length : (i : Item) (p : Place) (ls : List (Option Mark)) (r : Record) → length (marked_by i p ls r) ≡ length ls
marked_length i p ls r = grind (arith, length-set)

labels_length : (l : List ℕ) (n : ℕ) → length (laid l n).labels ≡ 1024
unfolding laid
labels_length l zero = length-replicate {A = Option Mark} 1024 None
labels_length l (suc n) = go (record_at l n) ∙ labels_length l n
  where
    go : (o : Option Record) → length (laid_more (laid l n) o).labels ≡ length (laid l n).labels
    go None = refl
    go (Some r) = marked_length (meaning r) (laid l n).place (laid l n).labels r

-- a label that keeps the rules is below 1,024
label_small : (r : Record) → bad_field r ≡ false → r.label < 1024
label_small r h = ltb-true r.label 1024 (search (sixth, h))
  where
    sixth : (a b c d e f g : Bool) → not (a && (b && (c && (d && (e && (f && g)))))) ≡ false → f ≡ true
    sixth a b c d e f g h = grind arith

-- a row that is taken stays as it is
stays : (i : Item) (p : Place) (ls : List (Option Mark)) (r : Record) (k : ℕ) (m : Mark) → twice i ls r ≡ false → get_or ls k None ≡ Some m
    → get_or (marked_by i p ls r) k None ≡ Some m
stays i p ls r k m once is = grind (arith, get_or-set_other)

module _ (l : List ℕ) (m : ℕ) (ok : layout_refused l m ≡ None) (n : ℕ) (r : Record) (lt : n < m) (e : record_at l n ≡ Some r) (label : meaning r ≡ Label) where
  small : r.label < 1024
  small = label_small r (when_none _ refusal.Field (first_none (when (bad_field r) refusal.Field) (when (bad_constant r) refusal.Constant ∷ [])
      (record_fits l m ok n r lt e).rules).0)

  kept : (k : ℕ) → n < k → k ≤ m → get_or (laid l k).labels r.label None ≡ Some (mark_at (laid l n).place)
  unfolding laid
  kept zero h le = absurd (omega arith)
  kept (suc k) h le = go (cases_eq k n) (λ h'. kept k h' (omega arith))
    where
      ls : List (Option Mark)
      ls = (laid l n).labels

      more : (o : Option Record) → record_at l k ≡ o → get_or (laid l k).labels r.label None ≡ Some (mark_at (laid l n).place)
          → get_or (laid_more (laid l k) o).labels r.label None ≡ Some (mark_at (laid l n).place)
      more None e' is = is
      more (Some r') e' is = stays (meaning r') (laid l k).place (laid l k).labels r' r.label (mark_at (laid l n).place) (record_fits l m ok k r'
          (omega arith) e').once is

      go : (k ≡ n) ⊎ (k ≡ n → ⊥) → (n < k → get_or (laid l k).labels r.label None ≡ Some (mark_at (laid l n).place))
          → get_or (laid_more (laid l k) (record_at l k)).labels r.label None ≡ Some (mark_at (laid l n).place)
      go (inl is) back =
          let long = labels_length l n in
          let bound : r.label < length (laid l n).labels = omega (arith, small) in
          ap (λ j. get_or (laid_more (laid l j) (record_at l j)).labels r.label None) is
          ∙ ap (λ o. get_or (laid_more (laid l n) o).labels r.label None) e
          ∙ ap (λ i. get_or (marked_by i (laid l n).place (laid l n).labels r) r.label None) label
          ∙ get_or-set_same (laid l n).labels r.label (Some (mark_at (laid l n).place)) None bound
      go (inr ne) back = more (record_at l k) refl (back (omega arith))

  pub label_kept : get_or (laid l m).labels r.label None ≡ Some (mark_at (laid l n).place)
  label_kept = kept m lt (omega arith)

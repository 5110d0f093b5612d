-- What a pass says of one record.
use Rattle.std.proofs.Common.{◌≡◌, ℕ, List, Some, Option, sym, ◌∙◌}
use Rattle.listing.specs.declared.records.Record.{Record}
use Rattle.listing.specs.Reading.{record_at}
use Rattle.text.specs.declared.places.Place.{Place}
use Rattle.text.specs.declared.places.Mark.{Mark}
use Rattle.text.specs.Layout.{record_refusal, refused_at, layout_refusal, laid}
use Rattle.text.specs.Image.{value}
use Rattle.text.specs.Values.{value_refusal, checked}

module _ (l : List ℕ) (i n : ℕ) (p : Place) (labels : List (Option Mark)) (r : Record) (index : n ≡ i) (known : record_at l i ≡ Some r) where
  -- the first pass refuses the record at an index as its definition does
  pub lays : record { place = p; labels = labels } ≡ laid l i
      → layout_refusal (laid l i) (record_at l i) i ≡ refused_at n (record_refusal (record { place = p; labels = labels }) r)
  lays at = sym ((λ j. refused_at (index j) (record_refusal (record { place = p; labels = labels }) r)) ∙ (λ j. layout_refusal (at j) (sym known j) i))

  -- and so does the second
  pub checks : (base : ℕ) → p ≡ (laid l i).place
      → checked base labels (laid l i).place (record_at l i) i ≡ refused_at n (value_refusal p r (value base labels r))
  checks base at = sym ((λ j. refused_at (index j) (value_refusal p r (value base labels r))) ∙ (λ j. checked base labels (at j) (sym known j) i))

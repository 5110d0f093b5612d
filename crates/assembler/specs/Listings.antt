-- All records of a listing.
use Rattle.std.specs.Prelude.{◌≡◌, ℕ, ◌/◌, ◌<◌, List, [], length, Option, slice_index_or}
use Rattle.listing.specs.Reading.{read_record, record_at}
use Rattle.text.specs.declared.places.Layout.{Layout}
use Rattle.text.specs.declared.outcomes.Refused.{Refused}
use Rattle.text.specs.Layout.{laid, layout_refused}

-- each item of a list reads as the record at its index of a listing
abbrev pub HasRecords : List ℕ → List (List ℕ) → Type 0
HasRecords l items = (i : ℕ) → i < length items → read_record (slice_index_or items i []) ≡ record_at l i

-- the layout after all records
abbrev pub laid_out : List ℕ → Layout
laid_out l = laid l (length l / 8)

-- the first refusal of the first pass over all records
abbrev pub unlaid : List ℕ → Option Refused
unlaid l = layout_refused l (length l / 8)

-- Lengths, labels and addresses agree with the bytes written.
use Rattle.std.specs.Prelude.{◌≡◌, ℕ, ◌+◌, ◌/◌, ◌%◌, ◌<◌, ◌≤◌, List, ◌++◌, length, get_or, Some, None, slice_index_or}
use Rattle.listing.specs.declared.records.Operation.TheVariants as operation
use Rattle.listing.specs.declared.records.Record.{Record}
use Rattle.listing.specs.Reading.{record_at}
use Rattle.text.specs.declared.outcomes.Answers.{Answers}
use Rattle.text.specs.Layout.{laid, mark_at}
use Rattle.text.specs.Image.{address, record_bytes, text_length, image}
use Rattle.text.specs.Origins.{image_origins}
use Rattle.text.specs.Hazards.{nowhere}

-- the address at which the record at an index begins: where its section then ends
abbrev pub address_of : List ℕ → ℕ → ℕ
address_of l n = address (text_length l (length l / 8)) (mark_at (laid l n).place)

-- the bytes of the record at an index
abbrev pub own_bytes : List ℕ → ℕ → Record → List ℕ
own_bytes l n r = let m : ℕ = length l / 8 in record_bytes (text_length l m) (laid l m).labels (laid l n).place r

-- the bytes of the record at an index stand in the image at its address, and each of them has its index as origin
pub record Stands (l : List ℕ) (n : ℕ) (r : Record) : Type 0 where
  pub before : List ℕ
  pub behind : List ℕ
  pub address : length before ≡ address_of l n
  pub stands : image l ≡ before ++ (own_bytes l n r ++ behind)
  pub origin : (k : ℕ) → k < length (own_bytes l n r) → (get_or (image_origins l) (address_of l n + k) nowhere).index ≡ n

-- the answers, the image, its origins, its records and its labels agree
pub record SizesAgree (l : List ℕ) (a : Answers) : Type 0 where
  pub whole : a.text % 16 ≡ 0
  pub within : a.text ≤ a.image
  pub most : a.image ≤ 65280
  pub written : a.image ≡ length (image l)
  pub origins : length (image_origins l) ≡ length (image l)
  pub records : (n : ℕ) (r : Record) → n < length l / 8 → record_at l n ≡ Some r → Stands l n r
  pub labels : (n : ℕ) (r : Record) → n < length l / 8 → record_at l n ≡ Some r → r.operation ≡ operation.Label
      → slice_index_or (laid l (length l / 8)).labels r.label None ≡ Some (mark_at (laid l n).place)

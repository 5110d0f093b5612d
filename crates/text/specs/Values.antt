-- The values of the records: the second pass over a listing.
use Rattle.std.specs.Prelude.{ℕ, ◌%◌, Bool, true, false, cond, not, ◌&&◌, List, [], ◌∷◌, ℤ, pos, negsuc, Some, None, Ok, Err, Option, Result, ◌==◌}
use Rattle.isa.specs.declared.refusals.Refusal.{Refusal}
use Rattle.isa.specs.declared.refusals.Refusal.TheVariants as refusal
use Rattle.listing.specs.declared.records.Record.{Record}
use Rattle.listing.specs.declared.items.First.{First}
use Rattle.listing.specs.declared.items.First.TheVariants as first
use Rattle.listing.specs.declared.items.Item.{Item}
use Rattle.listing.specs.declared.items.Item.TheVariants.{Words}
use Rattle.listing.specs.Numbers.{bits16, within}
use Rattle.listing.specs.Checks.{when, first_some}
use Rattle.listing.specs.Reading.{record_at}
use Rattle.listing.specs.Meaning.{meaning}
use Rattle.text.specs.declared.places.Place.{Place}
use Rattle.text.specs.declared.places.Mark.{Mark}
use Rattle.text.specs.declared.outcomes.Refused.{Refused}
use Rattle.text.specs.Layout.{laid, refused_at, first_refused}
use Rattle.text.specs.Image.{value, distance}

-- a value, or the refusal of a label that is not defined, with the record's index
abbrev pub found_value : Option ℤ → ℕ → Result ℤ Refused
found_value None n = Err (record { refusal = refusal.Missing; index = n })
found_value (Some v) n = Ok v

-- a branch or a call, whose value is a target
abbrev pub first_target : First → Bool
first_target (first.Branch c) = true
first_target first.Call = true
first_target _ = false

-- the same of what a record means
abbrev pub is_target : Item → Bool
is_target (Words b) = first_target b.first
is_target _ = false

-- a value that no sixteen bits have; a target is not below 0
abbrev pub outside : Item → ℤ → Bool
outside i v = not (within (cond (is_target i) (pos 0) (negsuc 32767)) (pos 65535) v)

-- an even target whose displacement in words is from −128 to 127
abbrev pub near : ℕ → ℤ → Bool
near at v = bits16 v % 2 == 0 && within (negsuc 255) (pos 254) (distance at v)

-- a branch is near its target, and a call's target is a multiple of 16
abbrev pub first_reaches : First → ℕ → ℤ → Bool
first_reaches (first.Branch c) at v = near at v
first_reaches first.Call at v = bits16 v % 16 == 0
first_reaches _ at v = true

-- the same of what a record means
abbrev pub reaches : Item → ℕ → ℤ → Bool
reaches (Words b) at v = first_reaches b.first at v
reaches _ at v = true

-- why a record's value is refused, in the order of the checks
abbrev pub value_refusal : Place → Record → Option ℤ → Option Refusal
value_refusal p r None = Some refusal.Missing
value_refusal p r (Some v) =
    first_some (when (outside (meaning r) v) refusal.Value ∷ when (not (reaches (meaning r) p.text v)) refusal.Reach ∷ [])

-- why the record at an index is refused for its value
abbrev pub checked : ℕ → List (Option Mark) → Place → Option Record → ℕ → Option Refused
checked base labels p None n = None
checked base labels p (Some r) n = refused_at n (value_refusal p r (value base labels r))

-- the first refusal of the second pass
abbrev pub value_refused : List ℕ → ℕ → ℕ → List (Option Mark) → Option Refused
value_refused l n base labels = first_refused (λ k. checked base labels (laid l k).place (record_at l k) k) n

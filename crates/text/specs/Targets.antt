-- Branches and calls, read back from the image, go where their records say.
use Rattle.std.specs.Prelude.{◌≡◌, ℕ, ◌*◌, ◌/◌, ◌<◌, List, length, pos, Some, Ok}
use Rattle.isa.specs.declared.instructions.Condition.{Condition}
use Rattle.isa.specs.declared.instructions.Instruction.TheVariants as word
use Rattle.isa.specs.Words.{read_word}
use Rattle.isa.specs.Immediates.{branch_target}
use Rattle.listing.specs.declared.records.Operation.TheVariants as operation
use Rattle.listing.specs.declared.records.Record.{Record}
use Rattle.listing.specs.Reading.{record_at}
use Rattle.text.specs.Layout.{laid}
use Rattle.text.specs.Image.{image, word_at}
use Rattle.text.specs.Immediates.{record_value}

-- the branch at an address goes to its record's value
pub record Branches (l : List ℕ) (at : ℕ) (r : Record) (c : Condition) : Type 0 where
  pub target : ℕ
  pub given : record_value l r ≡ Some (pos target)
  pub displacement : ℕ
  pub stands : read_word (word_at (image l) at) ≡ Ok (word.Branch c displacement)
  pub reaches : branch_target at displacement ≡ target

-- the call at an address goes to its record's value, sixteen times what the word holds
pub record Calls (l : List ℕ) (at : ℕ) (r : Record) : Type 0 where
  pub target : ℕ
  pub given : record_value l r ≡ Some (pos target)
  pub held : ℕ
  pub stands : read_word (word_at (image l) at) ≡ Ok (word.Call held)
  pub reaches : held * 16 ≡ target

-- every branch and call of a listing reaches its target
abbrev pub TargetsReached : List ℕ → Type 0
TargetsReached l =
    ((n : ℕ) (r : Record) (c : Condition) → n < length l / 8 → record_at l n ≡ Some r → r.operation ≡ operation.Branch c → Branches l (laid l n).place.text r c)
    × ((n : ℕ) (r : Record) → n < length l / 8 → record_at l n ≡ Some r → r.operation ≡ operation.Call → Calls l (laid l n).place.text r)

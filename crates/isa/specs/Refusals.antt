-- The refusals. Every call that refuses answers one of these, and no other number is ever sent back.
use Rattle.std.specs.Prelude.{ℕ, List, [], ◌∷◌, ◌++◌, codes, decimal}
use Rattle.isa.specs.declared.refusals.Refusal.{Refusal}
use Rattle.isa.specs.declared.refusals.Refusal.TheVariants.{Ragged, Long, Operation, Field, Constant, Misplaced, Twice, Parted, Big, Missing, Value, Reach, Short, Plan, Closed, Busy, Astray, Unknown, Reserved, Hazard, Bare, Count, Odd, Io, Trespass, Unkept, Register, Page}

-- the number of each refusal
abbrev pub refusal_number : Refusal → ℕ
refusal_number Ragged = 1
refusal_number Long = 2
refusal_number Operation = 3
refusal_number Field = 4
refusal_number Constant = 5
refusal_number Misplaced = 6
refusal_number Twice = 7
refusal_number Parted = 8
refusal_number Big = 9
refusal_number Missing = 10
refusal_number Value = 11
refusal_number Reach = 12
refusal_number Short = 13
refusal_number Plan = 14
refusal_number Closed = 15
refusal_number Busy = 16
refusal_number Astray = 17
refusal_number Unknown = 18
refusal_number Reserved = 19
refusal_number Hazard = 20
refusal_number Bare = 21
refusal_number Count = 22
refusal_number Odd = 23
refusal_number Io = 24
refusal_number Trespass = 25
refusal_number Unkept = 26
refusal_number Register = 27
refusal_number Page = 28

-- the word that stands beside the number
abbrev pub refusal_word : Refusal → List ℕ
refusal_word Ragged = codes "ragged"
refusal_word Long = codes "long"
refusal_word Operation = codes "operation"
refusal_word Field = codes "field"
refusal_word Constant = codes "constant"
refusal_word Misplaced = codes "misplaced"
refusal_word Twice = codes "twice"
refusal_word Parted = codes "parted"
refusal_word Big = codes "big"
refusal_word Missing = codes "missing"
refusal_word Value = codes "value"
refusal_word Reach = codes "reach"
refusal_word Short = codes "short"
refusal_word Plan = codes "plan"
refusal_word Closed = codes "closed"
refusal_word Busy = codes "busy"
refusal_word Astray = codes "astray"
refusal_word Unknown = codes "unknown"
refusal_word Reserved = codes "reserved"
refusal_word Hazard = codes "hazard"
refusal_word Bare = codes "bare"
refusal_word Count = codes "count"
refusal_word Odd = codes "odd"
refusal_word Io = codes "I/O"
refusal_word Trespass = codes "trespass"
refusal_word Unkept = codes "unkept"
refusal_word Register = codes "register"
refusal_word Page = codes "page"

-- how a refusal is shown: its number, a space and its word
abbrev pub refusal_text : Refusal → List ℕ
refusal_text e = decimal (refusal_number e) ++ codes " " ++ refusal_word e

-- the refusals in the order of their numbers, which begin at 1
abbrev pub refusals : List Refusal
refusals =
    Ragged ∷ Long ∷ Operation ∷ Field ∷ Constant ∷ Misplaced ∷ Twice ∷ Parted ∷ Big ∷ Missing ∷ Value ∷ Reach ∷ Short ∷ Plan
    ∷ Closed ∷ Busy ∷ Astray ∷ Unknown ∷ Reserved ∷ Hazard ∷ Bare ∷ Count ∷ Odd ∷ Io ∷ Trespass ∷ Unkept ∷ Register ∷ Page ∷ []

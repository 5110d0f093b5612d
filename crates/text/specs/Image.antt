-- The bytes of the image.
use Rattle.std.specs.Prelude.{ℕ, zero, suc, ◌+◌, ◌-◌, ◌*◌, ◌/◌, ◌%◌, Bool, true, false, cond, List, [], ◌∷◌, ◌++◌, length, replicate, ℤ, pos, ◌+ℤ◌, ◌-ℤ◌, Some, None, Option, ◌==◌, slice_index, slice_index_or}
use Rattle.std.specs.Option.{option_map, unwrap_or}
use Rattle.std.specs.Result.{result_ok}
use Rattle.isa.specs.declared.instructions.Instruction.{Instruction}
use Rattle.isa.specs.declared.instructions.Instruction.TheVariants as word
use Rattle.isa.specs.Words.{write_word}
use Rattle.listing.specs.declared.records.Record.{Record}
use Rattle.listing.specs.declared.items.Section.{Section}
use Rattle.listing.specs.declared.items.Section.TheVariants as section
use Rattle.listing.specs.declared.items.Slot.{Slot}
use Rattle.listing.specs.declared.items.Slot.TheVariants as slot
use Rattle.listing.specs.declared.items.Item.{Item}
use Rattle.listing.specs.declared.items.Item.TheVariants.{Words, Byte, Word, Align}
use Rattle.listing.specs.Numbers.{bits16}
use Rattle.listing.specs.Operands.{with_immediate}
use Rattle.listing.specs.Reading.{record_at}
use Rattle.listing.specs.Meaning.{meaning}
use Rattle.listing.specs.Slots.{slots, nop, number_of}
use Rattle.text.specs.declared.places.Place.{Place}
use Rattle.text.specs.declared.places.Mark.{Mark}
use Rattle.text.specs.Layout.{laid, here, padding}

-- the address of a mark, where data begin at the base
abbrev pub address : ℕ → Mark → ℕ
address base m = elim m.section [ section.Text ↦ m.offset | section.Data ↦ base + m.offset ]

-- a record's value: its constant, plus its label's address where it has a reference and the label is defined
abbrev pub value : ℕ → List (Option Mark) → Record → Option ℤ
value base labels r = cond (r.reference == 0) (Some r.constant) (option_map (λ m. r.constant +ℤ pos (address base m)) (slice_index_or labels r.label None))

-- how far a target is from the second word after a branch at an address
abbrev pub distance : ℕ → ℤ → ℤ
distance at v = v -ℤ pos (at + 4)

-- the instruction at an address, with its record's number: a prefix holds bits 15 to 4, a call a sixteenth of its target
abbrev pub filled : ℤ → ℕ → Slot → Instruction
filled v at (slot.Word i) = i
filled v at slot.Prefix = word.Imm (bits16 v / 16)
filled v at (slot.Low i) = with_immediate i (bits16 v % 16)
filled v at (slot.Branch c) = word.Branch c (bits16 (distance at v) / 2 % 256)
filled v at slot.Call = word.Call (bits16 v / 16)

-- an instruction's word; no instruction of a record is too large for one
abbrev pub word_of : Instruction → ℕ
word_of i = unwrap_or (result_ok (write_word i)) 0

-- the two bytes of a word, the most significant first
abbrev pub word_bytes : ℕ → List ℕ
word_bytes w = w / 256 % 256 ∷ w % 256 ∷ []

-- the bytes of the first k words of a record
unfoldable pub words : ℤ → ℕ → List Slot → ℕ → List ℕ
words v at ss zero = []
words v at ss (suc k) = words v at ss k ++ word_bytes (word_of (filled v (at + 2 * k) (slice_index_or ss k nop)))

-- the bytes of what a record at a place means, with its value
abbrev pub bytes_of : Item → Place → Record → ℤ → List ℕ
bytes_of (Words b) p r v = words (number_of b.negated v) p.text (slots p.result b r) (length (slots p.result b r))
bytes_of Byte p r v = bits16 v % 256 ∷ []
bytes_of Word p r v = word_bytes (bits16 v)
bytes_of Align p r v = replicate (padding (here p) (bits16 r.constant)) 0
bytes_of _ p r v = []

-- the bytes of a record at a place
abbrev pub record_bytes : ℕ → List (Option Mark) → Place → Record → List ℕ
record_bytes base labels p r = bytes_of (meaning r) p r (unwrap_or (value base labels r) (pos 0))

-- two sections are the same
abbrev pub same : Section → Section → Bool
same section.Text section.Text = true
same section.Data section.Data = true
same _ _ = false

-- what a record at a place puts into a section
abbrev pub portion : Section → ℕ → List (Option Mark) → Place → Option Record → List ℕ
portion s base labels p None = []
portion s base labels p (Some r) = cond (same p.section s) (record_bytes base labels p r) []

-- what the first n records put into a section
unfoldable pub section_bytes : Section → ℕ → List (Option Mark) → List ℕ → ℕ → List ℕ
section_bytes s base labels l zero = []
section_bytes s base labels l (suc n) = section_bytes s base labels l n ++ portion s base labels (laid l n).place (record_at l n)

-- the length of the text of n records, padded to a multiple of 16
abbrev pub text_length : List ℕ → ℕ → ℕ
text_length l n = (laid l n).place.text + padding (laid l n).place.text 16

-- the length of the image of n records
abbrev pub image_length : List ℕ → ℕ → ℕ
image_length l n = text_length l n + (laid l n).place.«data»

-- the text of n records, padded with zeros up to the base
abbrev pub text_of : List ℕ → ℕ → ℕ → List (Option Mark) → List ℕ
text_of l n base labels = section_bytes section.Text base labels l n ++ replicate (base - (laid l n).place.text) 0

-- the image of a listing: its text, then its data
abbrev pub image : List ℕ → List ℕ
image l =
    let n : ℕ = length l / 8 in
    text_of l n (text_length l n) (laid l n).labels ++ section_bytes section.Data (text_length l n) (laid l n).labels l n

-- the word at an address, the most significant byte first
abbrev pub word_at : List ℕ → ℕ → ℕ
word_at t a = slice_index t a * 256 + slice_index t (a + 1)

-- Which words a record makes: slots, words whose immediate may wait for the record's value.
use Rattle.std.specs.Prelude.{ℕ, ◌+◌, ◌-◌, ◌/◌, ◌%◌, Bool, false, cond, ◌&&◌, List, [], ◌∷◌, ◌++◌, length, drop, replicate, ℤ, pos, negsuc, ◌-ℤ◌, Some, None, Option, ◌==◌, nat_lt, slice_index_or}
use Rattle.isa.specs.declared.instructions.RegisterFunction.TheVariants as function
use Rattle.isa.specs.declared.instructions.ImmediateFunction.TheVariants as immediate
use Rattle.isa.specs.declared.instructions.Instruction.{Instruction}
use Rattle.isa.specs.declared.instructions.Instruction.TheVariants as word
use Rattle.isa.specs.declared.instructions.ImmediateForm.{ImmediateForm}
use Rattle.isa.specs.declared.instructions.ImmediateForm.TheVariants as form
use Rattle.isa.specs.Registers.{result as written, late}
use Rattle.listing.specs.declared.records.Record.{Record}
use Rattle.listing.specs.declared.items.First.{First}
use Rattle.listing.specs.declared.items.First.TheVariants as first
use Rattle.listing.specs.declared.items.Rest.{Rest}
use Rattle.listing.specs.declared.items.Rest.TheVariants as rest
use Rattle.listing.specs.declared.items.Body.{Body}
use Rattle.listing.specs.declared.items.Slot.{Slot}
use Rattle.listing.specs.declared.items.Slot.TheVariants as slot
use Rattle.listing.specs.declared.items.Mend.{Mend}
use Rattle.listing.specs.declared.items.Mend.TheVariants as mend
use Rattle.listing.specs.declared.items.Outline.{Outline}
use Rattle.listing.specs.Numbers.{bits16, within}
use Rattle.listing.specs.Operands.{swapped, carrying, with_immediate}

-- the number that is tested and encoded, of a value
abbrev pub number_of : Bool → ℤ → ℤ
number_of negated v = cond negated (pos 0 -ℤ v) v

-- the number of a record with no reference
abbrev pub number : Body → Record → ℤ
number b r = number_of b.negated r.constant

-- the immediates that stand in a word with no prefix
abbrev pub fits : ImmediateForm → ℤ → Bool
fits form.Signed z = within (negsuc 7) (pos 7) z
fits form.ByteOffset z = within (pos 0) (pos 15) z
fits form.WordOffset z = within (pos 0) (pos 30) z && bits16 z % 2 == 0

-- the four bits of such an immediate; bit 4 of a word offset stands in bit 0
abbrev pub field_of : ImmediateForm → ℤ → ℕ
field_of form.Signed z = bits16 z % 16
field_of form.ByteOffset z = bits16 z % 16
field_of form.WordOffset z = (bits16 z % 16 + bits16 z / 16) % 16

-- no prefix is put in: there is no reference, and the number fits
abbrev pub short : ImmediateForm → Record → ℤ → Bool
short g r z = r.reference == 0 && fits g z

-- the words that a record begins with: a prefix where one is wanted, a shift once for each count, no move of a register to itself
abbrev pub first_slots : First → Record → ℤ → List Slot
first_slots (first.Word i) r z = slot.Word i ∷ []
first_slots (first.Field g i) r z = cond (short g r z) (slot.Word (with_immediate i (field_of g z)) ∷ []) (slot.Prefix ∷ slot.Low i ∷ [])
first_slots (first.Repeat f d) r z = replicate (bits16 z) (slot.Word (word.Immediate f d 1))
first_slots (first.Move d a) r z = cond (d == a) [] (slot.Word (word.Add d a 0) ∷ [])
first_slots (first.Branch c) r z = slot.Branch c ∷ []
first_slots first.Call r z = slot.Call ∷ []

-- the words that it ends with: andi rd,0xFF keeps the low byte; xori rd,0x80 and addi rd,rd,−0x80 extend its sign
abbrev pub rest_slots : Rest → List Slot
rest_slots rest.Nothing = []
rest_slots (rest.Zero d) = slot.Word (word.Imm 0xF) ∷ slot.Word (word.Immediate immediate.Andi d 15) ∷ []
rest_slots (rest.Sign d) =
    slot.Word (word.Imm 0x8) ∷ slot.Word (word.Immediate immediate.Xori d 0) ∷ slot.Word (word.Imm 0xFF8) ∷ slot.Word (word.Addi d d 0) ∷ []
rest_slots (rest.Both d) =
    slot.Word (word.Imm 0xF) ∷ slot.Word (word.Immediate immediate.Andi d 15)
    ∷ slot.Word (word.Imm 0x8) ∷ slot.Word (word.Immediate immediate.Xori d 0) ∷ slot.Word (word.Imm 0xFF8) ∷ slot.Word (word.Addi d d 0) ∷ []

-- the words of a record that no hazard alters
abbrev pub template : Body → Record → List Slot
template b r = first_slots b.first r (number b r) ++ rest_slots b.rest

-- and r0,r0
abbrev pub nop : Slot
nop = slot.Word (word.Register function.And 0 0)

-- the register that may not be the result of the word before; 0 is none
abbrev pub slot_late : Slot → ℕ
slot_late (slot.Word i) = late i
slot_late (slot.Low i) = late i
slot_late _ = 0

-- the register that a word writes; 0 is none
abbrev pub slot_result : Slot → ℕ
slot_result (slot.Word i) = written i
slot_result (slot.Low i) = written i
slot_result slot.Call = 15
slot_result _ = 0

-- the word with its operands swapped, where that is possible
abbrev pub slot_swapped : Slot → Option Instruction
slot_swapped (slot.Word i) = swapped i
slot_swapped _ = None

-- adc and sbc
abbrev pub slot_carrying : Slot → Bool
slot_carrying (slot.Word i) = carrying i
slot_carrying _ = false

-- a word is in hazard after a word with that result
abbrev pub clash : ℕ → Slot → Bool
clash result s = nat_lt 0 result && slot_late s == result

-- a swap where there is one, else a nop
abbrev pub mend_by : Option Instruction → Mend
mend_by (Some i) = mend.Swap i
mend_by None = mend.Nop

-- how a record's first word is mended
abbrev pub mend_of : ℕ → Slot → Mend
mend_of result s = cond (clash result s) (mend_by (slot_swapped s)) mend.Keep

-- a record's words with the first one mended
abbrev pub mended : Mend → List Slot → List Slot
mended mend.Keep ss = ss
mended (mend.Swap i) ss = slot.Word i ∷ drop 1 ss
mended mend.Nop ss = nop ∷ ss

-- how a record is mended after a word with that result
abbrev pub body_mend : ℕ → Body → Record → Mend
body_mend result b r = mend_of result (slice_index_or (template b r) 0 nop)

-- the words that a record makes after a word with that result
abbrev pub slots : ℕ → Body → Record → List Slot
slots result b r = mended (body_mend result b r) (template b r)

-- adc or sbc in hazard
abbrev pub parted : ℕ → Body → Record → Bool
parted result b r = clash result (slice_index_or (template b r) 0 nop) && slot_carrying (slice_index_or (template b r) 0 nop)

-- the register that the last of some words writes
abbrev pub last_of : List Slot → ℕ
last_of ss = slot_result (slice_index_or ss (length ss - 1) nop)

-- the register that the last of a record's words writes
abbrev pub last_result : ℕ → Body → Record → ℕ
last_result result b r = last_of (slots result b r)

-- what the layout wants to know of a record's words
abbrev pub outline : ℕ → Body → Record → Outline
outline result b r = record {
  mend = body_mend result b r;
  words = length (slots result b r);
  result = last_result result b r;
  parted = parted result b r;
}

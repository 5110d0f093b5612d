-- What a record means: words to be made, data, padding, a label or a section.
use Rattle.std.specs.Prelude.{ℕ, true, false, cond, nat_lt}
use Rattle.isa.specs.declared.instructions.RegisterFunction.TheVariants as function
use Rattle.isa.specs.declared.instructions.ImmediateFunction.{ImmediateFunction}
use Rattle.isa.specs.declared.instructions.Instruction.{Instruction}
use Rattle.isa.specs.declared.instructions.Instruction.TheVariants as word
use Rattle.isa.specs.declared.instructions.ImmediateForm.{ImmediateForm}
use Rattle.isa.specs.declared.instructions.ImmediateForm.TheVariants as form
use Rattle.isa.specs.Words.{immediate_number}
use Rattle.listing.specs.declared.records.Operation.{Operation}
use Rattle.listing.specs.declared.records.Operation.TheVariants.{Add, Sub, Addi, Register, Immediate, Lw, Lb, Sw, Sb, Jal, Call, Branch, Cmp, Cmpi, J}
use Rattle.listing.specs.declared.records.Operation.TheVariants.{Lea, Lbs, Nop, Mov, Ret, Reti, Sxt, Subi, Zext, Text, Data, Byte, Word, Align, Label}
use Rattle.listing.specs.declared.records.Record.{Record}
use Rattle.listing.specs.declared.items.First.{First}
use Rattle.listing.specs.declared.items.First.TheVariants as first
use Rattle.listing.specs.declared.items.Rest.{Rest}
use Rattle.listing.specs.declared.items.Rest.TheVariants as rest
use Rattle.listing.specs.declared.items.Item.{Item}
use Rattle.listing.specs.declared.items.Item.TheVariants as item
use Rattle.listing.specs.declared.items.Section.TheVariants as section

-- words that are made without negating the value
abbrev pub words : First → Rest → Item
words f e = item.Words (record { first = f; rest = e; negated = false })

-- words with nothing after them
abbrev pub alone : First → Item
alone f = words f rest.Nothing

-- one word that is known
abbrev pub plain : Instruction → Item
plain i = alone (first.Word i)

-- an instruction with the record's value as its immediate
abbrev pub immediate : ImmediateForm → Instruction → Item
immediate g i = alone (first.Field g i)

-- addi with the negated value
abbrev pub negated_sum : ℕ → ℕ → Item
negated_sum d a = item.Words (record { first = first.Field form.Signed (word.Addi d a 0); rest = rest.Nothing; negated = true })

-- lb, and then the words that extend the byte's sign
abbrev pub signed_load : ℕ → ℕ → Item
signed_load d a = words (first.Field form.ByteOffset (word.Lb d a 0)) (rest.Sign d)

-- jal r0,0(ra)
abbrev pub jump : ℕ → Instruction
jump a = word.Jal 0 a 0

-- and r0,r0
abbrev pub no_operation : Instruction
no_operation = word.Register function.And 0 0

-- opcode 4's functions: srli and the four after it are shifts
abbrev pub function_item : ImmediateFunction → ℕ → Item
function_item f d = cond (nat_lt (immediate_number f) 6) (immediate form.Signed (word.Immediate f d 0)) (alone (first.Repeat f d))

-- what an operation with its registers means
abbrev pub meaning_of : Operation → ℕ → ℕ → ℕ → Item
meaning_of Add d a b = plain (word.Add d a b)
meaning_of Sub d a b = plain (word.Sub d a b)
meaning_of Addi d a b = immediate form.Signed (word.Addi d a 0)
meaning_of (Register f) d a b = plain (word.Register f d b)
meaning_of (Immediate f) d a b = function_item f d
meaning_of Lw d a b = immediate form.WordOffset (word.Lw d a 0)
meaning_of Lb d a b = immediate form.ByteOffset (word.Lb d a 0)
meaning_of Sw d a b = immediate form.WordOffset (word.Sw d a 0)
meaning_of Sb d a b = immediate form.ByteOffset (word.Sb d a 0)
meaning_of Jal d a b = immediate form.WordOffset (word.Jal d a 0)
meaning_of Call d a b = alone first.Call
meaning_of (Branch c) d a b = alone (first.Branch c)
meaning_of Cmp d a b = plain (word.Sub 0 a b)
meaning_of Cmpi d a b = negated_sum 0 a
meaning_of J d a b = immediate form.WordOffset (jump a)
meaning_of Lea d a b = immediate form.Signed (word.Addi d a 0)
meaning_of Lbs d a b = signed_load d a
meaning_of Nop d a b = plain no_operation
meaning_of Mov d a b = plain (word.Add d a 0)
meaning_of Ret d a b = plain (jump 15)
meaning_of Reti d a b = plain (jump 14)
meaning_of Sxt d a b = words (first.Move d a) (rest.Both d)
meaning_of Subi d a b = negated_sum d a
meaning_of Zext d a b = words (first.Move d a) (rest.Zero d)
meaning_of Text d a b = item.Section section.Text
meaning_of Data d a b = item.Section section.Data
meaning_of Byte d a b = item.Byte
meaning_of Word d a b = item.Word
meaning_of Align d a b = item.Align
meaning_of Label d a b = item.Label

-- what a record means
abbrev pub meaning : Record → Item
meaning r = meaning_of r.operation r.rd r.ra r.rb

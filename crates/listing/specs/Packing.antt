-- Which eight bytes a record is written as, and what writing has to do with reading.
use Rattle.std.specs.Prelude.{◌≡◌, ℕ, ◌+◌, ◌*◌, ◌/◌, ◌%◌, ◌<◌, Bool, cond, ◌&&◌, List, [], ◌∷◌, ◌++◌, Some, None, Ok, Err, Option, Result, ◌≢◌, nat_lt}
use Rattle.std.proofs.Common.{of_z}
use Rattle.std.specs.Int.{w32}
use Rattle.isa.specs.declared.refusals.Refusal.{Refusal}
use Rattle.isa.specs.declared.refusals.Refusal.TheVariants as refusal
use Rattle.isa.specs.Words.{register_number, immediate_number, condition_number}
use Rattle.listing.specs.declared.records.Operation.{Operation}
use Rattle.listing.specs.declared.records.Operation.TheVariants.{Add, Sub, Addi, Register, Immediate, Lw, Lb, Sw, Sb, Jal, Call, Branch, Cmp, Cmpi, J}
use Rattle.listing.specs.declared.records.Operation.TheVariants.{Lea, Lbs, Nop, Mov, Ret, Reti, Sxt, Subi, Zext, Text, Data, Byte, Word, Align, Label}
use Rattle.listing.specs.declared.records.Record.{Record}
use Rattle.listing.specs.Reading.{wide, read_record}

-- the number of an operation: opcode 3's functions from 3, opcode 4's from 9, the branches at 32 and their condition
abbrev pub operation_number : Operation → ℕ
operation_number Add = 0
operation_number Sub = 1
operation_number Addi = 2
operation_number (Register f) = 3 + register_number f
operation_number (Immediate f) = 9 + immediate_number f
operation_number Lw = 20
operation_number Lb = 21
operation_number Sw = 22
operation_number Sb = 23
operation_number Jal = 24
operation_number Call = 25
operation_number (Branch c) = 32 + condition_number c
operation_number Cmp = 48
operation_number Cmpi = 49
operation_number J = 50
operation_number Lea = 51
operation_number Lbs = 52
operation_number Nop = 53
operation_number Mov = 54
operation_number Ret = 55
operation_number Reti = 56
operation_number Sxt = 57
operation_number Subi = 58
operation_number Zext = 59
operation_number Text = 64
operation_number Data = 65
operation_number Byte = 66
operation_number Word = 67
operation_number Align = 68
operation_number Label = 69

-- a record's first 32 bits as one number, most significant bit first: the operation's seven bits, rd, ra and rb of four bits each, the
-- reference bit and the label's twelve bits
abbrev pub head_of : Record → ℕ
head_of r =
    operation_number r.operation * 0x200_0000 + r.rd * 0x20_0000 + r.ra * 0x2_0000 + r.rb * 0x2000 + r.reference * 0x1000 + r.label

-- the four bytes of a number of 32 bits, the most significant first
abbrev pub wide_bytes : ℕ → List ℕ
wide_bytes n = n / 16777216 % 256 ∷ n / 65536 % 256 ∷ n / 256 % 256 ∷ n % 256 ∷ []

-- the eight bytes of a record whose fields are in size; the last four are the constant in two's complement
abbrev pub record_bytes : Record → List ℕ
record_bytes r = wide_bytes (head_of r) ++ wide_bytes (of_z w32 r.constant)

-- each field has at most the bits that a record has for it, as a test
abbrev pub in_size : Record → Bool
in_size r = nat_lt r.rd 16 && (nat_lt r.ra 16 && (nat_lt r.rb 16 && (nat_lt r.reference 2 && nat_lt r.label 0x1000)))

-- the bytes that a record is written as, refused where a field has more bits than there are for it
abbrev pub write_record : Record → Result (List ℕ) Refusal
write_record r = cond (in_size r) (Ok (record_bytes r)) (Err refusal.Field)

-- each field has at most the bits that a record has for it
pub record InSize (r : Record) : Type 0 where
  pub rd : r.rd < 16
  pub ra : r.ra < 16
  pub rb : r.rb < 16
  pub reference : r.reference < 2
  pub label : r.label < 0x1000

-- a record in size is written as bytes that read as it; any other is refused
abbrev pub WritesBack : Record → Result (List ℕ) Refusal → Type 0
WritesBack r (Ok bytes) = InSize r × (read_record bytes ≡ Some r)
WritesBack r (Err e) = (InSize r → ⊥) × (e ≡ refusal.Field)

-- eight bytes read as a record that is written as those bytes, or begin with seven bits that are no operation's number
abbrev pub ReadsBack : List ℕ → Option Record → Type 0
ReadsBack bytes (Some r) = write_record r ≡ Ok bytes
ReadsBack bytes None = (o : Operation) → operation_number o ≢ wide bytes 0 / 0x200_0000

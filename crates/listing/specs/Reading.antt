-- What eight bytes of a listing say.
use Rattle.std.specs.Prelude.{ℕ, ◌+◌, ◌-◌, ◌*◌, ◌/◌, ◌%◌, cond, List, [], ◌∷◌, Some, None, Option, nat_lt, slice_index, slice_index_or}
use Rattle.std.proofs.Common.{to_z}
use Rattle.std.specs.Int.{w32}
use Rattle.std.specs.Option.{option_map}
use Rattle.std.specs.Result.{result_ok}
use Rattle.isa.specs.Words.{register_function, immediate_function, branch_condition}
use Rattle.listing.specs.declared.records.Operation.{Operation}
use Rattle.listing.specs.declared.records.Operation.TheVariants.{Add, Sub, Addi, Register, Immediate, Lw, Lb, Sw, Sb, Jal, Call, Branch, Cmp, Cmpi, J}
use Rattle.listing.specs.declared.records.Operation.TheVariants.{Lea, Lbs, Nop, Mov, Ret, Reti, Sxt, Subi, Zext, Text, Data, Byte, Word, Align, Label}
use Rattle.listing.specs.declared.records.Record.{Record}

-- four bytes from an index on, the most significant first
abbrev pub wide : List ℕ → ℕ → ℕ
wide l k = slice_index l k * 16777216 + slice_index l (k + 1) * 65536 + slice_index l (k + 2) * 256 + slice_index l (k + 3)

-- operations 0 to 2
abbrev pub sums : ℕ → Option Operation
sums n = slice_index_or (Some Add ∷ Some Sub ∷ Some Addi ∷ []) n None

-- operations 20 to 25
abbrev pub accesses : ℕ → Option Operation
accesses n = slice_index_or (Some Lw ∷ Some Lb ∷ Some Sw ∷ Some Sb ∷ Some Jal ∷ Some Call ∷ []) n None

-- operations 48 to 59, the pseudo-instructions
abbrev pub pseudos : ℕ → Option Operation
pseudos n =
    slice_index_or (Some Cmp ∷ Some Cmpi ∷ Some J ∷ Some Lea ∷ Some Lbs ∷ Some Nop ∷ Some Mov ∷ Some Ret ∷ Some Reti ∷ Some Sxt ∷ Some Subi ∷ Some Zext ∷ []) n None

-- operations 64 to 69, the directives
abbrev pub directives : ℕ → Option Operation
directives n = slice_index_or (Some Text ∷ Some Data ∷ Some Byte ∷ Some Word ∷ Some Align ∷ Some Label ∷ []) n None

-- the operation of a number: opcode 3's functions from 3, opcode 4's from 9, the branches at 32 and their condition
abbrev pub operation_of : ℕ → Option Operation
operation_of n =
    cond (nat_lt n 3) (sums n)
    (cond (nat_lt n 9) (option_map Register (result_ok (register_function (n - 3))))
    (cond (nat_lt n 20) (option_map Immediate (result_ok (immediate_function (n - 9))))
    (cond (nat_lt n 32) (accesses (n - 20))
    (cond (nat_lt n 48) (option_map Branch (result_ok (branch_condition (n - 32))))
    (cond (nat_lt n 64) (pseudos (n - 48))
    (directives (n - 64)))))))

-- the record of an operation and two numbers of 32 bits, most significant bit first: after the operation's seven bits rd, ra and rb of
-- four bits each, the reference bit and the label's twelve bits; then the constant
abbrev pub record_with : Option Operation → ℕ → ℕ → Option Record
record_with o head tail = option_map (λ op. record {
  operation = op;
  rd = head / 0x20_0000 % 16;
  ra = head / 0x2_0000 % 16;
  rb = head / 0x2000 % 16;
  reference = head / 0x1000 % 2;
  label = head % 0x1000;
  constant = to_z w32 tail;
}) o

-- the record of two numbers of 32 bits
abbrev pub record_of : ℕ → ℕ → Option Record
record_of head tail = record_with (operation_of (head / 0x200_0000)) head tail

-- the record of eight bytes; none where the operation's number is not listed
abbrev pub read_record : List ℕ → Option Record
read_record bytes = record_of (wide bytes 0) (wide bytes 4)

-- the record at an index of a listing
abbrev pub record_at : List ℕ → ℕ → Option Record
record_at l i = record_of (wide l (8 * i)) (wide l (8 * i + 4))

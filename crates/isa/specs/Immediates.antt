-- The sixteen bits that an instruction works with.
use Rattle.std.specs.Prelude.{ℕ, ◌+◌, ◌*◌, ◌/◌, ◌%◌, cond, Some, None, Option, nat_lt}
use Rattle.isa.specs.declared.instructions.ImmediateForm.{ImmediateForm}
use Rattle.isa.specs.declared.instructions.ImmediateForm.TheVariants.{Signed, ByteOffset, WordOffset}
use Rattle.isa.specs.declared.instructions.ImmediateField.{ImmediateField}
use Rattle.isa.specs.declared.instructions.Instruction.{Instruction}
use Rattle.isa.specs.declared.instructions.Instruction.TheVariants.{Add, Sub, Addi, Register, Immediate, Lw, Lb, Sw, Sb, Jal, Branch, Call, Imm}

-- the four-bit immediate of an instruction that has one
abbrev pub immediate_field : Instruction → Option ImmediateField
immediate_field (Add d a b) = None
immediate_field (Sub d a b) = None
immediate_field (Addi d a n) = Some (record { form = Signed; bits = n })
immediate_field (Register f d b) = None
immediate_field (Immediate f d n) = Some (record { form = Signed; bits = n })
immediate_field (Lw d a n) = Some (record { form = WordOffset; bits = n })
immediate_field (Lb d a n) = Some (record { form = ByteOffset; bits = n })
immediate_field (Sw d a n) = Some (record { form = WordOffset; bits = n })
immediate_field (Sb d a n) = Some (record { form = ByteOffset; bits = n })
immediate_field (Jal d a n) = Some (record { form = WordOffset; bits = n })
immediate_field (Branch c n) = None
immediate_field (Call n) = None
immediate_field (Imm n) = None

-- with no prefix pending: sign-extended, a byte offset, or a word offset whose bit 4 stands in bit 0
abbrev pub extended : ImmediateForm → ℕ → ℕ
extended Signed n = cond (nat_lt n 8) n ((n + 65520) % 65536)
extended ByteOffset n = n
extended WordOffset n = n / 2 * 2 + n % 2 * 16

-- the immediate: with a prefix pending its twelve bits stand before the field's four, whatever the form
abbrev pub formed : ImmediateField → Option ℕ → ℕ
formed field None = extended field.form field.bits
formed field (Some prefix) = (prefix * 16 + field.bits) % 65536

-- eight bits in two's complement, brought to sixteen
abbrev pub sign_extended : ℕ → ℕ
sign_extended d = cond (nat_lt d 128) d (d + 65280)

-- where a branch at an address goes: the displacement counts words from the second word after it
abbrev pub branch_target : ℕ → ℕ → ℕ
branch_target address d = (address + 4 + sign_extended d * 2) % 65536

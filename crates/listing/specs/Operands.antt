-- What the assembler alters in an instruction.
use Rattle.std.specs.Prelude.{ℕ, Bool, false, cond, Some, None, Option, ◌==◌}
use Rattle.isa.specs.declared.instructions.Instruction.{Instruction}
use Rattle.isa.specs.declared.instructions.Instruction.TheVariants.{Add, Addi, Register, Immediate, Lw, Lb, Sw, Sb, Jal}
use Rattle.isa.specs.Registers.{carries}

-- the same sum with its operands swapped, where they differ
abbrev pub swapped : Instruction → Option Instruction
swapped (Add d a b) = cond (a == b) None (Some (Add d b a))
swapped _ = None

-- adc and sbc, which take the carry of the word before
abbrev pub carrying : Instruction → Bool
carrying (Register f d b) = carries f
carrying _ = false

-- an instruction with another immediate, where it has one
abbrev pub with_immediate : Instruction → ℕ → Instruction
with_immediate (Addi d a m) n = Addi d a n
with_immediate (Immediate f d m) n = Immediate f d n
with_immediate (Lw d a m) n = Lw d a n
with_immediate (Lb d a m) n = Lb d a n
with_immediate (Sw d a m) n = Sw d a n
with_immediate (Sb d a m) n = Sb d a n
with_immediate (Jal d a m) n = Jal d a n
with_immediate i n = i

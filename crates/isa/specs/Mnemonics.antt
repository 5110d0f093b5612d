-- The names of the 42 operations.
use Rattle.std.specs.Prelude.{ℕ, List, codes}
use Rattle.isa.specs.declared.instructions.RegisterFunction.{RegisterFunction}
use Rattle.isa.specs.declared.instructions.RegisterFunction.TheVariants.{And, Or, Xor, Andn, Adc, Sbc}
use Rattle.isa.specs.declared.instructions.ImmediateFunction.{ImmediateFunction}
use Rattle.isa.specs.declared.instructions.ImmediateFunction.TheVariants.{Andi, Ori, Xori, Andni, Adci, Sbci, Srli, Srai, Slli, Srxi, Slxi}
use Rattle.isa.specs.declared.instructions.Condition.{Condition}
use Rattle.isa.specs.declared.instructions.Condition.TheVariants.{Br, Beq, Bne, Bc, Bnc, Bv, Bnv, Blt, Bge, Ble, Bgt, Bltu, Bgeu, Bleu, Bgtu}
use Rattle.isa.specs.declared.instructions.Instruction.{Instruction}
use Rattle.isa.specs.declared.instructions.Instruction.TheVariants.{Add, Sub, Addi, Register, Immediate, Lw, Lb, Sw, Sb, Jal, Branch, Call, Imm}

-- the names of opcode 3's functions
abbrev pub register_mnemonic : RegisterFunction → List ℕ
register_mnemonic And = codes "and"
register_mnemonic Or = codes "or"
register_mnemonic Xor = codes "xor"
register_mnemonic Andn = codes "andn"
register_mnemonic Adc = codes "adc"
register_mnemonic Sbc = codes "sbc"

-- the names of opcode 4's functions
abbrev pub immediate_mnemonic : ImmediateFunction → List ℕ
immediate_mnemonic Andi = codes "andi"
immediate_mnemonic Ori = codes "ori"
immediate_mnemonic Xori = codes "xori"
immediate_mnemonic Andni = codes "andni"
immediate_mnemonic Adci = codes "adci"
immediate_mnemonic Sbci = codes "sbci"
immediate_mnemonic Srli = codes "srli"
immediate_mnemonic Srai = codes "srai"
immediate_mnemonic Slli = codes "slli"
immediate_mnemonic Srxi = codes "srxi"
immediate_mnemonic Slxi = codes "slxi"

-- the names of the branches
abbrev pub condition_mnemonic : Condition → List ℕ
condition_mnemonic Br = codes "br"
condition_mnemonic Beq = codes "beq"
condition_mnemonic Bne = codes "bne"
condition_mnemonic Bc = codes "bc"
condition_mnemonic Bnc = codes "bnc"
condition_mnemonic Bv = codes "bv"
condition_mnemonic Bnv = codes "bnv"
condition_mnemonic Blt = codes "blt"
condition_mnemonic Bge = codes "bge"
condition_mnemonic Ble = codes "ble"
condition_mnemonic Bgt = codes "bgt"
condition_mnemonic Bltu = codes "bltu"
condition_mnemonic Bgeu = codes "bgeu"
condition_mnemonic Bleu = codes "bleu"
condition_mnemonic Bgtu = codes "bgtu"

-- the name of an instruction
abbrev pub mnemonic : Instruction → List ℕ
mnemonic (Add d a b) = codes "add"
mnemonic (Sub d a b) = codes "sub"
mnemonic (Addi d a n) = codes "addi"
mnemonic (Register f d b) = register_mnemonic f
mnemonic (Immediate f d n) = immediate_mnemonic f
mnemonic (Lw d a n) = codes "lw"
mnemonic (Lb d a n) = codes "lb"
mnemonic (Sw d a n) = codes "sw"
mnemonic (Sb d a n) = codes "sb"
mnemonic (Jal d a n) = codes "jal"
mnemonic (Branch c n) = condition_mnemonic c
mnemonic (Call n) = codes "call"
mnemonic (Imm n) = codes "imm"

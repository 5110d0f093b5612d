-- The registers of an instruction, and its interlock.
use Rattle.std.specs.Prelude.{ℕ, Bool, true, false, ◌||◌, Ok, Err, Result, ◌==◌}
use Rattle.isa.specs.declared.instructions.RegisterFunction.{RegisterFunction}
use Rattle.isa.specs.declared.instructions.RegisterFunction.TheVariants.{And, Or, Xor, Andn, Adc, Sbc}
use Rattle.isa.specs.declared.instructions.ImmediateFunction.{ImmediateFunction}
use Rattle.isa.specs.declared.instructions.ImmediateFunction.TheVariants.{Andi, Ori, Xori, Andni, Adci, Sbci, Srli, Srai, Slli, Srxi, Slxi}
use Rattle.isa.specs.declared.instructions.Instruction.{Instruction}
use Rattle.isa.specs.declared.instructions.Instruction.TheVariants.{Add, Sub, Addi, Register, Immediate, Lw, Lb, Sw, Sb, Jal, Branch, Call, Imm}
use Rattle.isa.specs.declared.refusals.Refusal.{Refusal}
use Rattle.isa.specs.Words.{read_word}

-- the register that a word writes; 0 is none, since r0 never changes
abbrev pub result : Instruction → ℕ
result (Add d a b) = d
result (Sub d a b) = d
result (Addi d a n) = d
result (Register f d b) = d
result (Immediate f d n) = d
result (Lw d a n) = d
result (Lb d a n) = d
result (Sw d a n) = 0
result (Sb d a n) = 0
result (Jal d a n) = d
result (Branch c n) = 0
result (Call n) = 15
result (Imm n) = 0

-- the register that may not be the result of the word before: rb, or what a store stores; 0 is none
abbrev pub late : Instruction → ℕ
late (Add d a b) = b
late (Sub d a b) = b
late (Addi d a n) = 0
late (Register f d b) = b
late (Immediate f d n) = 0
late (Lw d a n) = 0
late (Lb d a n) = 0
late (Sw d a n) = d
late (Sb d a n) = d
late (Jal d a n) = 0
late (Branch c n) = 0
late (Call n) = 0
late (Imm n) = 0

-- one of the word's register fields has the number r
abbrev pub names : Instruction → ℕ → Bool
names (Add d a b) r = d == r || (a == r || b == r)
names (Sub d a b) r = d == r || (a == r || b == r)
names (Addi d a n) r = d == r || a == r
names (Register f d b) r = d == r || b == r
names (Immediate f d n) r = d == r
names (Lw d a n) r = d == r || a == r
names (Lb d a n) r = d == r || a == r
names (Sw d a n) r = d == r || a == r
names (Sb d a n) r = d == r || a == r
names (Jal d a n) r = d == r || a == r
names (Branch c n) r = false
names (Call n) r = false
names (Imm n) r = false

-- adc and sbc
abbrev pub carries : RegisterFunction → Bool
carries And = false
carries Or = false
carries Xor = false
carries Andn = false
carries Adc = true
carries Sbc = true

-- adci and sbci
abbrev pub carries_immediate : ImmediateFunction → Bool
carries_immediate Andi = false
carries_immediate Ori = false
carries_immediate Xori = false
carries_immediate Andni = false
carries_immediate Adci = true
carries_immediate Sbci = true
carries_immediate Srli = false
carries_immediate Srai = false
carries_immediate Slli = false
carries_immediate Srxi = false
carries_immediate Slxi = false

-- no request is taken directly after add, sub, addi, adc, sbc, adci, sbci and imm
abbrev pub interlocked : Instruction → Bool
interlocked (Add d a b) = true
interlocked (Sub d a b) = true
interlocked (Addi d a n) = true
interlocked (Register f d b) = carries f
interlocked (Immediate f d n) = carries_immediate f
interlocked (Lw d a n) = false
interlocked (Lb d a n) = false
interlocked (Sw d a n) = false
interlocked (Sb d a n) = false
interlocked (Jal d a n) = false
interlocked (Branch c n) = false
interlocked (Call n) = false
interlocked (Imm n) = true

-- the same of what a word reads as; an unknown word is not interlocked
abbrev pub interlocked_reading : Result Instruction Refusal → Bool
interlocked_reading (Ok i) = interlocked i
interlocked_reading (Err e) = false

-- the same of a word
abbrev pub reads_interlocked : ℕ → Bool
reads_interlocked w = interlocked_reading (read_word w)

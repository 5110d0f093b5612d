-- The instruction word: four fields of four bits, from the most significant.
use Rattle.std.specs.Prelude.{ℕ, ◌+◌, ◌*◌, ◌/◌, ◌%◌, cond, List, [], ◌∷◌, Ok, Err, Result, nat_lt, slice_index_or}
use Rattle.isa.specs.declared.instructions.RegisterFunction.{RegisterFunction}
use Rattle.isa.specs.declared.instructions.RegisterFunction.TheVariants.{And, Or, Xor, Andn, Adc, Sbc}
use Rattle.isa.specs.declared.instructions.ImmediateFunction.{ImmediateFunction}
use Rattle.isa.specs.declared.instructions.ImmediateFunction.TheVariants.{Andi, Ori, Xori, Andni, Adci, Sbci, Srli, Srai, Slli, Srxi, Slxi}
use Rattle.isa.specs.declared.instructions.Condition.{Condition}
use Rattle.isa.specs.declared.instructions.Condition.TheVariants.{Br, Beq, Bne, Bc, Bnc, Bv, Bnv, Blt, Bge, Ble, Bgt, Bltu, Bgeu, Bleu, Bgtu}
use Rattle.isa.specs.declared.instructions.Instruction.{Instruction}
use Rattle.isa.specs.declared.instructions.Instruction.TheVariants.{Add, Sub, Addi, Register, Immediate, Lw, Lb, Sw, Sb, Jal, Branch, Call, Imm}
use Rattle.isa.specs.declared.refusals.Refusal.{Refusal}
use Rattle.isa.specs.declared.refusals.Refusal.TheVariants.{Field, Unknown}

-- opcode 3's functions, in order
abbrev pub register_function : ℕ → Result RegisterFunction Refusal
register_function f = slice_index_or (Ok And ∷ Ok Or ∷ Ok Xor ∷ Ok Andn ∷ Ok Adc ∷ Ok Sbc ∷ []) f (Err Unknown)

-- opcode 4's functions, in order
abbrev pub immediate_function : ℕ → Result ImmediateFunction Refusal
immediate_function f =
    slice_index_or (Ok Andi ∷ Ok Ori ∷ Ok Xori ∷ Ok Andni ∷ Ok Adci ∷ Ok Sbci ∷ Ok Srli ∷ Ok Srai ∷ Ok Slli ∷ Ok Srxi ∷ Ok Slxi ∷ []) f (Err Unknown)

-- the conditions of opcode B, in order; there is no condition 1
abbrev pub branch_condition : ℕ → Result Condition Refusal
branch_condition c =
    slice_index_or (Ok Br ∷ Err Unknown ∷ Ok Beq ∷ Ok Bne ∷ Ok Bc ∷ Ok Bnc ∷ Ok Bv ∷ Ok Bnv ∷ Ok Blt ∷ Ok Bge ∷ Ok Ble ∷ Ok Bgt ∷ Ok Bltu ∷ Ok Bgeu ∷ Ok Bleu ∷ Ok Bgtu ∷ []) c (Err Unknown)

-- an instruction of a function or a condition, where the number names one
abbrev pub of_part : {A : Type 0} → (A → Instruction) → Result A Refusal → Result Instruction Refusal
of_part make (Ok x) = Ok (make x)
of_part make (Err e) = Err e

-- the readings of the opcodes 0 to D, in order, from the other fields: d, a and b of four bits each, and all three as one number of twelve
abbrev pub readings : ℕ → ℕ → ℕ → ℕ → List (Result Instruction Refusal)
readings d a b low =
    Ok (Add d a b)
    ∷ Ok (Sub d a b)
    ∷ Ok (Addi d a b)
    ∷ of_part (λ f. Register f d b) (register_function a)
    ∷ of_part (λ f. Immediate f d b) (immediate_function a)
    ∷ Ok (Lw d a b)
    ∷ Ok (Lb d a b)
    ∷ Err Unknown
    ∷ Ok (Sw d a b)
    ∷ Ok (Sb d a b)
    ∷ Ok (Jal d a b)
    ∷ of_part (λ c. Branch c (a * 16 + b)) (branch_condition d)
    ∷ Ok (Call low)
    ∷ Ok (Imm low)
    ∷ []

-- the reading of an opcode and the other fields; the opcodes past D are unknown
abbrev pub read_fields : ℕ → ℕ → ℕ → ℕ → ℕ → Result Instruction Refusal
read_fields opcode d a b low = slice_index_or (readings d a b low) opcode (Err Unknown)

-- what a word reads as
abbrev pub read_word : ℕ → Result Instruction Refusal
read_word w = read_fields (w / 4096) (w / 256 % 16) (w / 16 % 16) (w % 16) (w % 4096)

-- the numbers of the functions of opcode 3
abbrev pub register_number : RegisterFunction → ℕ
register_number And = 0
register_number Or = 1
register_number Xor = 2
register_number Andn = 3
register_number Adc = 4
register_number Sbc = 5

-- the numbers of the functions of opcode 4
abbrev pub immediate_number : ImmediateFunction → ℕ
immediate_number Andi = 0
immediate_number Ori = 1
immediate_number Xori = 2
immediate_number Andni = 3
immediate_number Adci = 4
immediate_number Sbci = 5
immediate_number Srli = 6
immediate_number Srai = 7
immediate_number Slli = 8
immediate_number Srxi = 9
immediate_number Slxi = 10

-- the numbers of the conditions
abbrev pub condition_number : Condition → ℕ
condition_number Br = 0
condition_number Beq = 2
condition_number Bne = 3
condition_number Bc = 4
condition_number Bnc = 5
condition_number Bv = 6
condition_number Bnv = 7
condition_number Blt = 8
condition_number Bge = 9
condition_number Ble = 10
condition_number Bgt = 11
condition_number Bltu = 12
condition_number Bgeu = 13
condition_number Bleu = 14
condition_number Bgtu = 15

-- the word of an opcode and three fields, refused where a field has more than four bits
abbrev pub packed : ℕ → ℕ → ℕ → ℕ → Result ℕ Refusal
packed o d a b = cond (nat_lt d 16) (cond (nat_lt a 16) (cond (nat_lt b 16) (Ok (o * 4096 + d * 256 + a * 16 + b)) (Err Field)) (Err Field)) (Err Field)

-- the same, where the last three fields are one number
abbrev pub packed_low : ℕ → ℕ → Result ℕ Refusal
packed_low o low = packed o (low / 256) (low / 16 % 16) (low % 16)

-- the word that an instruction is written as
abbrev pub write_word : Instruction → Result ℕ Refusal
write_word (Add d a b) = packed 0 d a b
write_word (Sub d a b) = packed 1 d a b
write_word (Addi d a n) = packed 2 d a n
write_word (Register f d b) = packed 3 d (register_number f) b
write_word (Immediate f d n) = packed 4 d (immediate_number f) n
write_word (Lw d a n) = packed 5 d a n
write_word (Lb d a n) = packed 6 d a n
write_word (Sw d a n) = packed 8 d a n
write_word (Sb d a n) = packed 9 d a n
write_word (Jal d a n) = packed 10 d a n
write_word (Branch c n) = packed 11 (condition_number c) (n / 16) (n % 16)
write_word (Call n) = packed_low 12 n
write_word (Imm n) = packed_low 13 n

-- What reading and writing words have to do with one another.
use Rattle.std.specs.Prelude.{◌≡◌, ℕ, zero, suc, ◌+◌, ◌<◌, Ok, Err, Result}
use Rattle.isa.specs.declared.instructions.Instruction.{Instruction}
use Rattle.isa.specs.declared.instructions.Instruction.TheVariants.{Add, Sub, Addi, Register, Immediate, Lw, Lb, Sw, Sb, Jal, Branch, Call, Imm}
use Rattle.isa.specs.declared.refusals.Refusal.{Refusal}
use Rattle.isa.specs.declared.refusals.Refusal.TheVariants.{Field, Unknown}
use Rattle.isa.specs.Words.{read_word, write_word}

-- each field has at most the bits that the word has for it
abbrev pub InSize : Instruction → Type 0
InSize (Add d a b) = (d < 16) × (a < 16) × (b < 16)
InSize (Sub d a b) = (d < 16) × (a < 16) × (b < 16)
InSize (Addi d a n) = (d < 16) × (a < 16) × (n < 16)
InSize (Register f d b) = (d < 16) × (b < 16)
InSize (Immediate f d n) = (d < 16) × (n < 16)
InSize (Lw d a n) = (d < 16) × (a < 16) × (n < 16)
InSize (Lb d a n) = (d < 16) × (a < 16) × (n < 16)
InSize (Sw d a n) = (d < 16) × (a < 16) × (n < 16)
InSize (Sb d a n) = (d < 16) × (a < 16) × (n < 16)
InSize (Jal d a n) = (d < 16) × (a < 16) × (n < 16)
InSize (Branch c n) = n < 256
InSize (Call n) = n < 4096
InSize (Imm n) = n < 4096

-- a word reads as an instruction that is written as that word, or is unknown
abbrev pub ReadsBack : ℕ → Result Instruction Refusal → Type 0
ReadsBack w (Ok i) = write_word i ≡ Ok w
ReadsBack w (Err e) = e ≡ Unknown

-- an instruction in size is written as a word that reads as it; any other is refused
abbrev pub WritesBack : Instruction → Result ℕ Refusal → Type 0
WritesBack i (Ok w) = InSize i × (read_word w ≡ Ok i)
WritesBack i (Err e) = (InSize i → ⊥) × (e ≡ Field)

-- 1 for a word that is unknown
unfoldable pub one_unknown : Result Instruction Refusal → ℕ
one_unknown (Ok i) = 0
one_unknown (Err e) = 1

-- how many of the first n words are unknown
unfoldable pub unknowns : ℕ → ℕ
unknowns zero = 0
unknowns (suc n) = one_unknown (read_word n) + unknowns n

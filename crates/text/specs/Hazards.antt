-- No hazard is left in the finished text.
use Rattle.std.specs.Prelude.{◌≡◌, ℕ, ◌+◌, ◌/◌, ◌%◌, ◌<◌, ◌≤◌, Bool, true, false, List, length, Ok, ◌≢◌, slice_index_or}
use Rattle.isa.specs.declared.instructions.Instruction.{Instruction}
use Rattle.isa.specs.Words.{read_word}
use Rattle.isa.specs.Registers.{result, late}
use Rattle.text.specs.Image.{image, text_length, word_at}
use Rattle.text.specs.Origins.{Cause, Datum, Origin, image_origins}

-- a byte or word record
abbrev pub is_datum : Cause → Bool
is_datum Datum = true
is_datum _ = false

-- what is read past the end of a list of origins
abbrev pub nowhere : Origin
nowhere = record { index = 0; cause = Datum }

-- the byte at an address comes from no byte or word record
abbrev pub Clean : List Origin → ℕ → Type 0
Clean o a = is_datum (slice_index_or o a nowhere).cause ≡ false

-- the word after an address is not in hazard with the word at it
abbrev pub Calm : List ℕ → ℕ → Type 0
Calm t a = (i j : Instruction) → read_word (word_at t a) ≡ Ok i → read_word (word_at t (a + 2)) ≡ Ok j → 0 < result i → late j ≢ result i

-- neighbouring text words with no byte of a byte or word record are not in hazard
abbrev pub NoHazard : List ℕ → Type 0
NoHazard l =
    (a : ℕ) → a % 2 ≡ 0 → a + 4 ≤ text_length l (length l / 8)
    → Clean (image_origins l) a → Clean (image_origins l) (a + 1) → Clean (image_origins l) (a + 2) → Clean (image_origins l) (a + 3) → Calm (image l) a

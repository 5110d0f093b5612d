-- The words of a text, as loaded, and what a law may ask of them.
use Rattle.std.specs.Prelude.{◌≡◌, ℕ, ◌+◌, ◌*◌, ◌%◌, ◌<◌, ◌≤◌, Bool, true, false, Ok, Err, Result}
use Rattle.isa.specs.declared.refusals.Refusal.{Refusal}
use Rattle.isa.specs.declared.instructions.Instruction.{Instruction}
use Rattle.isa.specs.declared.instructions.Instruction.TheVariants.{Immediate, Jal, Call}
use Rattle.isa.specs.Registers.{result, late, reads_interlocked}
use Rattle.isa.specs.Words.{read_word}
use Rattle.memory.specs.Words.{word_at}
use Rattle.operations.specs.Forerunners.{extends}
use Rattle.machine.specs.declared.states.Layout.{Layout}
use Rattle.machine.specs.Layouts.{inside}
use Rattle.machine.specs.Checks.{hazard}

-- srxi and slxi
abbrev pub extended_shift : Instruction → Bool
extended_shift (Immediate f d n) = extends f
extended_shift _ = false

-- the same of what a word reads as
abbrev pub extended_reading : Result Instruction Refusal → Bool
extended_reading (Ok i) = extended_shift i
extended_reading (Err e) = false

-- the word reads as srxi or slxi
abbrev pub reads_extended : ℕ → Bool
reads_extended w = extended_reading (read_word w)

-- jal and call
abbrev pub jump : Instruction → Bool
jump (Jal d a n) = true
jump (Call n) = true
jump _ = false

-- the same of what a word reads as
abbrev pub jump_reading : Result Instruction Refusal → Bool
jump_reading (Ok i) = jump i
jump_reading (Err e) = false

-- the word reads as jal or call
abbrev pub reads_jump : ℕ → Bool
reads_jump w = jump_reading (read_word w)

-- the address of a word of the program text: even, in text, outside the service range
pub record InProgram (l : Layout) (a : ℕ) : Type 0 where
  pub even : a % 2 ≡ 0
  pub text : a < l.text
  pub apart : inside l a ≡ false

-- no word of the program text reads as srxi or slxi
abbrev pub NoExtended : Layout → (ℕ → ℕ) → Type 0
NoExtended l b = (a : ℕ) → InProgram l a → reads_extended (word_at b a) ≡ false

-- n consecutive words of a text of this size, from an even address on, that all read as interlocked
pub record InterlockedRun (size : ℕ) (b : ℕ → ℕ) (a n : ℕ) : Type 0 where
  pub even : a % 2 ≡ 0
  pub each : (k : ℕ) → k < n → (a + 2 * k < size) × (reads_interlocked (word_at b (a + 2 * k)) ≡ true)

-- no such run is longer
abbrev pub RunsWithin : ℕ → (ℕ → ℕ) → ℕ → Type 0
RunsWithin size b longest = (a n : ℕ) → InterlockedRun size b a n → n ≤ longest

-- no two neighbouring words of the program text are in hazard
abbrev pub NoHazard : Layout → (ℕ → ℕ) → Type 0
NoHazard l b =
    (a : ℕ) → InProgram l a → InProgram l (a + 2) → (i j : Instruction) → read_word (word_at b a) ≡ Ok i → read_word (word_at b (a + 2)) ≡ Ok j
    → hazard (late j) (result i) ≡ false

-- The longest run of interlocked words.
use Rattle.std.specs.Prelude.{◌≡◌, ℕ, zero, suc, ◌+◌, ◌*◌, ◌<◌, ◌≤◌, max, Bool, true, cond, List}
use Rattle.isa.specs.Registers.{reads_interlocked}
use Rattle.text.specs.Image.{word_at}

-- the word at an even address, by its number, reads as interlocked
abbrev pub locked : List ℕ → ℕ → Bool
locked l k = reads_interlocked (word_at l (2 * k))

-- the length of the run of interlocked words that ends before word n
unfoldable pub current : List ℕ → ℕ → ℕ
current l zero = 0
current l (suc n) = cond (locked l n) (current l n + 1) 0

-- the length of the longest run among the first n words
unfoldable pub longest : List ℕ → ℕ → ℕ
longest l zero = 0
longest l (suc n) = max (longest l n) (current l (suc n))

-- n words from word k on are all interlocked
abbrev pub Run : List ℕ → ℕ → ℕ → Type 0
Run l k n = (j : ℕ) → j < n → locked l (k + j) ≡ true

-- some run among the first so many words has this length, and none is longer
pub record Longest (l : List ℕ) (words r : ℕ) : Type 0 where
  pub from : ℕ
  pub within : from + r ≤ words
  pub run : Run l from r
  pub most : (k n : ℕ) → k + n ≤ words → Run l k n → n ≤ r

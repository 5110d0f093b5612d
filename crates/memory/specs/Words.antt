-- Words and images in memory.
use Rattle.std.specs.Prelude.{ℕ, ◌+◌, ◌*◌, ◌/◌, ◌%◌, cond, ◌&&◌, List, length, nat_lt, slice_index}
use Rattle.memory.specs.Meaning.{Meaning, stored}

-- the word at an address is big-endian; the addresses go round at 65,536
abbrev pub word_at : (ℕ → ℕ) → ℕ → ℕ
word_at byte a = byte a * 256 + byte ((a + 1) % 65536)

-- a word is stored high byte first
abbrev pub stored_word : Meaning → ℕ → ℕ → Meaning
stored_word m a w = stored (stored m a (w / 256)) ((a + 1) % 65536) (w % 256)

-- after the first n bytes of an image are stored from address 0 on: each open address below n holds its byte of the image
abbrev pub stored_first : Meaning → List ℕ → ℕ → Meaning
stored_first m image n = record { byte = λ k. cond (nat_lt k n && m.mark k) (slice_index image k) (m.byte k); mark = m.mark }

-- after the whole image is stored
abbrev pub stored_image : Meaning → List ℕ → Meaning
stored_image m image = stored_first m image (length image)

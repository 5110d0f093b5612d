-- Page tables and the memory that they map.
use Rattle.std.specs.Prelude.{ℕ, zero, suc, ◌+◌, ◌*◌, ◌/◌, ◌%◌, ◌<◌, Bool, false, cond, ◌&&◌, ◌||◌, List, length, ◌==◌, ◌≢◌, nat_le, nat_lt, slice_index}
use Rattle.memory.specs.Meaning.{Meaning, Loan, held}

-- the frame that a page word names: bits 13 to 0
abbrev pub frame : ℕ → ℕ
frame word = word % 16384

-- in each page word bit 14 is zero and the frame is below 32
abbrev pub Plain : List ℕ → Type 0
Plain words = (i : ℕ) → i < 16 → slice_index words i % 32768 < 32

-- no two page words name one frame
abbrev pub Distinct : List ℕ → Type 0
Distinct words = (i j : ℕ) → i < j → j < 16 → frame (slice_index words i) ≢ frame (slice_index words j)

-- what every page table keeps
abbrev pub Sound : List ℕ → Type 0
Sound words = Plain words × Distinct words

-- the page word of an address: one for each 4,096
abbrev pub word_of : List ℕ → ℕ → ℕ
word_of words a = slice_index words (a / 4096)

-- where an address lies in the buffer
abbrev pub place : List ℕ → ℕ → ℕ
place words a = frame (word_of words a) * 4096 + a % 4096

-- the address lies in the buffer
abbrev pub reached : List ℕ → List ℕ → ℕ → Bool
reached words buffer a = nat_lt a 65536 && nat_lt (place words a) (length buffer)

-- the address lies in the buffer, and bit 15 of its page word is set
abbrev pub mapped_mark : List ℕ → List ℕ → ℕ → Bool
mapped_mark words buffer a = reached words buffer a && nat_le 32768 (word_of words a)

-- mapped memory: each address at its place; what lies beyond the buffer reads 0xFF and is closed
abbrev pub mapped : List ℕ → List ℕ → Meaning
mapped words buffer = record { byte = λ a. held (reached words buffer a) buffer (place words a); mark = mapped_mark words buffer }

-- one of the first n page words names the frame
unfoldable pub named_below : List ℕ → ℕ → ℕ → Bool
named_below words zero f = false
named_below words (suc n) f = frame (slice_index words n) == f || named_below words n f

-- some page word names the frame
abbrev pub named : List ℕ → ℕ → Bool
named words f = named_below words 16 f

-- mapped memory reaches the frames that its page words name
abbrev pub mapped_loan : ℕ → List ℕ → List ℕ → Loan
mapped_loan name words buffer = record {
  name = name;
  pages = words;
  size = length buffer;
  apart = λ p. cond (named words (p / 4096)) 0 (slice_index buffer p);
}

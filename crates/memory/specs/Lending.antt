-- Every byte of a lent buffer after an image was stored through a memory over it.
use Rattle.std.specs.Prelude.{◌≡◌, ℕ, ◌/◌, ◌<◌, false, cond, ◌&&◌, List, length, nat_le, nat_lt, slice_index}
use Rattle.memory.specs.Pages.{named, place, word_of}

-- through flat memory: each place holds its byte of the image, where it has one and an address; the others are as they were
pub record FlatBytes (image before after : List ℕ) : Type 0 where
  pub size : length after ≡ length before
  pub bytes : (p : ℕ) → p < length before → slice_index after p ≡ cond (nat_lt p 65536 && nat_lt p (length image)) (slice_index image p) (slice_index before p)

-- through mapped memory: the place of an open address holds the address's byte of the image, where there is one;
-- the places of closed addresses and those in frames that no page word names are as they were
pub record MappedBytes (words image before after : List ℕ) : Type 0 where
  pub size : length after ≡ length before
  pub bytes : (a : ℕ) → a < 65536 → place words a < length before
      → slice_index after (place words a) ≡ cond (nat_le 32768 (word_of words a) && nat_lt a (length image)) (slice_index image a) (slice_index before (place words a))
  pub apart : (p : ℕ) → named words (p / 4096) ≡ false → slice_index after p ≡ slice_index before p

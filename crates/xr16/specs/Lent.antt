-- The bytes of a lent buffer once the flat memory over it is gone.
use Rattle.std.specs.Prelude.{◌≡◌, ℕ, ◌<◌, cond, List, length, nat_lt, slice_index}

-- each place holds the byte of its address; places past the last address are as they were
pub record LentBytes (byte : ℕ → ℕ) (before after : List ℕ) : Type 0 where
  pub size : length after ≡ length before
  pub bytes : (p : ℕ) → p < length before → slice_index after p ≡ cond (nat_lt p 65536) (byte p) (slice_index before p)

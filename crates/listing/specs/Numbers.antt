-- Numbers modulo 65,536 and ranges.
use Rattle.std.specs.Prelude.{ℕ, Bool, ◌&&◌, ℤ, pos, int_le, unsigned_abs}
use Rattle.std.specs.Int.{int_rem_euclid}

-- a number modulo 65,536
abbrev pub bits16 : ℤ → ℕ
bits16 z = unsigned_abs (int_rem_euclid z (pos 65536))

-- at least the first number and at most the second
abbrev pub within : ℤ → ℤ → ℤ → Bool
within low high z = int_le low z && int_le z high

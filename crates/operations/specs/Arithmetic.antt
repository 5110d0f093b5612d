-- Sixteen-bit arithmetic.
use Rattle.std.specs.Prelude.{ℕ, ◌+◌, ◌-◌, ◌%◌, Bool, cond}

-- the sum modulo 65,536
abbrev pub plus : ℕ → ℕ → ℕ
plus x y = (x + y) % 65536

-- the difference modulo 65,536
abbrev pub minus : ℕ → ℕ → ℕ
minus x y = (x + (65536 - y)) % 65536

-- the negated number modulo 65,536
abbrev pub negated : ℕ → ℕ
negated x = (65536 - x) % 65536

-- the sixteen bits inverted
abbrev pub inverted : ℕ → ℕ
inverted x = 65535 - x

-- a carry, a borrow or a shifted bit as a number
abbrev pub one_if : Bool → ℕ
one_if b = cond b 1 0

-- the address of the word after
abbrev pub following : ℕ → ℕ
following counter = (counter + 2) % 65536

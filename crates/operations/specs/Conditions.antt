-- The conditions of branches.
use Rattle.std.specs.Prelude.{ℕ, ◌+◌, Bool, true, not, ◌||◌, ℤ, pos, negsuc, ◌+ℤ◌, ◌==◌, int_lt, nat_le, nat_lt}
use Rattle.std.specs.Int.{w16}
use Rattle.std.proofs.Common.{to_z}
use Rattle.isa.specs.declared.instructions.Condition.{Condition}
use Rattle.isa.specs.declared.instructions.Condition.TheVariants.{Br, Beq, Bne, Bc, Bnc, Bv, Bnv, Blt, Bge, Ble, Bgt, Bltu, Bgeu, Bleu, Bgtu}
use Rattle.operations.specs.Arithmetic.{negated}

-- sixteen bits as a signed number, in two's complement
abbrev pub signed : ℕ → ℤ
signed x = to_z w16 x

-- the signed order
abbrev pub below : ℕ → ℕ → Bool
below x y = int_lt (signed x) (signed y)

-- the unsigned sum does not fit sixteen bits
abbrev pub sum_carries : ℕ → ℕ → Bool
sum_carries x y = nat_le 65536 (x + y)

-- the signed sum is below -32,768 or above 32,767
abbrev pub overflows : ℕ → ℕ → Bool
overflows x y = int_lt (signed x +ℤ signed y) (negsuc 32767) || int_lt (pos 32767) (signed x +ℤ signed y)

-- whether a branch goes to its target, where the sum of the word before had the operands a and b: a is compared with the negated b
abbrev pub holds : Condition → ℕ → ℕ → Bool
holds Br a b = true
holds Beq a b = a == negated b
holds Bne a b = not (a == negated b)
holds Bc a b = sum_carries a b
holds Bnc a b = not (sum_carries a b)
holds Bv a b = overflows a b
holds Bnv a b = not (overflows a b)
holds Blt a b = below a (negated b)
holds Bge a b = not (below a (negated b))
holds Ble a b = not (below (negated b) a)
holds Bgt a b = below (negated b) a
holds Bltu a b = nat_lt a (negated b)
holds Bgeu a b = nat_le (negated b) a
holds Bleu a b = nat_le a (negated b)
holds Bgtu a b = nat_lt (negated b) a

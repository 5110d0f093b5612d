-- What a test of every address tells.
use Rattle.std.proofs.Common.{◌≡◌, ℕ, ◌+◌, ◌<◌, true, false, Option, None, Some, option_map, IfSome, IsSomeAnd, subst, arith}
use Rattle.std.proofs.iter.runs.Sources.{inclusive_listed, nat_range_inclusive_steps}
use Rattle.std.specs.Iterator.Runs.{Run}
use Rattle.std.specs.Range.{range_inclusive_start, range_inclusive_end, range_inclusive_exhausted}

some_here : (o : Option ℕ) (a : ℕ) (P : ℕ → Type 0) → option_map (λ y. y) o ≡ Some a → IfSome o P → P a
some_here (Some x) a P e h = let same : x ≡ a = cc in subst P same h
some_here None a P e h = cc

-- what holds of each item of a whole run over the addresses holds of each address
pub every_address : (p : Run nat_range_inclusive_steps) (P Q : ℕ → Type 0)
    → range_inclusive_exhausted p.from ≡ false → range_inclusive_start p.from ≡ 0 → range_inclusive_end p.from ≡ 65535
    → p.whole ≡ true → ((k : ℕ) → IfSome (p.at k) P) → ((a : ℕ) → P a → Q a) → (a : ℕ) → a < 65536 → Q a
every_address p P Q fresh start end whole each weaker a below =
    let up = inclusive_listed p p.seen in
    let counts = (up.4 fresh).0 in
    let first : up.0 + a ≡ a = omega (arith, up.2) in
    let reached : a < p.len = omega (arith, counts.1 whole, up.2, up.3) in
    weaker a (subst P first (some_here (p.at a) (up.0 + a) P (counts.3 a reached) (each a)))

some_in : (o : Option ℕ) (P : ℕ → Type 0) → IsSomeAnd o P → ((a : ℕ) → P a → ⊥) → ⊥
some_in (Some x) P h none = none x h
some_in None P h none = absurd h

-- what holds of some item does not fail of every address
pub some_address : (p : Run nat_range_inclusive_steps) (P : ℕ → Type 0)
    → ((k : ℕ) × (k < p.len) × IsSomeAnd (p.at k) P) → ((a : ℕ) → P a → ⊥) → ⊥
some_address p P (k, l, h) none = some_in (p.at k) P h none

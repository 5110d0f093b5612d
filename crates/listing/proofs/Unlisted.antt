-- Numbers past the last of a group of operations name none.
use Rattle.std.proofs.Common.{◌≡◌, ℕ, ◌-◌, ◌<◌, ◌≤◌, cond, None, ◌∙◌, arith, nat_lt}
use Rattle.std.proofs.lemmas.Bool.{cond-false, cond-true, le-ltb, lt-ltb}
use Rattle.std.proofs.lemmas.List.{get_or_past}
use Rattle.listing.specs.Reading.{operation_of, pseudos, directives}

past : {A : Type 0} (n k : ℕ) (x y : A) → k ≤ n → cond (nat_lt n k) x y ≡ y
past n k x y h = cond-false (nat_lt n k) x y (le-ltb n k h)

from_48 : (n : ℕ) → 48 ≤ n → operation_of n ≡ cond (nat_lt n 64) (pseudos (n - 48)) (directives (n - 64))
from_48 n h = past n 3 _ _ (omega arith) ∙ past n 9 _ _ (omega arith) ∙ past n 20 _ _ (omega arith) ∙ past n 32 _ _ (omega arith) ∙ past n 48 _ _ h

directives_past : (n : ℕ) → 6 ≤ n → directives n ≡ None
directives_past n h = search (arith, get_or_past)

pseudos_past : (n : ℕ) → 12 ≤ n → pseudos n ≡ None
pseudos_past n h = search (arith, get_or_past)

pub no_pseudo : (n : ℕ) → 60 ≤ n → n < 64 → operation_of n ≡ None
no_pseudo n lo hi = from_48 n (omega arith) ∙ cond-true (nat_lt n 64) _ _ (lt-ltb n 64 hi) ∙ pseudos_past (n - 48) (omega arith)

pub no_directive : (n : ℕ) → 70 ≤ n → operation_of n ≡ None
no_directive n lo = from_48 n (omega arith) ∙ past n 64 _ _ (omega arith) ∙ directives_past (n - 64) (omega arith)

-- What the checks of a load give.
use Rattle.std.proofs.Common.{◌≡◌, ℕ, ◌%◌, ◌≤◌, true, arith}
use Rattle.std.proofs.lemmas.Bool.Decides.{nat_tests}
use Rattle.machine.specs.declared.states.Layout.{Layout}
use Rattle.machine.specs.Loads.{fits}

-- a layout that fits has even ends and text below 0xFF00
pub fitting : (l : Layout) (size : ℕ) → fits l size ≡ true → (l.service.low % 2 ≡ 0) × (l.service.high % 2 ≡ 0) × (l.text ≤ 65280)
fitting l size h = (grind (arith, nat_tests), grind (arith, nat_tests), grind (arith, nat_tests))

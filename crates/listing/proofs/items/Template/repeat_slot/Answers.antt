-- The word at k of one word repeated n times.
use Rattle.std.specs.Prelude.{◌≡◌, ℕ, nat_lt, zero, suc, refl}
use Rattle.std.specs.List.{slice_get}
use Rattle.std.specs.Bool.{then_some}
use Rattle.std.proofs.Common.{ap}
use lib.Dec.{leb-zero}
use Rattle.std.proofs.Math.ListN.{replicate}
use Prim.Native.Nat.compare
use Rattle.listing.proofs.items.Template.repeat_slot.Goals as goal

at_repeated : {X : Type 0} (n k : ℕ) (x : X) → then_some (nat_lt k n) x ≡ slice_get (replicate n x) k
at_repeated zero k x = rw compare.suc-zero refl
at_repeated (suc n) zero x = rw compare.suc-suc (ap (λ b. then_some b x) (leb-zero n))
at_repeated (suc n) (suc k) x = rw compare.suc-suc (at_repeated n k x)

pub returns : goal.returns
returns c = rw c.then_some.ensures (rw c.number_bits.ensures.value (at_repeated _ c.args.k _))

use Rattle.std.proofs.Common.{◌≡◌, ◌≤◌, length}
use Rattle.memory.specs.Words.{stored_first}
use Rattle.memory.proofs.storing.store_image.Given as goal

abbrev pub invariant-loop-address : goal.invariant-loop-address
invariant-loop-address g l =
    (g.M.Memory.means l.memory ≡ stored_first (g.M.Memory.means l.initial.memory) l.image l.address)
    × (g.M.Memory.loan l.memory ≡ g.M.Memory.loan l.initial.memory)
    × (l.address ≤ length l.image)

use Rattle.std.proofs.Common.{◌≡◌, map}
use Rattle.xr16.specs.Actions.{action_in}
use Rattle.xr16.specs.Playing.{nothing}
use Rattle.xr16.proofs.Led.{led, left, Small}
use Rattle.xr16.proofs.playing.play.Given as goal

abbrev pub invariant-loop-bytes : goal.invariant-loop-bytes
invariant-loop-bytes g l =
    let m = g.M.Memory.means l.memory in
    let m₀ = g.M.Memory.means l.initial.memory in
    (led m₀.mark l.initial.core.state m₀.byte nothing (map action_in l.chunks)
    ≡ led m₀.mark l.core.state m.byte l.totals (left l.chunks l.bytes-index))
    × (m.mark ≡ m₀.mark)
    × (g.M.Memory.loan l.memory ≡ g.M.Memory.loan l.initial.memory)
    × Small l.totals

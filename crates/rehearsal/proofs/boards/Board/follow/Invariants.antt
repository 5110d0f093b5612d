use Rattle.std.proofs.Common.{◌≡◌, ◌-◌, ◌≤◌, ◌&&◌}
use Rattle.machine.specs.Laws.{repeated}
use Rattle.rehearsal.specs.Boards.{Holds}
use Rattle.rehearsal.specs.Twins.{all_own}
use Rattle.rehearsal.proofs.boards.Board.follow.Given as goal

abbrev pub invariant-loop : goal.invariant-loop
invariant-loop g l =
    let m = g.M.Memory.means l.self.memory.now in
    let m₀ = g.M.Memory.means l.initial.self.memory.now in
    (all_own l.steps l.initial.self.core.state m₀.byte m₀.mark ≡ l.all && all_own (l.steps - l.counter) l.self.core.state m.byte m.mark)
    × (repeated l.steps l.initial.self.core.state m₀.byte m₀.mark ≡ repeated (l.steps - l.counter) l.self.core.state m.byte m.mark)
    × (m.mark ≡ m₀.mark)
    × Holds g.M.Memory.loan l.initial.self.memory l.self.memory
    × (l.counter ≤ l.steps)

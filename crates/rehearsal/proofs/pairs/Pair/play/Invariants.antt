use Rattle.std.proofs.Common.{◌≡◌, ◌*◌, ◌≤◌, true, drop}
use Rattle.rehearsal.specs.Boards.{HoldBoth}
use Rattle.rehearsal.specs.Stages.{nothing, rehearsed}
use Rattle.rehearsal.specs.Reports.{stage_of}
use Rattle.rehearsal.proofs.pairs.Pair.play.Given as goal

abbrev pub invariant-loop-action : goal.invariant-loop-action
invariant-loop-action g l =
    let m = g.M.Memory.means l.self.first.memory.now in
    let m₀ = g.M.Memory.means l.initial.self.first.memory.now in
    let n = g.N.Memory.means l.self.twin.memory.now in
    let n₀ = g.N.Memory.means l.initial.self.twin.memory.now in
    (rehearsed m₀.mark n₀.mark (stage_of l.initial.self.first.core.state m₀ l.initial.self.twin.core.state n₀ nothing true) l.actions
    ≡ rehearsed m₀.mark n₀.mark (stage_of l.self.first.core.state m l.self.twin.core.state n l.totals l.kept) (drop l.action-index l.actions))
    × (m.mark ≡ m₀.mark)
    × (n.mark ≡ n₀.mark)
    × HoldBoth g.M.Memory.loan g.N.Memory.loan l.initial.self l.self
    × (l.totals.own ≤ 65536 * l.action-index)
    × (l.totals.service ≤ 65536 * l.action-index)
    × (l.totals.takings ≤ 65536 * l.action-index)

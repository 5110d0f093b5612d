use Rattle.std.proofs.Common.{◌<◌, true, length, ap, ◌∙◌, rules}
use Rattle.std.proofs.lemmas.List.{drop_all}
use Rattle.rehearsal.specs.Stages.{nothing, rehearsed}
use Rattle.rehearsal.specs.Reports.{stage_of}
use Rattle.rehearsal.proofs.Staged.{turned}
use Rattle.rehearsal.proofs.pairs.Pair.play.Goals as goal

pub loop-action-preserved : goal.loop-action-preserved
loop-action-preserved g c =
    let m₀ = g.M.Memory.means c.args.self.now.first.memory.now in
    let n₀ = g.N.Memory.means c.args.self.now.twin.memory.now in
    let actions = c.args.actions.now in
    let i = c.loop-action.action-index in
    let first = c.loop-action.self.first in
    let twin = c.loop-action.self.twin in
    let first' = c.act-tally.new.self in
    let twin' = c.follow-kept.new.self in
    let within : i < length actions = search rules in
    let inv = c.loop-action.invariant in
    let acts = c.act-tally.ensures in
    let follows = c.follow-kept.ensures in (
      turned m₀.mark n₀.mark
          (rehearsed m₀.mark n₀.mark (stage_of c.args.self.now.first.core.state m₀ c.args.self.now.twin.core.state n₀ nothing true) actions)
          actions i first.core.state (g.M.Memory.means first.memory.now) twin.core.state (g.N.Memory.means twin.memory.now)
          c.loop-action.totals c.loop-action.kept
          c.act-tally.result first'.core.state (g.M.Memory.means first'.memory.now)
          twin'.core.state (g.N.Memory.means twin'.memory.now) c.added-totals.result c.follow-kept.result
          within inv.1 inv.2 inv.0 acts.exact follows.all follows.state follows.memory c.added-totals.ensures,
      ap (λ u. u.mark) acts.exact.memory ∙ inv.1,
      ap (λ u. u.mark) follows.memory ∙ inv.2,
      ((acts.holds.0 ∙ inv.3.0.0, acts.holds.1 ∙ inv.3.0.1), (follows.holds.0 ∙ inv.3.1.0, follows.holds.1 ∙ inv.3.1.1)),
      search rules,
      search rules,
      search rules,
    )

pub returns : goal.returns
returns g c =
    let m₀ = g.M.Memory.means c.args.self.now.first.memory.now in
    let n₀ = g.N.Memory.means c.args.self.now.twin.memory.now in
    let first = c.loop-action.self.first in
    let twin = c.loop-action.self.twin in
    let end = stage_of first.core.state (g.M.Memory.means first.memory.now) twin.core.state (g.N.Memory.means twin.memory.now) c.loop-action.totals c.loop-action.kept in
    let inv = c.loop-action.invariant in
    record {
      stage = inv.0 ∙ ap (rehearsed m₀.mark n₀.mark end) (drop_all c.loop-action.action-index c.args.actions.now c.loop-action-test.false);
      marks = inv.1;
      twin_marks = inv.2;
      holds = inv.3;
    }

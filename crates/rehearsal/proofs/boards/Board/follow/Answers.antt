use Rattle.std.proofs.Common.{◌≡◌, suc, ◌+◌, ◌-◌, ◌&&◌, ap, ◌∙◌, arith}
use Rattle.machine.specs.Laws.{repeated}
use Rattle.rehearsal.specs.Twins.{all_own}
use Rattle.rehearsal.proofs.Twinned.{followed, repeats}
use Rattle.rehearsal.proofs.boards.Board.follow.Goals as goal

pub loop-preserved : goal.loop-preserved
loop-preserved g c =
    let s = c.loop.self.core.state in
    let m = g.M.Memory.means c.loop.self.memory.now in
    let k = c.args.steps - (c.loop.counter + 1) in
    let left : c.args.steps - c.loop.counter ≡ suc k = omega arith in
    let made = c.step.ensures.exact in
    let inv = c.loop.invariant in (
      followed k s m _ _ _ made _ c.loop.all _ c.is_made_own-all.ensures (inv.0 ∙ ap (λ j. c.loop.all && all_own j s m.byte m.mark) left),
      inv.1 ∙ ap (λ j. repeated j s m.byte m.mark) left ∙ repeats k s m _ _ _ made,
      ap (λ u. u.mark) made.memory ∙ inv.2,
      (c.step.ensures.holds.0 ∙ inv.3.0, c.step.ensures.holds.1 ∙ inv.3.1),
      omega arith,
    )

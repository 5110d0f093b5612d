use Rattle.std.proofs.Common.{◌≡◌, ◌%◌, ◌≤◌, Ok, sym, ap, ◌∙◌, subst, rules}
use Rattle.memory.specs.Words.{word_at}
use Rattle.machine.specs.declared.states.Layout.{Layout}
use Rattle.machine.specs.Steps.{found}
use Rattle.machine.proofs.Lawful.{sound, same_layout}
use Rattle.machine.proofs.Waiting.{kept_after, below_text}
use Rattle.machine.proofs.Ways.{stands}
use Rattle.machine.proofs.body.Core.perform.Goals as goal

pub invariant_of-self : goal.invariant_of-self
invariant_of-self g c =
    let core = c.args.self.now in
    let byte = (g.M.Memory.means c.args.memory.now).byte in
    let side = c.args.side in
    let plan = c.in_ok-plan.plan in
    let made : found core.state byte side ≡ Ok plan = search rules in
    let stood = stands core.state byte side plan made in
    let word = word_at byte core.state.counter in
    let kept = sound core.state byte side word plan core.zero core.even stood.1 in
    let waits = kept_after core.state byte side c.requires (below_text core.state side core.below stood.0) (core.bounded, core.held, core.still) plan word stood.1 in
    let same = same_layout core.state byte side plan plan.effect in
    let lower = ap (λ (l : Layout). l.service.low % 2) same ∙ core.lower in
    let upper = ap (λ (l : Layout). l.service.high % 2) same ∙ core.upper in
    let below = subst (λ (l : Layout). l.text ≤ 65280) (sym same) core.below in
    simp c.apply.ensures.state (record {
      zero = kept.0;
      even = kept.1;
      lower = lower;
      upper = upper;
      below = below;
      bounded = waits.0;
      held = waits.1;
      still = waits.2;
    })

use Rattle.std.proofs.Common.{◌≡◌, suc, ◌+◌, ◌-◌, Ok, Err, sym, ap, ◌∙◌, arith, rules}
use Rattle.memory.specs.Meaning.{Meaning}
use Rattle.machine.specs.Steps.{memory_of}
use Rattle.machine.specs.Runs.{Ran, ran, no_steps}
use Rattle.machine.proofs.Running.{ran_made, ran_refused, counted_more}
use Rattle.machine.proofs.body.Core.spend.Goals as goal

pub returns-in_err-step-clause-exact : goal.returns-in_err-step-clause-exact
returns-in_err-step-clause-exact g c =
    let left : c.args.budget - c.loop.counter ≡ suc (c.args.budget - (c.loop.counter + 1)) = omega arith in
    let m = g.M.Memory.means c.loop.memory in
    let n = g.M.Memory.means c.args.memory.now in
    let done = c.turn.ensures.exact in
    let failed : c.turn.result ≡ Err c.in_err-step.field-0.0 = search rules in
    let same : c.from_residual.result ≡ Err c.in_err-step.field-0.0 = search rules in
    let e = c.loop.invariant.3 ∙ ran_refused _ c.loop.self.state m.byte m.mark c.loop.tally _ _ _ left done.answers failed in
    record {
      answers = search rules;
      state = done.state ∙ sym (ap (λ (x : Ran). x.state) e);
      memory = done.memory ∙ sym (ap (λ (x : Ran). memory_of x.bytes m.mark) e) ∙ ap (memory_of (ran c.args.budget c.args.self.now.state n.byte n.mark no_steps).bytes) c.loop.invariant.1;
    }

pub loop-preserved : goal.loop-preserved
loop-preserved g c =
    let left : c.args.budget - c.loop.counter ≡ suc (c.args.budget - (c.loop.counter + 1)) = omega arith in
    let m = g.M.Memory.means c.loop.memory in
    let done = c.turn.ensures.exact in
    let bytes = ap (λ (x : Meaning). x.byte) done.memory in
    let marks = ap (λ (x : Meaning). x.mark) done.memory in
    let made : c.turn.result ≡ Ok c.in_ok-step.step = search rules in
    let more = counted_more c.loop.tally c.in_ok-step.step in (
      simp c.count.ensures (omega arith),
      marks ∙ c.loop.invariant.1,
      c.turn.ensures.lent ∙ c.loop.invariant.2,
      c.loop.invariant.3 ∙ ran_made _ c.loop.self.state m.byte m.mark c.loop.tally _ _ _ _ _ _ _ left done.answers made done.state bytes marks c.count.ensures,
    )

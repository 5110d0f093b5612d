use Rattle.std.proofs.Common.{Err, Result, cond, sym, ap, ◌∙◌}
use Rattle.isa.specs.declared.refusals.Refusal.{Refusal}
use Rattle.isa.specs.declared.refusals.Refusal.TheVariants.{Astray}
use Rattle.memory.specs.Words.{word_at}
use Rattle.machine.specs.declared.states.Plan.{Plan}
use Rattle.machine.specs.Checks.{planned}
use Rattle.machine.proofs.states.State.found.Goals as goal

pub returns : goal.returns
returns g c =
    let s = c.args.self.now in
    let b = (g.M.Memory.means c.args.memory.now).byte in
    c.planned.ensures ∙ ap (planned s c.args.side) c.load_word.ensures
    ∙ ap (λ q. cond {A = Result Plan Refusal} q (planned s c.args.side (word_at b s.counter)) (Err Astray)) (sym (sym c.places.ensures ∙ c.if-not-places.false))

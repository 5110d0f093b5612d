use Rattle.std.proofs.Common.{ap, rules}
use Rattle.memory.specs.Meaning.{Loan, flat}
use Rattle.machine.specs.Loads.{layout}
use Rattle.xr16.specs.Actions.{actions_of}
use Rattle.xr16.specs.Playing.{playing}
use Rattle.xr16.proofs.Lent.{lent_bytes}
use Rattle.xr16.proofs.playing.xr16_play.Goals as goal

pub returns : goal.returns
returns c =
    let lent = c.load_and_play.ensures.lent in
    let name = ap (λ (l : Loan). l.name) lent in
    record {
      answer = search rules;
      memory = lent_bytes (playing (layout c.args.text c.args.lo c.args.hi) c.args.image.now (flat c.args.memory.now)
          (actions_of c.args.actions.now)).memory _ _ 0 0 (search rules) (search rules) (λ p. search rules);
    }

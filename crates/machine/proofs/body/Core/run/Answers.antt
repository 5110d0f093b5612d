use Rattle.machine.proofs.Repeating.{run_laws}
use Rattle.machine.proofs.body.Core.run.Goals as goal

pub returns-clause-laws : goal.returns-clause-laws
returns-clause-laws g c = run_laws _ _ _ _ _ _ c.spend-end.ensures.exact

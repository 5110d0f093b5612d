use Rattle.machine.proofs.Owing.{owing_laws}
use Rattle.machine.proofs.body.Core.owing.Goals as goal

pub returns-clause-laws : goal.returns-clause-laws
returns-clause-laws c = owing_laws _ _ c.owing.ensures

use Rattle.histories.proofs.Always.{requests_leave_no_mark}
use Rattle.histories.proofs.laws.leaves_no_mark.Goals as goal

pub returns-clause-law : goal.returns-clause-law
returns-clause-law c = requests_leave_no_mark

use Rattle.std.proofs.Common.{ℕ, ◌+◌, sym, subst}
use Rattle.histories.specs.Laws.{Limits}
use Rattle.histories.proofs.Bounded.{waits_are_bounded}
use Rattle.histories.proofs.laws.wait_limit.Goals as goal

pub returns-clause-limits : goal.returns-clause-limits
returns-clause-limits c =
    subst (λ (n : ℕ). Limits c.args.longest (n + 1)) (sym c.from.ensures) (waits_are_bounded c.args.longest)

pub returns-clause-law : goal.returns-clause-law
returns-clause-law c = waits_are_bounded

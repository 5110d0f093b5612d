use Rattle.std.proofs.Common.{◌≡◌, ◌+◌, ◌-◌, get_or, ap, ◌∙◌, rules}
use denote.Enum.Declared.{tag_of}
use Rattle.isa.specs.contracts.refusals.Refusal.{the_type}
use Rattle.isa.specs.declared.refusals.Refusal.TheVariants.{Page}
use Rattle.isa.specs.Refusals.{refusal_number, refusals}
use Rattle.isa.proofs.Numbers.{listed}
use Rattle.isa.proofs.refusals.Refusal.number.Goals as goal

pub returns-clause-own : goal.returns-clause-own
returns-clause-own c =
    let e = c.args.self in
    let value : tag_of the_type e + 1 ≡ refusal_number e = search rules in
    ap (λ n. get_or refusals (n - 1) Page) value ∙ listed e

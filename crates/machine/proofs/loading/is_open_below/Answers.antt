use Rattle.std.proofs.Common.{◌∙◌, refl, arith, rules, tests}
use Rattle.std.proofs.lemmas.Iterator.{YieldsList-from_range}
use Rattle.std.proofs.lemmas.Iterator.Search.{all_from_yields_List}
use Rattle.machine.proofs.Counted.{open_range}
use Rattle.machine.proofs.loading.is_open_below.Goals as goal

pub returns : goal.returns
returns g c =
    let o = (g.M.Memory.means c.args.memory.now).mark in
    all_from_yields_List o _ _ _ c.all.ensures.ran (YieldsList-from_range 0 c.args.size c.args.size refl (omega arith)) (λ x b q k. search (rules, tests))
    ∙ open_range o c.args.size

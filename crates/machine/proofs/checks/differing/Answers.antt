use Rattle.std.proofs.Common.{drop, ◌∙◌, rules, tests}
use Rattle.std.specs.List.{zip}
use Rattle.std.proofs.lemmas.Iterator.{YieldsList-from_slice, YieldsList-from_zip}
use Rattle.std.proofs.lemmas.Iterator.Adapters.{YieldsList-from_skip}
use Rattle.std.proofs.lemmas.Iterator.Consumers.{YieldsList-from_filter, count_from_yields_List}
use Rattle.std.proofs.lemmas.List.Sums.{length-filter}
use Rattle.machine.proofs.Counted.{unequal, counted_pairs}
use Rattle.machine.proofs.checks.differing.Goals as goal

pub returns : goal.returns
returns c =
    let xs = c.args.registers.now in
    let ys = c.args.copies.now in
    count_from_yields_List c.filter.result c.count.result c.count.ensures.ran (YieldsList-from_filter _ unequal
    (YieldsList-from_skip 1 (YieldsList-from_zip (YieldsList-from_slice xs (search rules)) (YieldsList-from_slice ys (search rules))) (search rules))
    c.filter.ensures.closure (λ x b q k. search (rules, tests)))
    ∙ length-filter unequal (drop 1 (zip xs ys))
    ∙ counted_pairs xs ys c.told-registers c.told-copies

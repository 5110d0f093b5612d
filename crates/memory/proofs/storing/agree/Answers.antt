use Rattle.std.proofs.Common.{true, false, Decides, refl, rules}
use Rattle.std.proofs.lemmas.Bool.{false≢true}
use Rattle.memory.specs.Meaning.{AgreeAt}
use Rattle.memory.proofs.Addresses.{every_address, some_address}
use Rattle.memory.proofs.Extent.{agree_decided}
use Rattle.memory.proofs.storing.agree.Goals as goal

pub returns : goal.returns
returns g c =
    let m = g.M.Memory.means c.args.first.now in
    let n = g.N.Memory.means c.args.second.now in
    let p = c.all.ensures.runs.0 in
    agree_decided c.all.result m n (g.M.Memory.lawful c.args.first.now) (g.N.Memory.lawful c.args.second.now)
    (λ e.
    let h = rw e at c.all.ensures.runs.2 in
    every_address p _ (AgreeAt m n) (search rules) (search rules) (search rules) h.0 (h.1 (λ a r q k. search rules))
    (λ a k. let d : Decides true (AgreeAt m n a) = search rules in d.0 refl))
    (λ e same.
    let h = rw e at c.all.ensures.runs.2 in
    some_address p _ (h (λ a r q k. search rules))
    (λ a k. let d : Decides false (AgreeAt m n a) = search rules in false≢true (d.1 (same a))))

use Rattle.std.proofs.Common.{true, false, Decides, inl, inr, refl, sym, ◌∙◌, rules}
use Rattle.std.proofs.lemmas.Bool.{cases_lt, false≢true, true_from_ne_false}
use Rattle.memory.proofs.Addresses.{every_address, some_address}
use Rattle.rehearsal.specs.Boards.{SameByte}
use Rattle.rehearsal.proofs.pairs.Pair.same_memory.Goals as goal

pub returns : goal.returns
returns g c =
    let same = SameByte c.args.self.now.first.core.state.layout
    (g.M.Memory.means c.args.self.now.first.memory.now).byte (g.N.Memory.means c.args.self.now.twin.memory.now).byte in
    let m = g.M.Memory.lawful c.args.self.now.first.memory.now in
    let n = g.N.Memory.lawful c.args.self.now.twin.memory.now in
    let p = c.all.ensures.runs.0 in (
      λ e.
          let h = rw e at c.all.ensures.runs.2 in
          every_address p _ same (search rules) (search rules) (search rules) h.0 (h.1 (λ a r q k. search rules))
          (λ a k. let d : Decides true (same a) = search rules in d.0 refl),
      λ all. true_from_ne_false c.all.result (λ e.
          let h = rw e at c.all.ensures.runs.2 in
          some_address p _ (h (λ a r q k. search rules))
          (λ a k. let d : Decides false (same a) = search rules in false≢true (d.1 (elim (cases_lt a 65536) [ inl small ↦ all a small | inr past ↦ λ _. (m.beyond a past).0 ∙ sym (n.beyond a past).0 ])))),
    )

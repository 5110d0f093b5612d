use Rattle.std.proofs.Common.{◌/◌, ◌<◌, cond, get_or, set, refl, ap, ◌∙◌, rules}
use Rattle.memory.specs.Pages.{named}
use Rattle.memory.proofs.Extent.{meaning_ext, loan_ext}
use Rattle.memory.proofs.Frames.{apart_kept}
use Rattle.memory.proofs.mapped.MappedMemoryMemory.store.Goals as goal

pub returns-then-place-self-clause-meaning : goal.returns-then-place-self-clause-meaning
returns-then-place-self-clause-meaning c = meaning_ext _ _ (λ a. search rules) (λ a. search rules)

pub returns-then-place-self-clause-lent : goal.returns-then-place-self-clause-lent
returns-then-place-self-clause-lent c =
    let words = c.args.self.now.table.words in
    let buffer = c.args.self.now.buffer.now in
    let small : c.args.address < 65536 = search rules in
    loan_ext _ _ refl refl (search rules)
    (λ p. ap (λ at. cond (named words (p / 4096)) 0 (get_or (set buffer at c.args.value) p 0)) c.place-place.ensures
    ∙ apart_kept words buffer c.args.address c.args.value p small)

use Rattle.std.proofs.Common.{ap, rules}
use Rattle.memory.proofs.Lent.{flat_bytes}
use Rattle.memory.proofs.lending.store_image_in.Goals as goal

pub returns : goal.returns
returns c =
    let lent = c.store_image.ensures.lent in
    let name = ap (λ l. l.name) lent in
    flat_bytes _ _ _ 0 0 (search rules) (search rules) (λ p. search rules) (λ p. search rules)

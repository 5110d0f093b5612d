use Rattle.std.proofs.Common.{◌≡◌, ◌≤◌, length, ◌∙◌, rules}
use Rattle.memory.specs.Words.{stored_first}
use Rattle.memory.proofs.Images.{stored_past}
use Rattle.memory.proofs.storing.store_image.Goals as goal

pub returns-in-Some : goal.returns-in-Some
returns-in-Some g c =
    let before = g.M.Memory.means c.args.memory.now in
    let image = c.args.image.now in
    let last : g.M.Memory.means c.store.new.self ≡ stored_first before image 65536 = search rules in
    let long : 65536 ≤ length image = search rules in
    record {
      meaning = last ∙ stored_past before (g.M.Memory.lawful c.args.memory.now) image (length image) long;
      lent = c.store.ensures.lent ∙ c.loop-address.invariant.1;
    }

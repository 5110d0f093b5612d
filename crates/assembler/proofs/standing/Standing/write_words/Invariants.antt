use Rattle.std.proofs.Common.{◌≡◌, ◌*◌, take}
use Rattle.listing.specs.Slots.{slots}
use Rattle.text.specs.Image.{words}
use Rattle.assembler.proofs.standing.Standing.write_words.Given as goal

abbrev pub invariant-loop-k : goal.invariant-loop-k
invariant-loop-k l =
    take (2 * l.k) l.out ≡ words l.number.number l.self.walk.place.text (slots l.self.walk.place.result l.fn.body l.self.«record») l.k

use Rattle.std.proofs.Common.{refl}
use Rattle.isa.specs.Laws.{unknowns, one_unknown}
use Rattle.isa.proofs.laws.unknown_words.Goals as goal

pub returns : goal.returns
unfolding unknowns one_unknown
returns c = refl

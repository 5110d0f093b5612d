use Rattle.std.proofs.Common.{refl}
use lib.Count.{ones}
use Rattle.text.specs.Layout.{laid, first_refused}
use Rattle.text.specs.Image.{section_bytes, words}
use Rattle.text.specs.Runs.{current, longest}
use Rattle.text.specs.Examples.{examples}
use Rattle.text.proofs.examples.worked_examples.Goals as goal

pub returns : goal.returns
unfolding examples laid first_refused section_bytes words current longest ones
returns c = record { count = refl; hold = refl }

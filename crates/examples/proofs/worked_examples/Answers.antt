use mathlib.Core.Path.{refl}
use lib.Count.{ones}
use Rattle·text.specs.Layout.{laid, first-refused}
use Rattle·text.specs.Image.{section-bytes, words}
use Rattle·text.specs.Runs.{current, longest}
use Rattle·examples·specs.Table.{examples}
use Rattle·examples·proofs.worked_examples.Needs as need

pub returns : need.returns
unfolding examples laid first-refused section-bytes words current longest ones
returns c = record { count = refl; hold = refl }

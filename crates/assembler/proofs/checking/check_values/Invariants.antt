use Rattle.std.proofs.Common.{◌≡◌, None}
use Rattle.text.specs.Layout.{laid}
use Rattle.text.specs.Values.{value_refused}
use Rattle.assembler.proofs.checking.check_values.Given as goal

abbrev pub invariant-loop-bytes : goal.invariant-loop-bytes
invariant-loop-bytes l = record {
  index : l.walk.index ≡ l.bytes-index;
  place : l.walk.place ≡ (laid l.listing.bytes.now l.bytes-index).place;
  none : value_refused l.listing.bytes.now l.bytes-index l.addresses.base l.addresses.labels.now.marks ≡ None;
}

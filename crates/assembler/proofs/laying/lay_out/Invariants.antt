use Rattle.std.proofs.Common.{◌≡◌, None}
use Rattle.text.specs.Layout.{laid, layout_refused}
use Rattle.assembler.proofs.laying.lay_out.Given as goal

abbrev pub invariant-loop-bytes : goal.invariant-loop-bytes
invariant-loop-bytes l = record {
  index : l.walk.index ≡ l.bytes-index;
  layout : record { place = l.walk.place; labels = l.labels.marks } ≡ laid l.listing.bytes.now l.bytes-index;
  none : layout_refused l.listing.bytes.now l.bytes-index ≡ None;
}

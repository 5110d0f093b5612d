use Rattle.std.proofs.Common.{◌≡◌, take}
use Rattle.listing.specs.declared.items.Section.TheVariants.{Text, Data}
use Rattle.text.specs.Layout.{laid}
use Rattle.text.specs.Image.{section_bytes}
use Rattle.assembler.proofs.writing.write_sections.Given as goal

abbrev pub invariant-loop-bytes : goal.invariant-loop-bytes
invariant-loop-bytes l = record {
  index : l.walk.index ≡ l.bytes-index;
  place : l.walk.place ≡ (laid l.listing.bytes.now l.bytes-index).place;
  text : take l.walk.place.text l.text ≡ section_bytes Text l.addresses.base l.addresses.labels.now.marks l.listing.bytes.now l.bytes-index;
  stored : take l.walk.place.«data» l.«data» ≡ section_bytes Data l.addresses.base l.addresses.labels.now.marks l.listing.bytes.now l.bytes-index;
}

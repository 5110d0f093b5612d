-- What a pass wants to know of a record at a place.
use Rattle.listing.specs.declared.items.Item.{Item}
use Rattle.listing.specs.declared.items.Item.TheVariants.{Words, Byte, Word, Align, Label, Section as Turn}
use Rattle.listing.specs.declared.items.Mend.{Mend}
use Rattle.listing.specs.declared.items.Mend.TheVariants.{Keep}
use Rattle.listing.specs.declared.records.Record.{Record}
use Rattle.listing.specs.Slots.{body_mend}
use Rattle.text.specs.declared.places.Place.{Place}
use Rattle.text.specs.Layout.{size_of, result_of, parted_at}
use Rattle.assembler.specs.declared.measuring.Measure.{Measure}

-- how its first word is mended; only words are
abbrev pub mend_at : Item → Place → Record → Mend
mend_at (Words b) p r = body_mend p.result b r
mend_at Byte p r = Keep
mend_at Word p r = Keep
mend_at Align p r = Keep
mend_at Label p r = Keep
mend_at (Turn s) p r = Keep

-- how it is mended, how many bytes it adds, the register that its last word writes, and whether adc or sbc is in hazard
abbrev pub measured : Item → Place → Record → Measure
measured i p r = record { mend = mend_at i p r; size = size_of i p r; result = result_of i p r; parted = parted_at i p r }

-- Where each byte of the image comes from.
use Rattle.std.specs.Prelude.{ℕ, zero, suc, ◌-◌, ◌/◌, cond, List, [], ◌∷◌, ◌++◌, length, replicate, Some, None, Option, ◌==◌, slice_index_or}
use Rattle.isa.specs.declared.instructions.Instruction.{Instruction}
use Rattle.isa.specs.declared.instructions.Instruction.TheVariants.{Imm}
use Rattle.listing.specs.declared.records.Record.{Record}
use Rattle.listing.specs.declared.items.Section.{Section}
use Rattle.listing.specs.declared.items.Section.TheVariants as section
use Rattle.listing.specs.declared.items.Slot.{Slot}
use Rattle.listing.specs.declared.items.Slot.TheVariants as slot
use Rattle.listing.specs.declared.items.Mend.{Mend}
use Rattle.listing.specs.declared.items.Mend.TheVariants as mend
use Rattle.listing.specs.declared.items.Item.{Item}
use Rattle.listing.specs.declared.items.Item.TheVariants.{Words, Byte, Word, Align}
use Rattle.listing.specs.Numbers.{bits16}
use Rattle.listing.specs.Reading.{record_at}
use Rattle.listing.specs.Meaning.{meaning}
use Rattle.listing.specs.Slots.{slots, body_mend, nop}
use Rattle.text.specs.declared.places.Place.{Place}
use Rattle.text.specs.Layout.{laid, here, padding}
use Rattle.text.specs.Image.{same, text_length}

-- a word of the record's own, a prefix or a nop put in for it, data of a byte or word record, padding of an align record, padding at the end of text
pub data Cause : Type 0 where
  Own : Cause
  Prefix : Cause
  Inserted : Cause
  Datum : Cause
  Alignment : Cause
  End : Cause

-- the record and the cause of a byte; padding at the end of text has the number of records as its index
pub record Origin : Type 0 where
  pub index : ℕ
  pub cause : Cause

-- a prefix is not the record's own word
abbrev pub instruction_cause : Instruction → Cause
instruction_cause (Imm n) = Prefix
instruction_cause _ = Own

-- the cause of a word that a record's template has
abbrev pub slot_cause : Slot → Cause
slot_cause (slot.Word i) = instruction_cause i
slot_cause slot.Prefix = Prefix
slot_cause _ = Own

-- the cause of the word at k of a mended record: only the first can be a nop put in
abbrev pub word_cause : Mend → ℕ → Slot → Cause
word_cause mend.Nop k s = cond (k == 0) Inserted (slot_cause s)
word_cause _ k s = slot_cause s

-- the causes of the bytes of a record's first k words
unfoldable pub word_causes : Mend → List Slot → ℕ → List Cause
word_causes m ss zero = []
word_causes m ss (suc k) = word_causes m ss k ++ (word_cause m k (slice_index_or ss k nop) ∷ word_cause m k (slice_index_or ss k nop) ∷ [])

-- the causes of the bytes of what a record at a place means
abbrev pub causes_of : Item → Place → Record → List Cause
causes_of (Words b) p r = word_causes (body_mend p.result b r) (slots p.result b r) (length (slots p.result b r))
causes_of Byte p r = Datum ∷ []
causes_of Word p r = Datum ∷ Datum ∷ []
causes_of Align p r = replicate (padding (here p) (bits16 r.constant)) Alignment
causes_of _ p r = []

-- the causes with the index of their record
abbrev pub at_index : ℕ → List Cause → List Origin
at_index n [] = []
at_index n (c ∷ cs) = record { index = n; cause = c } ∷ at_index n cs

-- the origins of what the record at an index puts into a section
abbrev pub portion_origins : Section → Place → Option Record → ℕ → List Origin
portion_origins s p None n = []
portion_origins s p (Some r) n = cond (same p.section s) (at_index n (causes_of (meaning r) p r)) []

-- the origins of what the first n records put into a section
unfoldable pub section_origins : Section → List ℕ → ℕ → List Origin
section_origins s l zero = []
section_origins s l (suc n) = section_origins s l n ++ portion_origins s (laid l n).place (record_at l n) n

-- the origins of the text
abbrev pub text_origins : List ℕ → List Origin
text_origins l =
    let n : ℕ = length l / 8 in
    section_origins section.Text l n ++ replicate (text_length l n - (laid l n).place.text) (record { index = n; cause = End })

-- the origin of each byte of the image
abbrev pub image_origins : List ℕ → List Origin
image_origins l = text_origins l ++ section_origins section.Data l (length l / 8)

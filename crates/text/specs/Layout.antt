-- Where each record's bytes go: the first pass over a listing.
use Rattle.std.specs.Prelude.{ℕ, zero, suc, ◌+◌, ◌-◌, ◌*◌, ◌%◌, Bool, true, false, cond, not, ◌&&◌, List, [], ◌∷◌, length, replicate, is_some, Some, None, Option, ◌==◌, slice_index_or, slice_set}
use Rattle.std.specs.Option.{option_map}
use Rattle.isa.specs.declared.refusals.Refusal.{Refusal}
use Rattle.isa.specs.declared.refusals.Refusal.TheVariants as refusal
use Rattle.listing.specs.declared.records.Record.{Record}
use Rattle.listing.specs.declared.items.Section.{Section}
use Rattle.listing.specs.declared.items.Section.TheVariants as section
use Rattle.listing.specs.declared.items.Item.{Item}
use Rattle.listing.specs.declared.items.Item.TheVariants.{Words, Byte, Word, Align, Label, Section as Turn}
use Rattle.listing.specs.Numbers.{bits16}
use Rattle.listing.specs.Checks.{when, first_some}
use Rattle.listing.specs.Reading.{record_at}
use Rattle.listing.specs.Rules.{rule_refusal}
use Rattle.listing.specs.Meaning.{meaning}
use Rattle.listing.specs.Slots.{slots, last_result, parted}
use Rattle.text.specs.declared.places.Place.{Place}
use Rattle.text.specs.declared.places.Mark.{Mark}
use Rattle.text.specs.declared.places.Layout.{Layout}
use Rattle.text.specs.declared.outcomes.Refused.{Refused}

-- where the section ends
abbrev pub here : Place → ℕ
here p = elim p.section [ section.Text ↦ p.text | section.Data ↦ p.«data» ]

-- how many bytes bring n to a multiple of m; none where m is 0
abbrev pub padding : ℕ → ℕ → ℕ
padding n m = cond (m == 0) 0 ((m - n % m) % m)

-- how many bytes a record adds to its section
abbrev pub size_of : Item → Place → Record → ℕ
size_of (Words b) p r = 2 * length (slots p.result b r)
size_of Byte p r = 1
size_of Word p r = 2
size_of Align p r = padding (here p) (bits16 r.constant)
size_of _ p r = 0

-- the register that the last text word then writes, where the record adds a byte to text; data and padding write none
abbrev pub result_of : Item → Place → Record → ℕ
result_of (Words b) p r = last_result p.result b r
result_of _ p r = 0

-- the section that the next record stands in
abbrev pub section_after : Item → Section → Section
section_after (Turn t) s = t
section_after _ s = s

-- the place after so many more bytes in a section; where there are none, or they are data, the last text word is the same as before
abbrev pub grown : Section → Place → ℕ → ℕ → Section → Place
grown section.Text p n result after = record { section = after; text = p.text + n; «data» = p.«data»; result = cond (n == 0) p.result result }
grown section.Data p n result after = record { section = after; text = p.text; «data» = p.«data» + n; result = p.result }

-- the place after what a record means
abbrev pub moved_by : Item → Place → Record → Place
moved_by i p r = grown p.section p (size_of i p r) (result_of i p r) (section_after i p.section)

-- the place after a record
abbrev pub moved : Place → Record → Place
moved p r = moved_by (meaning r) p r

-- the place after the record at an index, if there is one
abbrev pub after : Place → Option Record → Place
after p None = p
after p (Some r) = moved p r

-- a label record
abbrev pub is_label : Item → Bool
is_label Label = true
is_label _ = false

-- the end of the section, which a label there names
abbrev pub mark_at : Place → Mark
mark_at p = record { section = p.section; offset = here p }

-- the labels after what a record means
abbrev pub marked_by : Item → Place → List (Option Mark) → Record → List (Option Mark)
marked_by i p labels r = cond (is_label i) (slice_set labels r.label (Some (mark_at p))) labels

-- the text section
abbrev pub is_text : Section → Bool
is_text section.Text = true
is_text section.Data = false

-- an instruction in data, or an instruction or a word at an odd address
abbrev pub misplaced : Item → Place → Bool
misplaced (Words b) p = not (is_text p.section && p.text % 2 == 0)
misplaced Word p = here p % 2 == 1
misplaced _ p = false

-- a label that is already defined
abbrev pub twice : Item → List (Option Mark) → Record → Bool
twice i labels r = is_label i && is_some (slice_index_or labels r.label None)

-- adc or sbc in hazard
abbrev pub parted_at : Item → Place → Record → Bool
parted_at (Words b) p r = parted p.result b r
parted_at _ p r = false

-- why a record cannot stand where it does, in the order of the checks
abbrev pub place_refusal : Item → Layout → Record → Option Refusal
place_refusal i s r =
    first_some (when (misplaced i s.place) refusal.Misplaced ∷ when (twice i s.labels r) refusal.Twice ∷ when (parted_at i s.place r) refusal.Parted ∷ [])

-- why a record cannot be laid out: its own rules come first
abbrev pub record_refusal : Layout → Record → Option Refusal
record_refusal s r = first_some (rule_refusal r ∷ place_refusal (meaning r) s r ∷ [])

-- a refusal with the index of its record
abbrev pub refused_at : ℕ → Option Refusal → Option Refused
refused_at n o = option_map (λ e. record { refusal = e; index = n }) o

-- why the record at an index cannot be laid out
abbrev pub layout_refusal : Layout → Option Record → ℕ → Option Refused
layout_refusal s None n = Some (record { refusal = refusal.Operation; index = n })
layout_refusal s (Some r) n = refused_at n (record_refusal s r)

-- the layout after one record more
abbrev pub laid_more : Layout → Option Record → Layout
laid_more s None = s
laid_more s (Some r) = record { place = moved s.place r; labels = marked_by (meaning r) s.place s.labels r }

-- a listing begins in text, at address 0, with no label defined
abbrev pub start : Layout
start = record { place = record { section = section.Text; text = 0; «data» = 0; result = 0 }; labels = replicate 1024 None }

-- the layout after the first n records
unfoldable pub laid : List ℕ → ℕ → Layout
laid l zero = start
laid l (suc n) = laid_more (laid l n) (record_at l n)

-- the first refusal of a check that is made of each index below n in turn
unfoldable pub first_refused : (ℕ → Option Refused) → ℕ → Option Refused
first_refused f zero = None
first_refused f (suc n) = first_some (first_refused f n ∷ f n ∷ [])

-- the first refusal of the first pass
abbrev pub layout_refused : List ℕ → ℕ → Option Refused
layout_refused l n = first_refused (λ k. layout_refusal (laid l k) (record_at l k) k) n

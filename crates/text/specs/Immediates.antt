-- No immediate is lost: each record's words, read back from the image, work with the record's value.
use Rattle.std.specs.Prelude.{◌≡◌, ℕ, ◌+◌, ◌*◌, ◌/◌, ◌<◌, List, [], ◌∷◌, ◌++◌, length, replicate, ℤ, Some, None, Ok, Option, slice_index_or}
use Rattle.isa.specs.declared.instructions.ImmediateField.{ImmediateField}
use Rattle.isa.specs.declared.instructions.RegisterFunction.TheVariants as function
use Rattle.isa.specs.declared.instructions.Instruction.{Instruction}
use Rattle.isa.specs.declared.instructions.Instruction.TheVariants.{Register, Imm}
use Rattle.isa.specs.Words.{read_word}
use Rattle.isa.specs.Immediates.{immediate_field, formed}
use Rattle.listing.specs.declared.items.Body.{Body}
use Rattle.listing.specs.declared.items.First.{First}
use Rattle.listing.specs.declared.items.First.TheVariants as first
use Rattle.listing.specs.declared.items.Rest.{Rest}
use Rattle.listing.specs.declared.items.Rest.TheVariants as rest
use Rattle.listing.specs.declared.items.Item.TheVariants.{Words}
use Rattle.listing.specs.declared.records.Record.{Record}
use Rattle.listing.specs.Numbers.{bits16}
use Rattle.listing.specs.Reading.{record_at}
use Rattle.listing.specs.Meaning.{meaning}
use Rattle.listing.specs.Slots.{number, number_of}
use Rattle.text.specs.Layout.{laid, size_of}
use Rattle.text.specs.Image.{value, image, text_length, word_at}

-- the prefix that an instruction leaves pending
abbrev pub prefix_of : Instruction → Option ℕ
prefix_of (Imm n) = Some n
prefix_of _ = None

-- the immediate that a field forms with the pending prefix, where there is a field
abbrev pub shown : Option ℕ → Option ImmediateField → List ℕ
shown p None = []
shown p (Some f) = formed f p ∷ []

-- the immediates that the core forms of instructions that run one after the other
abbrev pub immediates : Option ℕ → List Instruction → List ℕ
immediates p [] = []
immediates p (i ∷ is) = shown p (immediate_field i) ++ immediates (prefix_of i) is

-- the immediates that a record asks for: z is its number, k the number without its label; a shift is made of single shifts
abbrev pub first_asks : First → ℤ → ℤ → List ℕ
first_asks (first.Word i) z k = shown None (immediate_field i)
first_asks (first.Field g i) z k = bits16 z ∷ []
first_asks (first.Repeat f d) z k = replicate (bits16 k) 1
first_asks _ z k = []

-- those of the words that extend a byte
abbrev pub rest_asks : Rest → List ℕ
rest_asks rest.Nothing = []
rest_asks (rest.Zero d) = 0xFF ∷ []
rest_asks (rest.Sign d) = 0x80 ∷ 0xFF80 ∷ []
rest_asks (rest.Both d) = 0xFF ∷ 0x80 ∷ 0xFF80 ∷ []

-- the value of a record of a listing, where its label is defined
abbrev pub record_value : List ℕ → Record → Option ℤ
record_value l r = let n : ℕ = length l / 8 in value (text_length l n) (laid l n).labels r

-- and r0,r0
abbrev pub nothing : Instruction
nothing = Register function.And 0 0

-- the words of the record at an index, read back from the image, form the immediates that it asks for, its value modulo 65,536 among them
pub record Kept (l : List ℕ) (n : ℕ) (r : Record) (b : Body) : Type 0 where
  pub value : ℤ
  pub given : record_value l r ≡ Some value
  pub words : List Instruction
  pub size : 2 * length words ≡ size_of (Words b) (laid l n).place r
  pub stand : (k : ℕ) → k < length words → read_word (word_at (image l) ((laid l n).place.text + 2 * k)) ≡ Ok (slice_index_or words k nothing)
  pub kept : immediates None words ≡ first_asks b.first (number_of b.negated value) (number b r) ++ rest_asks b.rest

-- no immediate of a listing is lost
abbrev pub ImmediatesKept : List ℕ → Type 0
ImmediatesKept l = (n : ℕ) (r : Record) (b : Body) → n < length l / 8 → record_at l n ≡ Some r → meaning r ≡ Words b → Kept l n r b

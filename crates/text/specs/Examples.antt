-- Worked examples.
use Rattle.std.specs.Prelude.{ℕ, ◌-◌, ◌*◌, ◌/◌, ◌%◌, Bool, true, false, ◌&&◌, List, [], ◌∷◌, ◌++◌, length, replicate, Ok, Err, Result, ◌==◌}
use Rattle.text.specs.declared.outcomes.Refused.{Refused}
use Rattle.text.specs.declared.outcomes.Answers.{Answers}
use Rattle.text.specs.Image.{word_bytes, image}
use Rattle.text.specs.Answer.{assembled}

-- records of eight bytes each, the words that they make, and the longest run; zeros follow up to the text length
pub record Example : Type 0 where
  pub records : List ℕ
  pub words : List ℕ
  pub text : ℕ
  pub run : ℕ

-- the bytes of 64-bit numbers, the most significant first
abbrev pub listing_of : List ℕ → List ℕ
listing_of [] = []
listing_of (n ∷ ns) =
    n / 0x100_0000_0000_0000 % 256 ∷ n / 0x1_0000_0000_0000 % 256 ∷ n / 0x100_0000_0000 % 256 ∷ n / 0x1_0000_0000 % 256
    ∷ n / 0x100_0000 % 256 ∷ n / 0x1_0000 % 256 ∷ n / 0x100 % 256 ∷ n % 256 ∷ listing_of ns

-- the bytes of words
abbrev pub bytes_of_words : List ℕ → List ℕ
bytes_of_words [] = []
bytes_of_words (w ∷ ws) = word_bytes w ++ bytes_of_words ws

-- two lists of numbers are equal
abbrev pub equal : List ℕ → List ℕ → Bool
equal [] [] = true
equal [] (y ∷ ys) = false
equal (x ∷ xs) [] = false
equal (x ∷ xs) (y ∷ ys) = x == y && equal xs ys

-- an answer with all of an example's numbers
abbrev pub answers_so : Result Answers Refused → Example → Bool
answers_so (Ok a) e = a.text == e.text && (a.image == e.text && a.run == e.run)
answers_so (Err x) e = false

-- the listing of an example is answered and written as the example says
abbrev pub holds : Example → Bool
holds e =
    let l : List ℕ = listing_of e.records in
    answers_so (assembled l e.text) e && equal (image l) (bytes_of_words e.words ++ replicate (e.text - 2 * length e.words) 0)

-- every example of a list holds
abbrev pub all_hold : List Example → Bool
all_hold [] = true
all_hold (e ∷ es) = holds e && all_hold es

-- one record that makes some words in a text of sixteen bytes
abbrev pub single : ℕ → List ℕ → ℕ → Example
single r ws n = record { records = r ∷ []; words = ws; text = 16; run = n }

-- immediates with and without a prefix; then a whole program, with a jump over a padded entry, a swap and a nop:
-- j L0; align 16; reti; L0: addi r1,r1,0x1234; add r2,r3,r1; sub r2,r3,r2; L1: br L1
unfoldable pub examples : List Example
examples =
    single 0x0422_0000_0000_1234 (0xD123 ∷ 0x2114 ∷ []) 8
    ∷ single 0x0422_0000_0000_0007 (0x2117 ∷ []) 8
    ∷ single 0x0422_0000_0000_0008 (0xD000 ∷ 0x2118 ∷ []) 8
    ∷ single 0x2842_0000_0000_001E (0x521F ∷ []) 7
    ∷ single 0x2842_0000_0000_0010 (0x5211 ∷ []) 7
    ∷ single 0x2842_0000_0000_0024 (0xD002 ∷ 0x5214 ∷ []) 6
    ∷ single 0x2842_0000_0000_0005 (0xD000 ∷ 0x5215 ∷ []) 6
    ∷ single 0x2A42_0000_0000_000F (0x621F ∷ []) 7
    ∷ single 0x2A42_0000_0000_0010 (0xD001 ∷ 0x6210 ∷ []) 6
    ∷ single 0x620A_0000_0000_0001 (0x205F ∷ []) 8
    ∷ record {
      records =
          0x6400_1000_0000_0000
          ∷ 0x8800_0000_0000_0010
          ∷ 0x7000_0000_0000_0000
          ∷ 0x8A00_0000_0000_0000
          ∷ 0x0422_0000_0000_1234
          ∷ 0x0046_2000_0000_0000
          ∷ 0x0246_4000_0000_0000
          ∷ 0x8A00_0001_0000_0000
          ∷ 0x4000_1001_0000_0000
          ∷ [];
      words =
          0xD001 ∷ 0xA002 ∷ 0 ∷ 0 ∷ 0 ∷ 0 ∷ 0 ∷ 0 ∷ 0xA0E0 ∷ 0xD123 ∷ 0x2114 ∷ 0x0213 ∷ 0x3000 ∷ 0x1232 ∷ 0xB0FE ∷ 0 ∷ [];
      text = 32;
      run = 6;
    }
    ∷ []

-- What the assembler answers.
use Rattle.std.specs.Prelude.{ℕ, ◌/◌, ◌%◌, not, List, [], ◌∷◌, length, Some, None, Ok, Err, Option, Result, ◌==◌, nat_lt}
use Rattle.isa.specs.declared.refusals.Refusal.TheVariants as refusal
use Rattle.listing.specs.Checks.{when, first_some}
use Rattle.text.specs.declared.outcomes.Refused.{Refused}
use Rattle.text.specs.declared.outcomes.Answers.{Answers}
use Rattle.text.specs.Layout.{laid, layout_refused}
use Rattle.text.specs.Image.{text_length, image_length, image}
use Rattle.text.specs.Values.{value_refused}
use Rattle.text.specs.Runs.{longest}

-- an answer, unless something was refused
abbrev pub or_refused : {A : Type 0} → Option Refused → A → Result A Refused
or_refused (Some e) x = Err e
or_refused None x = Ok x

-- the first refusal of a listing for a buffer of so many bytes, in the order in which the checks run
abbrev pub failure : List ℕ → ℕ → Option Refused
failure l room =
    let n : ℕ = length l / 8 in
    first_some (
    when (not (length l % 8 == 0)) (record { refusal = refusal.Ragged; index = n })
    ∷ when (nat_lt 4096 n) (record { refusal = refusal.Long; index = n })
    ∷ layout_refused l n
    ∷ when (nat_lt 65280 (image_length l n)) (record { refusal = refusal.Big; index = n })
    ∷ value_refused l n (text_length l n) (laid l n).labels
    ∷ when (nat_lt room (image_length l n)) (record { refusal = refusal.Short; index = n })
    ∷ [])

-- the text length, the image length and the longest run of interlocked text words
abbrev pub answers : List ℕ → Answers
answers l = let n : ℕ = length l / 8 in record { text = text_length l n; image = image_length l n; run = longest (image l) (text_length l n / 2) }

-- what the assembler answers
abbrev pub assembled : List ℕ → ℕ → Result Answers Refused
assembled l room = or_refused (failure l room) (answers l)

-- What assembling answers in numbers, and the image buffer afterwards.
use Rattle.std.specs.Prelude.{ℕ, cond, List, ◌++◌, length, drop, is_ok, Ok, Err, Result}
use Rattle.isa.specs.Refusals.{refusal_number}
use Rattle.text.specs.declared.outcomes.Answers.{Answers}
use Rattle.text.specs.declared.outcomes.Refused.{Refused}
use Rattle.text.specs.Answer.{assembled}
use Rattle.text.specs.Image.{image}
use Rattle.xr16.specs.declared.answers.Assembly.{Assembly}

-- the answers of an accepted listing, or the refusal's number and index
abbrev pub assembly_of : Result Answers Refused → Assembly
assembly_of (Ok a) = record { refusal = 0; index = 0; text = a.text; image = a.image; run = a.run }
assembly_of (Err e) = record { refusal = refusal_number e.refusal; index = e.index; text = 0; image = 0; run = 0 }

-- the image buffer afterwards: the image, and past it what was there; a listing that was refused leaves it as it was
abbrev pub image_after : List ℕ → List ℕ → List ℕ
image_after l buffer = cond (is_ok (assembled l (length buffer))) (image l ++ drop (length (image l)) buffer) buffer

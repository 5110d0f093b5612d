-- The lengths of an image that is to be written.
use Rattle.std.specs.Prelude.{ℕ, ◌/◌, List, length, Result}
use Rattle.text.specs.declared.outcomes.Refused.{Refused}
use Rattle.text.specs.Layout.{laid}
use Rattle.text.specs.Image.{text_length, image_length}
use Rattle.text.specs.Answer.{or_refused, failure}
use Rattle.assembler.specs.declared.planning.Plan.{Plan}

-- where the text ends before it is padded, where it ends then, and where the data end
abbrev pub plan_of : List ℕ → Plan
plan_of l = let n : ℕ = length l / 8 in record { end = (laid l n).place.text; text = text_length l n; image = image_length l n }

-- the plan of a listing for a buffer of so many bytes, or the first refusal
abbrev pub planned : List ℕ → ℕ → Result Plan Refused
planned l room = or_refused (failure l room) (plan_of l)

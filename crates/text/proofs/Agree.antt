-- Lengths, labels and addresses of an accepted listing agree with its bytes.
use Rattle.std.proofs.Common.{◌≡◌, ℕ, ◌+◌, ◌-◌, ◌/◌, ◌%◌, List, length, sym, ap, arith}
use Rattle.listing.specs.Meaning.{meaning_of}
use Rattle.text.specs.Layout.{laid}
use Rattle.text.specs.Answer.{answers}
use Rattle.text.specs.Sizes.{SizesAgree}
use Rattle.text.proofs.Accepted.{Accepted}
use Rattle.text.proofs.Lengths.{image_long, origins_long}
use Rattle.text.proofs.Records.{stands}
use Rattle.text.proofs.Labels.{label_kept}

padded_whole : (n : ℕ) → (n + (16 - n % 16) % 16) % 16 ≡ 0
padded_whole n = omega arith

pub sizes_agree : (l : List ℕ) (room : ℕ) → Accepted l room → SizesAgree l (answers l)
sizes_agree l room ok = record {
  whole = padded_whole (laid l (length l / 8)).place.text;
  within = omega arith;
  most = ok.small;
  written = sym (image_long l);
  origins = origins_long l;
  records = λ n r lt e. stands l n r lt e;
  labels = λ n r lt e o. label_kept l (length l / 8) ok.laid_out n r lt e (ap (λ x. meaning_of x r.rd r.ra r.rb) o);
}

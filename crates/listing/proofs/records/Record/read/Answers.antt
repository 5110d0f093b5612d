use Rattle.std.proofs.Common.{◌≡◌, ℕ, ◌<◌, length, get_or, sym, ◌∙◌, subst, rules}
use Rattle.listing.specs.Reading.{wide, record_of, read_record}
use Rattle.listing.specs.Packing.{ReadsBack}
use Rattle.listing.proofs.Back.{reads_back}
use Rattle.listing.proofs.records.Record.read.Goals as goal

pub returns : goal.returns
returns c =
    let bytes = c.args.bytes in
    let head : c.from_be_bytes-head.result ≡ wide bytes 0 = c.from_be_bytes-head.ensures in
    let tail : c.from_be_bytes-tail.result ≡ wide bytes 4 = c.from_be_bytes-tail.ensures in
    let value : c.from_words.result ≡ read_record bytes = c.from_words.ensures ∙ (λ j. record_of (head j) (tail j)) in
    let long : length bytes ≡ 8 = search rules in
    let small : (k : ℕ) → get_or bytes k 0 < 256 = search rules in
    record { value = value; back = subst (ReadsBack bytes) (sym value) (reads_back bytes long small) }

use Rattle.std.proofs.Common.{ap, ◌∙◌, rules}
use Rattle.listing.specs.Reading.{read_record}
use Rattle.listing.specs.Packing.{InSize}
use Rattle.listing.proofs.Back.{reads_bytes}
use Rattle.listing.proofs.records.Record.write.Goals as goal

pub returns-then-self-lt4096-clause-back : goal.returns-then-self-lt4096-clause-back
returns-then-self-lt4096-clause-back c =
    let r = c.args.self in
    let sized : InSize r = search rules in
    (sized, ap read_record c.bytes.ensures ∙ reads_bytes r sized (search rules))

use Rattle.std.proofs.Common.{◌∙◌, ◌/◌, length, get_or, [], ap, arith}
use Rattle.listing.specs.Reading.{read_record}
use Rattle.assembler.proofs.Chunks.{chunk_reads}
use Rattle.assembler.proofs.listings.Listing.records.Goals as goal

pub returns-clause-records : goal.returns-clause-records
returns-clause-records c i h =
    ap (λ xs. read_record (get_or xs i [])) c.as_chunks.ensures.front ∙ chunk_reads c.args.self.bytes.now (length c.args.self.bytes.now / 8) i (omega (arith, h, c.as_chunks.ensures.front_len))

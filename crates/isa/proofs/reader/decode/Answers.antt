use Rattle.std.proofs.Common.{◌/◌, ◌%◌, ◌≤◌, sym, arith}
use Rattle.std.proofs.lemmas.List.{get_or_past}
use Rattle.isa.specs.Words.{readings}
use Rattle.isa.proofs.reader.decode.Goals as goal

pub returns-in-7-2 : goal.returns-in-7-2
returns-in-7-2 c =
    let w = c.args.word in
    let h : 14 ≤ w / 4096 = omega arith in
    sym (get_or_past (readings (w / 256 % 16) (w / 16 % 16) (w % 16) (w % 4096)) (w / 4096) _ h)

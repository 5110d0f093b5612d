use Rattle.rehearsal.proofs.Prepared.{prepared_refused, prepared_so, written_by, written_so}
use Rattle.rehearsal.proofs.pairs.Pair.prepare.Goals as goal

pub returns-in_err-load-clause-outcome : goal.returns-in_err-load-clause-outcome
returns-in_err-load-clause-outcome g c =
    let l = c.args.listing.now in
    let before = c.args.image.now in
    let after = c.assemble.new.image in
    let a = c.in_ok-answers.answers in
    let facts = c.assemble.ensures in
    let written = written_by l before after c.assemble.result c.map_err.result _ a c.map_err.ensures.cases c.in_ok-answers.was
    (written_so l before after c.assemble.result facts.value facts.image facts.hazards facts.run facts.sizes) in
    prepared_refused l before after a written c.args.range
    (g.M.Memory.means c.args.self.now.first.memory.now) (g.N.Memory.means c.args.self.now.twin.memory.now)
    c.load.new.self.first.core.state (g.M.Memory.means c.load.new.self.first.memory.now)
    c.load.new.self.twin.core.state (g.N.Memory.means c.load.new.self.twin.memory.now)
    c.from_residual-in_err-load.result c.in_err-load.field-0.0
    c.from_residual-in_err-load.ensures.1 c.in_err-load.ensures.outcome

pub returns : goal.returns
returns g c =
    let l = c.args.listing.now in
    let before = c.args.image.now in
    let after = c.assemble.new.image in
    let a = c.in_ok-answers.answers in
    let facts = c.assemble.ensures in
    let written = written_by l before after c.assemble.result c.map_err.result _ a c.map_err.ensures.cases c.in_ok-answers.was
    (written_so l before after c.assemble.result facts.value facts.image facts.hazards facts.run facts.sizes) in
    let loads = c.load.ensures in
    record {
      image = written.buffer;
      outcome = prepared_so l before after a written c.args.range
          (g.M.Memory.means c.args.self.now.first.memory.now) (g.N.Memory.means c.args.self.now.twin.memory.now)
          c.load.new.self.first.core.state (g.M.Memory.means c.load.new.self.first.memory.now)
          c.load.new.self.twin.core.state (g.N.Memory.means c.load.new.self.twin.memory.now) c.in_ok-load.ensures.outcome;
      facts = written.facts;
      holds = loads.holds;
    }

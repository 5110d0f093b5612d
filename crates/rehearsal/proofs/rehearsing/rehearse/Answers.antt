use Rattle.std.proofs.Common.{◌+◌, ap, ◌∙◌, rules}
use Rattle.memory.specs.Meaning.{Meaning}
use Rattle.text.specs.declared.outcomes.Answers.{Answers}
use Rattle.rehearsal.specs.Reports.{Reported, stage_of}
use Rattle.rehearsal.proofs.Prepared.{prepared_at}
use Rattle.rehearsal.proofs.Promised.{promised}
use Rattle.rehearsal.proofs.Reporting.{reported_at, reported_so, staged_list}
use Rattle.rehearsal.proofs.rehearsing.rehearse.Goals as goal

pub returns : goal.returns
returns g c =
    let l = c.args.listing.now in
    let range = c.args.range in
    let m = g.M.Memory.means c.args.memory.now in
    let n = g.N.Memory.means c.args.twin_memory.now in
    let actions = c.args.actions.now in
    let ready = c.in_ok-answers.ensures in
    let first = c.prepare.new.self.first in
    let twin = c.prepare.new.self.twin in
    let out = prepared_at l _ range _ m _ n c.in_ok-answers.answers first.core.state (g.M.Memory.means first.memory.now) twin.core.state (g.N.Memory.means twin.memory.now)
    (ap g.M.Memory.means c.new-first.ensures.memory) (ap g.N.Memory.means c.new-twin.ensures.memory) ready.outcome in
    let played = c.play-played.ensures in
    let first' = c.play-played.new.self.first in
    let twin' = c.play-played.new.self.twin in
    let m₂ = g.M.Memory.means first'.memory.now in
    let n₂ = g.N.Memory.means twin'.memory.now in
    let totals = c.play-played.result.totals in
    let kept = c.play-played.result.kept in
    let done = c.finish.ensures in
    let m₃ = g.M.Memory.means c.finish.new.self.first.memory.now in
    let n₃ = g.N.Memory.means c.finish.new.self.twin.memory.now in
    let over = staged_list l range m n actions first.core.state (g.M.Memory.means first.memory.now) twin.core.state (g.N.Memory.means twin.memory.now)
    (stage_of first'.core.state m₂ twin'.core.state n₂ totals kept) out.4 out.5 out.6 out.7 played.stage in
    let reported : Reported l range m n actions c.finish.result m₃ n₃ =
    reported_so l range m n actions c.finish.result first'.core.state m₂ twin'.core.state n₂ totals kept
    (c.in_ok-answers.answers.run + 1) m₃ n₃ over
    (played.marks ∙ ap (λ (x : Meaning). x.mark) out.5) (played.twin_marks ∙ ap (λ (x : Meaning). x.mark) out.7)
    (ap (λ (a : Answers). a.run + 1) out.0)
    done.totals done.kept done.limit done.program done.next.answers done.twin_next.answers done.next.memory done.twin_next.memory in
    record {
      image = ready.image;
      outcome = (out.1, out.2, out.3, reported_at l range m n actions c.finish.result m₃ _ n₃ _ (search rules) (search rules) reported);
      promises = promised l range m n actions c.finish.result m₃ n₃ ready.facts out.2 reported;
      lent = search rules;
      twin_lent = search rules;
    }

-- The promises of a rehearsal, from the laws of histories.
use Rattle.std.proofs.Common.{◌≡◌, ℕ, ◌+◌, ◌≤◌, max, List, length, Ok, sym, ap, ◌∙◌, subst, zero-add, arith, None}
use Rattle.memory.specs.Meaning.{Meaning}
use Rattle.machine.specs.declared.states.ServiceRange.{ServiceRange}
use Rattle.machine.specs.declared.states.State.{State}
use Rattle.machine.specs.Laws.{Standing}
use Rattle.machine.specs.Loads.{fresh, loading}
use Rattle.machine.specs.Steps.{stepped}
use Rattle.text.specs.Answer.{answers}
use Rattle.text.specs.Image.{image}
use Rattle.histories.specs.declared.actions.Action.{Action}
use Rattle.histories.specs.Histories.{played, tally_of}
use Rattle.histories.specs.Laws.{Alone, OwnStep, SameProgram, Undisturbed, WaitsWithin}
use Rattle.histories.proofs.Always.{requests_leave_no_mark}
use Rattle.histories.proofs.Bounded.{waits_are_bounded}
use Rattle.histories.proofs.Counting.{steps_are_counted, longest_within}
use Rattle.histories.proofs.Hazards.{hazards_follow_jumps}
use Rattle.rehearsal.specs.declared.reports.Program.{Program}
use Rattle.rehearsal.specs.declared.reports.Program.TheVariants as program
use Rattle.rehearsal.specs.declared.reports.Report.{Report}
use Rattle.rehearsal.specs.declared.reports.Totals.{Totals}
use Rattle.rehearsal.specs.Laws.{events, Promises, Unmarked}
use Rattle.rehearsal.specs.Reports.{Accepted, Compared, layout_of, loaded, opening, Reported, stage}
use Rattle.rehearsal.specs.Stages.{Stage, added, nothing}
use Rattle.rehearsal.proofs.Images.{program_calm, runs_within}
use Rattle.histories.proofs.Loaded.{loaded_fits}
use Rattle.rehearsal.proofs.Staged.{led, rehearsed_led}
use Rattle.rehearsal.proofs.Twinned.{alone_all_own, alone_repeated}

-- states that are the same are not compared as different
undiffering : (f t : Standing) (p : Program) → (f.state.service ≡ None → SameProgram f.state f.bytes t.state t.bytes)
    → Compared f t p → p ≡ program.Different → ⊥
undiffering f t (program.Serving) same compared e = cc
undiffering f t (program.Same) same compared e = cc
undiffering f t (program.Different) same compared e = compared.1 (same compared.0)

-- a twin that stands beside the first core is the rehearsed one
unmarked_so : (l : List ℕ) (range : ServiceRange) (m n : Meaning) (actions : List Action) (r : Report) (m' n' : Meaning) → Reported l range m n actions r m' n'
    → (t : State) (c : ℕ → ℕ)
    → Alone n.mark (played m.mark (fresh (layout_of l range)) (loaded l m).byte actions).tally.own (fresh (layout_of l range)) (loaded l n).byte t c
    → Undisturbed m.mark (played m.mark (fresh (layout_of l range)) (loaded l m).byte actions).state
    (played m.mark (fresh (layout_of l range)) (loaded l m).byte actions).bytes n.mark t c
    → Unmarked l range m n actions r
unmarked_so l range m n actions r m' n' reported t c alone beside =
    let start = fresh (layout_of l range) in
    let q = played m.mark start (loaded l m).byte actions in
    let g = stage l range m n actions in
    let reached : g ≡ led m.mark n.mark (opening l range m n) actions = rehearsed_led m.mark n.mark actions (opening l range m n) in
    let first : g.first ≡ record { state = q.state; bytes = q.bytes } = ap (λ (x : Stage). x.first) reached in
    let twin : g.twin ≡ record { state = t; bytes = c } = ap (λ (x : Stage). x.twin) reached ∙ alone_repeated n.mark alone in
    let own : q.tally.own ≡ r.totals.own = sym (ap (λ (x : Totals). x.own) (reported.totals ∙ ap (λ (x : Stage). x.totals) reached) ∙ zero-add q.tally.own) in
    let next : r.next ≡ (stepped q.state q.bytes m.mark).answer =
    reported.next ∙ ap (λ (x : Standing). (stepped x.state x.bytes m.mark).answer) first in
    let twin_next : r.twin_next ≡ (stepped t c n.mark).answer =
    reported.twin_next ∙ ap (λ (x : Standing). (stepped x.state x.bytes n.mark).answer) twin in
    record {
      kept = reported.kept ∙ ap (λ (x : Stage). x.kept) reached ∙ alone_all_own n.mark alone;
      alone = subst (λ (k : ℕ). Alone n.mark k start (loaded l n).byte g.twin.state g.twin.bytes) own
          (subst (λ (x : Standing). Alone n.mark q.tally.own start (loaded l n).byte x.state x.bytes) (sym twin) alone);
      program = undiffering g.first g.twin r.program
          (subst (λ (x : Standing). x.state.service ≡ None → SameProgram x.state x.bytes g.twin.state g.twin.bytes) (sym first)
          (subst (λ (x : Standing). q.state.service ≡ None → SameProgram q.state q.bytes x.state x.bytes) (sym twin) beside.same))
          reported.program;
      alike = λ is_own. twin_next ∙ beside.alike (subst OwnStep next is_own) ∙ sym next;
    }

-- the promises of a rehearsal that was reported
pub promised : (l : List ℕ) (range : ServiceRange) (m n : Meaning) (actions : List Action) (r : Report) (m' n' : Meaning)
    → Accepted l → loading (layout_of l range) (image l) m ≡ Ok tt → Reported l range m n actions r m' n' → Promises l range m n actions r
promised l range m n actions r m' n' accepted ok reported =
    let fit = loaded_fits (layout_of l range) (image l) m ok in
    let start = fresh (layout_of l range) in
    let q = played m.mark start (loaded l m).byte actions in
    let g = stage l range m n actions in
    let reached : g ≡ led m.mark n.mark (opening l range m n) actions = rehearsed_led m.mark n.mark actions (opening l range m n) in
    let totals : r.totals ≡ added nothing q.tally = reported.totals ∙ ap (λ (x : Stage). x.totals) reached in
    let counted : r.totals ≡ added nothing (tally_of (events l range m actions)) =
    totals ∙ ap (added nothing) (steps_are_counted m.mark start (loaded l m).byte actions) in
    let waits : WaitsWithin ((answers l).run + 1) (events l range m actions) =
    waits_are_bounded (answers l).run (layout_of l range) (length (image l)) fit (loaded l m) (runs_within l range m accepted ok) actions in
    let longest : (tally_of (events l range m actions)).wait ≤ (answers l).run + 1 = longest_within ((answers l).run + 1) (events l range m actions) waits in
    let limit : r.limit ≡ (answers l).run + 1 = reported.limit in
    let wait : r.totals.wait ≡ max 0 (tally_of (events l range m actions)).wait = ap (λ (x : Totals). x.wait) counted in
    record {
      unmarked = λ alike plain.
          let law = requests_leave_no_mark (layout_of l range) (length (image l)) fit (loaded l m) (loaded l n) alike plain actions in
          unmarked_so l range m n actions r m' n' reported law.0 law.1 law.2 law.3;
      bounded = (omega arith, subst (λ (k : ℕ). WaitsWithin k (events l range m actions)) (sym limit) waits);
      careful = λ clean. hazards_follow_jumps (layout_of l range) (length (image l)) fit (loaded l m) (program_calm l range m accepted ok clean) actions;
      counted = counted;
    }

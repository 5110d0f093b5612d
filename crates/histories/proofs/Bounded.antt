-- Each taken request waited at most one more than the longest interlocked run.
use Rattle.std.proofs.Common.{◌≡◌, ℕ, ◌+◌, ◌*◌, ◌<◌, ◌≤◌, Bool, true, false, cond, not, List, ◌∷◌, ◌++◌, Some, None, Ok, Err, Option, sym, refl, ap, ◌∙◌, subst, inl, inr, arith}
use Rattle.std.proofs.lemmas.Bool.{cases_eq, not-false}
use Rattle.std.proofs.lemmas.Option.{same_Some}
use Rattle.isa.specs.Registers.{interlocked, interlocked_reading, reads_interlocked}
use Rattle.memory.specs.Words.{word_at}
use Rattle.operations.specs.declared.values.Effect.{Effect}
use Rattle.operations.specs.declared.values.Effect.TheVariants as effect
use Rattle.operations.specs.Arithmetic.{following}
use Rattle.machine.specs.declared.states.Side.{Side}
use Rattle.machine.specs.declared.states.Side.TheVariants as side
use Rattle.machine.specs.declared.states.Layout.{Layout}
use Rattle.machine.specs.declared.states.State.{State}
use Rattle.machine.specs.declared.states.Plan.{Plan}
use Rattle.machine.specs.declared.answers.Step.TheVariants as made
use Rattle.machine.specs.Layouts.{placed}
use Rattle.machine.specs.Checks.{operands, planned}
use Rattle.machine.specs.Steps.{waited, after, stepped, busy_by, asked}
use Rattle.machine.specs.Loads.{fresh}
use Rattle.machine.proofs.Waiting.{GoesOn, goes_on}
use Rattle.machine.proofs.Ways.{Due, ways, settles}
use Rattle.histories.specs.declared.actions.Action.{Action}
use Rattle.histories.specs.Texts.{InterlockedRun, RunsWithin}
use Rattle.histories.specs.Histories.{Event, request, step, step_of, history}
use Rattle.histories.specs.Laws.{WaitsAreBounded}
use Rattle.histories.proofs.Watching.{Watch, watched, watch_at}
use Rattle.histories.proofs.Kept.{Laid, laid}
use Rattle.histories.proofs.Housed.{Housed, lawful_at, housed_fresh, housed_asked, housed_taken, housed_run, placed_own, as_loaded}

-- an interlocked word goes on to the next
onward_by : (s : State) (b : ℕ → ℕ) (d : Side) (p : Plan) (k : Bool) (e : Effect) → GoesOn s.counter k e → k ≡ true → (after s b d p e).counter ≡ following s.counter
onward_by s b d p k (effect.Put value next) g h = g h
onward_by s b d p k (effect.Load w a) g h = refl
onward_by s b d p k (effect.Store w a v) g h = refl
onward_by s b d p k (effect.Hold x) g h = refl

pub closed_still : (q : Bool) (v : Option (List ℕ)) → v ≡ None → cond q None v ≡ None
closed_still true v h = refl
closed_still false v h = h

module _ (l : Layout) (laid : Laid l) (b₀ : ℕ → ℕ) (longest : ℕ) (within : RunsWithin l.text b₀ longest) (o : ℕ → Bool) where
  -- an interlocked run of n words ends just before the counter
  pub record RunUp (n counter : ℕ) : Type 0 where
    pub start : ℕ
    pub ends : start + 2 * n ≡ counter
    pub run : InterlockedRun l.text b₀ start n

  abbrev Wait : State → ℕ → Type 0
  Wait s n = (s.service ≡ None) × (s.interruptible ≡ true → n ≤ longest + 1) × (s.interruptible ≡ false → RunUp n s.counter)

  pub record Waiting (w : Unit {0}) (s : State) (b : ℕ → ℕ) : Type 0 where
    pub housed : Housed l b₀ s b
    pub waits : (n : ℕ) → s.pending ≡ Some n → Wait s n

  -- what is claimed of an event
  abbrev Within : Unit {0} → Event → Type 0
  Within w (request accepted) = Unit {0}
  Within w (step a v (Ok (made.Taken wait))) = wait ≤ longest + 1
  Within w (step a v (Ok (made.Made d))) = Unit {0}
  Within w (step a v (Err refusal)) = Unit {0}

  longer : (n c : ℕ) → c < l.text → reads_interlocked (word_at b₀ c) ≡ true → RunUp n c → RunUp (n + 1) (c + 2)
  longer n c small here r =
      let e = r.ends in
      record {
        start = r.start;
        ends = omega arith;
        run = record {
          even = r.run.even;
          each = λ k h. elim (cases_eq k n) [
            | inl x ↦
                let at : c ≡ r.start + 2 * k = omega arith in
                subst (λ z. (z < l.text) × (reads_interlocked (word_at b₀ z) ≡ true)) at (small, here)
            | inr x ↦ r.run.each k (omega arith)
          ];
        };
      }

  module _ (s : State) (b : ℕ → ℕ) (h : Waiting tt s b) where
    -- a request that waits through an own word
    own_waits : (p : Plan) (due : Due s side.Own) → placed s.layout side.Own s.counter ≡ true → planned s side.Own (word_at b s.counter) ≡ Ok p
        → (q : Option ℕ) → s.pending ≡ q → (n : ℕ) → waited q side.Own ≡ Some n → Wait (after s b side.Own p p.effect) n
    own_waits p due stood e None eq n en = cc
    own_waits p due stood e (Some m) eq n en =
        let x = h.waits m eq in
        let r = x.2 (due.1 m eq) in
        let low = within r.start m r.run in
        let more : n ≡ m + 1 = sym (same_Some (m + 1) n en) in
        let y = lawful_at s side.Own (word_at b s.counter) p e in
        let t = settles s b side.Own p p.effect in
        let here = placed_own l laid b₀ s b h.housed stood in
        let ready : (after s b side.Own p p.effect).interruptible ≡ not (interlocked p.instruction) = ap (λ x. x.interruptible) t.is in (
          ap (λ x. x.service) t.is ∙ closed_still p.closes s.service due.0,
          λ _. omega arith,
          λ held.
              let locked = not-false (interlocked p.instruction) (sym ready ∙ held) in
              let g = subst (GoesOn s.counter (interlocked p.instruction)) (sym y.effect) (goes_on p.instruction (operands s p.instruction)) in
              let on = onward_by s b side.Own p (interlocked p.instruction) p.effect g locked in
              let small = here.text in
              let top = laid.text in
              let far : following s.counter ≡ s.counter + 2 = omega arith in
              let word : reads_interlocked (word_at b₀ s.counter) ≡ true =
              ap reads_interlocked (sym (as_loaded l laid b₀ s b h.housed here)) ∙ ap interlocked_reading y.read ∙ locked in
              subst (λ z. RunUp z (after s b side.Own p p.effect).counter) (sym more)
              (subst (RunUp (m + 1)) (sym (on ∙ far)) (longer m s.counter small word r)),
        )

    run_waits : (d : Side) (p : Plan) (due : Due s d) → placed s.layout d s.counter ≡ true → planned s d (word_at b s.counter) ≡ Ok p
        → (n : ℕ) → (after s b d p p.effect).pending ≡ Some n → Wait (after s b d p p.effect) n
    run_waits (side.Own) p due stood e n en =
        own_waits p due stood e s.pending refl n (sym (ap (λ x. x.pending) (settles s b side.Own p p.effect).is) ∙ en)
    run_waits (side.Service) p due stood e n en =
        let same : (q : Option ℕ) → waited q side.Service ≡ q = λ q. elim q as (λ q. waited q side.Service ≡ q) [ None ↦ refl | Some m ↦ refl ] in
        let x = h.waits n (sym (same s.pending) ∙ sym (ap (λ x. x.pending) (settles s b side.Service p p.effect).is) ∙ en) in
        cc (x.0, due.1)

    stepping : Within tt (step_of s b o) × Waiting tt (stepped s b o).state (stepped s b o).bytes
    stepping = ways s b o (λ x. Within tt (step s.counter (word_at b s.counter) x.answer) × Waiting tt x.state x.bytes)
        (λ n shut waits ready. ((h.waits n waits).1 ready, record { housed = housed_taken l laid b₀ s b h.housed; waits = λ n k. cc }))
        (λ d p due stood e. (tt, record { housed = housed_run l laid b₀ s b h.housed o d p e; waits = run_waits d p due stood e }))
        (λ d f due why. (tt, h))

    asking_by : (v : Option (List ℕ)) (q : Option ℕ) → s.service ≡ v → s.pending ≡ q → (n : ℕ) → cond (busy_by v q) q (Some 0) ≡ Some n → Wait (asked s) n
    asking_by None None ev eq n k =
        let z = same_Some 0 n k in
        let none_yet : RunUp 0 s.counter =
        record { start = s.counter; ends = omega arith; run = record { even = h.housed.even; each = λ k j. absurd (omega arith) } } in
        (ev, λ _. omega arith, λ _. subst (λ z. RunUp z s.counter) z none_yet)
    asking_by None (Some m) ev eq n k = h.waits n (eq ∙ k)
    asking_by (Some copies) q ev eq n k = h.waits n (eq ∙ k)

    asking : Waiting tt (asked s) b
    asking = record { housed = housed_asked l laid b₀ s b h.housed; waits = λ n k. asking_by s.service s.pending refl refl n k }

  waits_within : (s : State) → Waiting tt s b₀ → (actions : List Action) (before after : List Event) (a w wait : ℕ)
      → history o s b₀ actions ≡ before ++ (step a w (Ok (made.Taken wait)) ∷ after) → wait ≤ longest + 1
  waits_within s h actions before after a w wait e =
      let all = watched (Unit {0}) (λ w e. w) Within Waiting o (λ w s b h. stepping s b h) (λ w s b h. (tt, asking s b h)) actions tt s b₀ h in
      watch_at (Unit {0}) (λ w e. w) Within tt before (step a w (Ok (made.Taken wait))) after (subst (Watch (Unit {0}) (λ w e. w) Within tt) e all)

pub waits_are_bounded : WaitsAreBounded
waits_are_bounded longest l size fit m within actions =
    waits_within l (laid l size fit) m.byte longest within m.mark (fresh l)
    (record { housed = housed_fresh l m.byte; waits = λ n k. cc }) actions

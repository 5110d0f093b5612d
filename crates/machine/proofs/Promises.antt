-- The laws of a step.
use Rattle.std.proofs.Common.{◌≡◌, ℕ, zero, suc, ◌+◌, ◌*◌, ◌/◌, ◌%◌, ◌<◌, Bool, true, false, cond, not, List, get_or, set, Ok, Err, Result, sym, refl, ap, ◌∙◌, arith, get_or-set_other, get_or-set_same, Option, Some, None}
use Rattle.isa.specs.declared.refusals.Refusal.{Refusal}
use Rattle.isa.specs.Registers.{interlocked, interlocked_reading, reads_interlocked}
use Rattle.memory.specs.Meaning.{Meaning}
use Rattle.memory.specs.Words.{word_at}
use Rattle.machine.specs.declared.states.Side.{Side}
use Rattle.machine.specs.declared.states.Side.TheVariants as side
use Rattle.machine.specs.declared.states.Layout.{Layout}
use Rattle.machine.specs.declared.states.State.{State}
use Rattle.machine.specs.declared.states.Plan.{Plan}
use Rattle.machine.specs.declared.answers.Step.{Step}
use Rattle.machine.specs.declared.answers.Step.TheVariants as made
use Rattle.machine.specs.declared.answers.StepRefusal.{StepRefusal}
use Rattle.machine.specs.Waits.{closed}
use Rattle.machine.specs.Layouts.{inside, placed}
use Rattle.machine.specs.Checks as check
use Rattle.machine.specs.Steps as step
use Rattle.machine.specs.Laws.{NoTaking, Takes, Serving, GivenBack, StepLaws}
use Rattle.machine.proofs.Lawful.{lawful_word, clash, same_layout}
use Rattle.machine.proofs.Ways.{Due, ways, settles}
use Rattle.machine.proofs.Stores.{own_text, service_range}
use Rattle.machine.proofs.Closing.{keeps_all, same_registers, closed_state}

abbrev run_by : Side → Result Step StepRefusal
run_by d = Ok (made.Made d)

-- a core that is not interruptible takes no request
pub untaken : (s : State) (b : ℕ → ℕ) (o : ℕ → Bool) → s.interruptible ≡ false → NoTaking s b o
untaken s b o h wait =
    ways s b o (λ x. x.answer ≡ Ok (made.Taken wait) → ⊥)
    (λ n ev en er e. clash (sym er ∙ h))
    (λ d p due at plan e. absurd cc)
    (λ d f due why e. absurd cc)

module _ (s : State) (b : ℕ → ℕ) (o : ℕ → Bool) where
  -- after an interlocked word the core is not interruptible
  held : (d : Side) → (step.stepped s b o).answer ≡ Ok (made.Made d) → reads_interlocked (word_at b s.counter) ≡ true → (step.stepped s b o).state.interruptible ≡ false
  held d =
      ways s b o (λ x. x.answer ≡ Ok (made.Made d) → reads_interlocked (word_at b s.counter) ≡ true → x.state.interruptible ≡ false)
      (λ n ev en er e k. absurd cc)
      (λ d p due at plan e k.
      let l = lawful_word s d (word_at b s.counter) p plan in
      let i : interlocked p.instruction ≡ true = sym (ap interlocked_reading l.read) ∙ k in
      ap (λ (t : State). t.interruptible) (settles s b d p p.effect).is ∙ ap not i)
      (λ d f due why e k. absurd cc)

  text_by : (d : Side) (p : Plan) → check.planned s d (word_at b s.counter) ≡ Ok p → run_by d ≡ run_by side.Own
      → (a : ℕ) → a < s.layout.text → step.bytes_after b o p.effect a ≡ b a
  text_by (side.Own) p plan e = let l = lawful_word s side.Own (word_at b s.counter) p plan in own_text b o s.layout p.effect l.memory l.allowed
  text_by (side.Service) p plan e = absurd cc

  text_stays : (step.stepped s b o).answer ≡ Ok (made.Made side.Own) → (a : ℕ) → a < s.layout.text → (step.stepped s b o).bytes a ≡ b a
  text_stays =
      ways s b o (λ x. x.answer ≡ Ok (made.Made side.Own) → (a : ℕ) → a < s.layout.text → x.bytes a ≡ b a)
      (λ n ev en er e a h. refl)
      (λ d p due at plan e. text_by d p plan e)
      (λ d f due why e a h. refl)

  range_by : s.layout.service.high % 2 ≡ 0 → (d : Side) (p : Plan) → check.planned s d (word_at b s.counter) ≡ Ok p → run_by d ≡ run_by side.Service
      → (a : ℕ) → inside s.layout a ≡ false → step.bytes_after b o p.effect a ≡ b a
  range_by top (side.Own) p plan e = absurd cc
  range_by top (side.Service) p plan e = let l = lawful_word s side.Service (word_at b s.counter) p plan in service_range b o s.layout top p.effect l.even l.memory l.allowed

  range_stays : s.layout.service.high % 2 ≡ 0 → (step.stepped s b o).answer ≡ Ok (made.Made side.Service) → (a : ℕ) → inside s.layout a ≡ false → (step.stepped s b o).bytes a ≡ b a
  range_stays top =
      ways s b o (λ x. x.answer ≡ Ok (made.Made side.Service) → (a : ℕ) → inside s.layout a ≡ false → x.bytes a ≡ b a)
      (λ n ev en er e a h. refl)
      (λ d p due at plan e. range_by top d p plan e)
      (λ d f due why e a h. refl)

  -- a refused step changes nothing
  pub stays : (f : StepRefusal) → (step.stepped s b o).answer ≡ Err f → ((step.stepped s b o).state ≡ s) × ((step.stepped s b o).bytes ≡ b)
  stays f =
      ways s b o (λ x. x.answer ≡ Err f → (x.state ≡ s) × (x.bytes ≡ b))
      (λ n ev en er e. absurd cc)
      (λ d p due at plan e. absurd cc)
      (λ d g due why e. (refl, refl))

-- what an open service was lent at r and b, and holds at s and c
record Lent (r : State) (b : ℕ → ℕ) (s : State) (c : ℕ → ℕ) : Type 0 where
  copies : s.service ≡ Some (set r.registers 14 r.counter)
  layout : s.layout ≡ r.layout
  outside : (a : ℕ) → inside r.layout a ≡ false → c a ≡ b a

module _ (r : State) (b : ℕ → ℕ) (o : ℕ → Bool) (takes : Takes r) where
  abbrev kept : List ℕ
  kept = set r.registers 14 r.counter

  -- a step while the service is open is a service word or refused
  module _ (s : State) (c : ℕ → ℕ) (lent : Lent r b s c) where
    not_closed : s.service ≡ None → {A : Type 0} → A
    not_closed h = let e = lent.copies in absurd cc

    serves : (Q : step.Outcome → Type 0)
        → ((p : Plan) → check.planned s side.Service (word_at c s.counter) ≡ Ok p → Q (step.applied s c o side.Service (Ok p)))
        → ((f : Refusal) → Q (step.refused s c side.Service f)) → Q (step.stepped s c o)
    serves Q run refuse = ways s c o Q (λ n ev en er. not_closed ev) by (λ d f due why. by_refused d f due)
      where
        by : (d : Side) (p : Plan) → Due s d → placed s.layout d s.counter ≡ true → check.planned s d (word_at c s.counter) ≡ Ok p → Q (step.applied s c o d (Ok p))
        by (side.Own) p due at plan = not_closed due.0
        by (side.Service) p due at plan = run p plan

        by_refused : (d : Side) (f : Refusal) → Due s d → Q (step.refused s c d f)
        by_refused (side.Own) f due = not_closed due.0
        by_refused (side.Service) f due = refuse f

    outside_after : (p : Plan) → check.planned s side.Service (word_at c s.counter) ≡ Ok p → (a : ℕ) → inside r.layout a ≡ false → step.bytes_after c o p.effect a ≡ b a
    outside_after p plan a h =
        let l = lawful_word s side.Service (word_at c s.counter) p plan in
        let top : s.layout.service.high % 2 ≡ 0 = ap (λ (x : Layout). x.service.high % 2) lent.layout ∙ takes.formed.upper in
        service_range c o s.layout top p.effect l.even l.memory l.allowed a (ap (λ (x : Layout). inside x a) lent.layout ∙ h) ∙ lent.outside a h

    service_after : (p : Plan) → (step.after s c side.Service p p.effect).service ≡ cond p.closes None s.service
    service_after p = ap (λ (t : State). t.service) (settles s c side.Service p p.effect).is

    open_by : (q : Bool) (v : Option (List ℕ)) → v ≡ cond q None s.service → closed v ≡ false → v ≡ Some kept
    open_by true v e h = clash (sym (ap closed e) ∙ h)
    open_by false v e h = e ∙ lent.copies

    shut_by : (q : Bool) (v : Option (List ℕ)) → v ≡ cond q None s.service → closed v ≡ true → q ≡ true
    shut_by true v e h = refl
    shut_by false v e h = clash (sym h ∙ ap closed (e ∙ lent.copies))

    lent_after : closed (step.stepped s c o).state.service ≡ false → Lent r b (step.stepped s c o).state (step.stepped s c o).bytes
    lent_after =
        serves (λ x. closed x.state.service ≡ false → Lent r b x.state x.bytes)
        (λ p plan h. record {
          copies = open_by p.closes (step.after s c side.Service p p.effect).service (service_after p) h;
          layout = same_layout s c side.Service p p.effect ∙ lent.layout;
          outside = outside_after p plan;
        })
        (λ f h. lent)

    given_by : (p : Plan) → check.planned s side.Service (word_at c s.counter) ≡ Ok p → p.closes ≡ true
        → GivenBack r b (step.after s c side.Service p p.effect) (step.bytes_after c o p.effect)
    given_by p plan h =
        let l = lawful_word s side.Service (word_at c s.counter) p plan in
        let w = word_at c s.counter in
        let same = same_registers s kept lent.copies w p l h c in
        let all = keeps_all s kept lent.copies w p l h in
        let long = takes.formed.sixteen in
        let even = takes.formed.even in
        let small = takes.formed.small in
        let link : get_or kept 14 0 ≡ r.counter = get_or-set_same r.registers 14 r.counter 0 (omega arith) in
        let here : get_or s.registers 14 0 ≡ r.counter = all 14 (omega arith) (omega arith) ∙ link in
        let at : (step.after s c side.Service p p.effect).counter ≡ (get_or s.registers 14 0 + 0) % 65536 / 2 * 2 =
        ap (λ (t : State). t.counter) (closed_state s kept lent.copies w p l h c) in
        record {
          registers = λ k one top ne. ap (λ (xs : List ℕ). get_or xs k 0) same ∙ all k one (omega arith) ∙ get_or-set_other r.registers 14 k r.counter 0 ne;
          link = ap (λ (xs : List ℕ). get_or xs 14 0) same ∙ here;
          counter = omega arith;
          outside = outside_after p plan;
        }

    given_after : closed (step.stepped s c o).state.service ≡ true → GivenBack r b (step.stepped s c o).state (step.stepped s c o).bytes
    given_after =
        serves (λ x. closed x.state.service ≡ true → GivenBack r b x.state x.bytes)
        (λ p plan h. given_by p plan (shut_by p.closes (step.after s c side.Service p p.effect).service (service_after p) h))
        (λ f h. clash (sym h ∙ ap closed lent.copies))

  lent_by : (n : ℕ) (s : State) (c : ℕ → ℕ) → Serving r b o n s c → Lent r b s c
  lent_by zero s c (es, ec) = record {
    copies = ap (λ (t : State). t.service) es;
    layout = ap (λ (t : State). t.layout) es;
    outside = λ a h. ap (λ (x : ℕ → ℕ). x a) ec;
  }
  lent_by (suc n) s c (q, (d, (before, (es, (ec, shut))))) =
      let x = lent_after q d (lent_by n q d before) (sym (ap (λ (t : State). closed t.service) es) ∙ shut) in
      record {
        copies = ap (λ (t : State). t.service) es ∙ x.copies;
        layout = ap (λ (t : State). t.layout) es ∙ x.layout;
        outside = λ a h. ap (λ (y : ℕ → ℕ). y a) ec ∙ x.outside a h;
      }

  given : (n : ℕ) (s : State) (c : ℕ → ℕ) → Serving r b o n s c → closed (step.stepped s c o).state.service ≡ true
      → GivenBack r b (step.stepped s c o).state (step.stepped s c o).bytes
  given n s c serving = given_after s c (lent_by n s c serving)

-- every law of a step, from what its contract says of it
pub step_laws : (s : State) (m : Meaning) (answer : Result Step StepRefusal) (t : State) (u : Meaning) → s.layout.service.high % 2 ≡ 0
    → step.Steps s m answer t u → StepLaws s m answer t u
step_laws s m answer t u top exact =
    let o = m.mark in
    let bytes : u.byte ≡ (step.stepped s m.byte o).bytes = ap (λ (x : Meaning). x.byte) exact.memory in
    record {
      unbroken = λ d e k.
          let h : t.interruptible ≡ false = ap (λ (x : State). x.interruptible) exact.state ∙ held s m.byte o d (sym exact.answers ∙ e) k in
          (untaken t u.byte u.mark h, untaken (step.asked t) u.byte u.mark h);
      text_kept = λ e a h. ap (λ (x : ℕ → ℕ). x a) bytes ∙ text_stays s m.byte o (sym exact.answers ∙ e) a h;
      range_only = λ e a h. ap (λ (x : ℕ → ℕ). x a) bytes ∙ range_stays s m.byte o top (sym exact.answers ∙ e) a h;
      unaltered = λ f e.
          let x = stays s m.byte o f (sym exact.answers ∙ e) in
          (exact.state ∙ x.0, exact.memory ∙ ap (λ (y : ℕ → ℕ). step.memory_of y o) x.1);
      gives_back = λ r b n takes serving h.
          let x = given r b o takes n s m.byte serving (sym (ap (λ (y : State). closed y.service) exact.state) ∙ h) in
          record {
            registers = λ k one small ne. ap (λ (y : State). get_or y.registers k 0) exact.state ∙ x.registers k one small ne;
            link = ap (λ (y : State). get_or y.registers 14 0) exact.state ∙ x.link;
            counter = ap (λ (y : State). y.counter) exact.state ∙ x.counter;
            outside = λ a k. ap (λ (y : ℕ → ℕ). y a) bytes ∙ x.outside a k;
          };
    }

-- A run is so many single steps.
use Rattle.std.proofs.Common.{◌≡◌, ℕ, zero, suc, ◌+◌, Bool, Ok, Err, Result, sym, refl, ap, ◌∙◌, arith}
use Rattle.memory.specs.Meaning.{Meaning}
use Rattle.machine.specs.declared.states.State.{State}
use Rattle.machine.specs.declared.answers.Step.{Step}
use Rattle.machine.specs.declared.answers.StepRefusal.{StepRefusal}
use Rattle.machine.specs.declared.answers.Tally.{Tally}
use Rattle.machine.specs.declared.answers.Run.{Run}
use Rattle.machine.specs.Steps.{stepped}
use Rattle.machine.specs.Runs.{Ran, Runs, ran, go_on, counted, no_steps}
use Rattle.machine.specs.Laws.{Standing, repeated, RunLaws}
use Rattle.machine.proofs.Running.{counted_more}
use Rattle.machine.proofs.Promises.{stays}

-- a refused step is refused again
stuck : (n : ℕ) (s : State) (b : ℕ → ℕ) (o : ℕ → Bool) (f : StepRefusal) → (stepped s b o).answer ≡ Err f → repeated n s b o ≡ record { state = s; bytes = b }
stuck zero s b o f h = refl
stuck (suc n) s b o f h =
    let x = stays s b o f h in
    ap (λ (t : State). repeated n t (stepped s b o).bytes o) x.0 ∙ ap (λ (c : ℕ → ℕ). repeated n s c o) x.1 ∙ stuck n s b o f h

-- the state and the bytes that a run leaves
abbrev standing : Ran → Standing
standing r = record { state = r.state; bytes = r.bytes }

module _ (n : ℕ) (s : State) (b : ℕ → ℕ) (o : ℕ → Bool) (t : Tally)
    (rest : (u : Tally) → standing (ran n (stepped s b o).state (stepped s b o).bytes o u) ≡ repeated n (stepped s b o).state (stepped s b o).bytes o) where
  single_by : (r : Result Step StepRefusal) → (stepped s b o).answer ≡ r
      → standing (go_on r (stepped s b o).state (stepped s b o).bytes t (λ u. ran n (stepped s b o).state (stepped s b o).bytes o u)) ≡ repeated n (stepped s b o).state (stepped s b o).bytes o
  single_by (Ok a) h = rest (counted t a)
  single_by (Err f) h =
      let x = stays s b o f h in
      let e : repeated n (stepped s b o).state (stepped s b o).bytes o ≡ record { state = s; bytes = b } =
      ap (λ (t : State). repeated n t (stepped s b o).bytes o) x.0 ∙ ap (λ (c : ℕ → ℕ). repeated n s c o) x.1 ∙ stuck n s b o f h in
      (λ i. record { state = x.0 i; bytes = x.1 i }) ∙ sym e

single : (n : ℕ) (s : State) (b : ℕ → ℕ) (o : ℕ → Bool) (t : Tally) → standing (ran n s b o t) ≡ repeated n s b o
single zero s b o t = refl
single (suc n) s b o t = single_by n s b o t (λ u. single n (stepped s b o).state (stepped s b o).bytes o u) (stepped s b o).answer refl

abbrev total : Tally → ℕ
total t = t.own + t.service + t.takings

module _ (n : ℕ) (s : State) (b : ℕ → ℕ) (o : ℕ → Bool) (t : Tally)
    (rest : (u : Tally) → (ran n s b o u).answer.end ≡ Ok tt → total (ran n s b o u).answer.tally ≡ total u + n) where
  whole_on : (r : Result Step StepRefusal) → (go_on r s b t (λ u. ran n s b o u)).answer.end ≡ Ok tt
      → total (go_on r s b t (λ u. ran n s b o u)).answer.tally ≡ total t + suc n
  whole_on (Ok a) h =
      let e = rest (counted t a) h in
      let m = counted_more t a in
      omega arith
  whole_on (Err f) h = absurd cc

whole_by : (n : ℕ) (s : State) (b : ℕ → ℕ) (o : ℕ → Bool) (t : Tally) → (ran n s b o t).answer.end ≡ Ok tt → total (ran n s b o t).answer.tally ≡ total t + n
whole_by zero s b o t h = omega arith
whole_by (suc n) s b o t h =
    whole_on n (stepped s b o).state (stepped s b o).bytes o t (λ u. whole_by n (stepped s b o).state (stepped s b o).bytes o u) (stepped s b o).answer h

-- every law of a run, from what its contract says of it
pub run_laws : (budget : ℕ) (s : State) (m : Meaning) (answer : Run) (t : State) (u : Meaning) → Runs budget s m answer t u → RunLaws budget s m answer t u
run_laws budget s m answer t u exact =
    let e = single budget s m.byte m.mark no_steps in
    record {
      single = (exact.state ∙ ap (λ (x : Standing). x.state) e, ap (λ (x : Meaning). x.byte) exact.memory ∙ ap (λ (x : Standing). x.bytes) e);
      whole = λ h.
          let k = whole_by budget s m.byte m.mark no_steps (sym (ap (λ (x : Run). x.end) exact.answers) ∙ h) in
          ap (λ (x : Run). total x.tally) exact.answers ∙ k ∙ omega arith;
    }

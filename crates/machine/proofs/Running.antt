-- One turn of a run.
use Rattle.std.proofs.Common.{◌≡◌, ℕ, suc, ◌+◌, Bool, Ok, Err, Result, sym, ap, ◌∙◌, arith}
use Rattle.machine.specs.declared.states.Side.TheVariants as side
use Rattle.machine.specs.declared.states.State.{State}
use Rattle.machine.specs.declared.answers.Step.{Step}
use Rattle.machine.specs.declared.answers.Step.TheVariants as step
use Rattle.machine.specs.declared.answers.StepRefusal.{StepRefusal}
use Rattle.machine.specs.declared.answers.Tally.{Tally}
use Rattle.machine.specs.Steps.{stepped}
use Rattle.machine.specs.Runs.{Ran, ran, go_on, counted}

module _ (n : ℕ) (s : State) (b : ℕ → ℕ) (o : ℕ → Bool) (t : Tally) where
  abbrev next : Result Step StepRefusal → Ran
  next r = go_on r (stepped s b o).state (stepped s b o).bytes t (λ u. ran n (stepped s b o).state (stepped s b o).bytes o u)

  -- one step that was made
  pub ran_made : (m : ℕ) (r : Result Step StepRefusal) (a : Step) (s' : State) (b' : ℕ → ℕ) (o' : ℕ → Bool) (t' : Tally)
      → m ≡ suc n → r ≡ (stepped s b o).answer → r ≡ Ok a → s' ≡ (stepped s b o).state → b' ≡ (stepped s b o).bytes → o' ≡ o → t' ≡ counted t a
      → ran m s b o t ≡ ran n s' b' o' t'
  ran_made m r a s' b' o' t' e h k es eb eo et =
      let x : ran m s b o t ≡ ran n (stepped s b o).state (stepped s b o).bytes o (counted t a) = ap (λ k. ran k s b o t) e ∙ ap next (sym h ∙ k) in
      x ∙ sym (ap (λ x. ran n x b' o' t') es ∙ ap (λ x. ran n (stepped s b o).state x o' t') eb
      ∙ ap (λ x. ran n (stepped s b o).state (stepped s b o).bytes x t') eo ∙ ap (λ x. ran n (stepped s b o).state (stepped s b o).bytes o x) et)

  -- one step that was refused
  pub ran_refused : (m : ℕ) (r : Result Step StepRefusal) (f : StepRefusal) → m ≡ suc n → r ≡ (stepped s b o).answer → r ≡ Err f
      → ran m s b o t ≡ record { answer = record { tally = t; end = Err f }; state = (stepped s b o).state; bytes = (stepped s b o).bytes }
  ran_refused m r f e h k = ap (λ k. ran k s b o t) e ∙ ap next (sym h ∙ k)

pub counted_more : (t : Tally) (a : Step) → (counted t a).own + (counted t a).service + (counted t a).takings ≡ t.own + t.service + t.takings + 1
counted_more t (step.Taken n) = omega arith
counted_more t (step.Made (side.Own)) = omega arith
counted_more t (step.Made (side.Service)) = omega arith

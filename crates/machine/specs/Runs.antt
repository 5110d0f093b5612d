-- Runs: steps until the budget is spent or one is refused.
use Rattle.std.specs.Prelude.{◌≡◌, ℕ, zero, suc, ◌+◌, Bool, Ok, Err, Result}
use Rattle.memory.specs.Meaning.{Meaning}
use Rattle.machine.specs.declared.states.Side.TheVariants as side
use Rattle.machine.specs.declared.states.State.{State}
use Rattle.machine.specs.declared.answers.Step.{Step}
use Rattle.machine.specs.declared.answers.Step.TheVariants as step
use Rattle.machine.specs.declared.answers.StepRefusal.{StepRefusal}
use Rattle.machine.specs.declared.answers.Tally.{Tally}
use Rattle.machine.specs.declared.answers.Run.{Run}
use Rattle.machine.specs.Steps.{memory_of, stepped}

-- no step was made yet
abbrev pub no_steps : Tally
no_steps = record { own = 0; service = 0; takings = 0; wait = 0 }

-- one more step was made
abbrev pub counted : Tally → Step → Tally
counted t (step.Taken n) = record { own = t.own; service = t.service; takings = t.takings + 1; wait = n }
counted t (step.Made d) = elim d [
  | side.Own ↦ record { own = t.own + 1; service = t.service; takings = t.takings; wait = t.wait }
  | side.Service ↦ record { own = t.own; service = t.service + 1; takings = t.takings; wait = t.wait }
]

-- what a run answers, and the state and the bytes after it
pub record Ran : Type 0 where
  pub answer : Run
  pub state : State
  pub bytes : ℕ → ℕ

-- after a step that was made the run goes on; after a refused one it ends, and carries the refusal whole
abbrev pub go_on : Result Step StepRefusal → State → (ℕ → ℕ) → Tally → (Tally → Ran) → Ran
go_on (Ok made) s b t rest = rest (counted t made)
go_on (Err refusal) s b t rest = record { answer = record { tally = t; end = Err refusal }; state = s; bytes = b }

-- n steps of the budget are left
abbrev pub ran : ℕ → State → (ℕ → ℕ) → (ℕ → Bool) → Tally → Ran
ran zero s b o t = record { answer = record { tally = t; end = Ok tt }; state = s; bytes = b }
ran (suc n) s b o t =
    let out = stepped s b o in
    go_on out.answer out.state out.bytes t (λ u. ran n out.state out.bytes o u)

-- what a run that began at s and m with this budget answers, leaves as state and leaves in memory
pub record Runs (budget : ℕ) (s : State) (m : Meaning) (answer : Run) (t : State) (u : Meaning) : Type 0 where
  pub answers : answer ≡ (ran budget s m.byte m.mark no_steps).answer
  pub state : t ≡ (ran budget s m.byte m.mark no_steps).state
  pub memory : u ≡ memory_of (ran budget s m.byte m.mark no_steps).bytes m.mark

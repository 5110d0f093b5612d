-- The twin: single steps and nothing else.
use Rattle.std.specs.Prelude.{ℕ, zero, suc, Bool, true, false, ◌&&◌, Ok, Result}
use Rattle.machine.specs.declared.answers.Step.{Step}
use Rattle.machine.specs.declared.answers.Step.TheVariants as step
use Rattle.machine.specs.declared.answers.StepRefusal.{StepRefusal}
use Rattle.machine.specs.declared.states.Side.TheVariants as side
use Rattle.machine.specs.declared.states.State.{State}
use Rattle.machine.specs.Steps.{stepped}

-- an own step that succeeded
abbrev pub made_own : Result Step StepRefusal → Bool
made_own (Ok (step.Made (side.Own))) = true
made_own _ = false

-- each of n single steps is an own step that succeeds
abbrev pub all_own : ℕ → State → (ℕ → ℕ) → (ℕ → Bool) → Bool
all_own zero s b o = true
all_own (suc n) s b o = made_own (stepped s b o).answer && all_own n (stepped s b o).state (stepped s b o).bytes o

-- Why an action was refused, in numbers.
use Rattle.std.specs.Prelude.{ℕ, Bool, List, [], ◌∷◌, Ok, Err, Result, Option, Some, None}
use Rattle.isa.specs.declared.refusals.Refusal.{Refusal}
use Rattle.isa.specs.Refusals.{refusal_number}
use Rattle.machine.specs.declared.states.Side.{Side}
use Rattle.machine.specs.declared.states.Side.TheVariants as side
use Rattle.machine.specs.declared.states.State.{State}
use Rattle.machine.specs.declared.answers.Step.{Step}
use Rattle.machine.specs.declared.answers.StepRefusal.{StepRefusal}
use Rattle.machine.specs.Steps.{asking, stepped}
use Rattle.machine.specs.Runs.{no_steps, ran}
use Rattle.histories.specs.declared.actions.Action.{Action}
use Rattle.histories.specs.declared.actions.Action.TheVariants as action
use Rattle.histories.specs.Histories.{acted}
use Rattle.xr16.specs.declared.answers.Fault.{Fault}

-- what the C answer holds where nothing was refused
abbrev pub no_fault : Fault
no_fault = record { number = 0; side = 0; address = 0 }

-- own steps are of side 0, service steps of side 1
abbrev pub side_number : Side → ℕ
side_number (side.Own) = 0
side_number (side.Service) = 1

-- a step's refusal: its number, its side and its address
abbrev pub fault_of : StepRefusal → Fault
fault_of r = record { number = refusal_number r.refusal; side = side_number r.side; address = r.address }

-- a request's refusal: its number, without side and address
abbrev pub request_fault : Refusal → Fault
request_fault refusal = record { number = refusal_number refusal; side = 0; address = 0 }

-- why a request was refused
abbrev pub asking_fault : Result Unit Refusal → Option Fault
asking_fault (Ok done) = None
asking_fault (Err refusal) = Some (request_fault refusal)

-- why a step was refused
abbrev pub step_fault : Result Step StepRefusal → Option Fault
step_fault (Ok made) = None
step_fault (Err refusal) = Some (fault_of refusal)

-- why a run ended before its budget was spent
abbrev pub end_fault : Result Unit StepRefusal → Option Fault
end_fault (Ok spent) = None
end_fault (Err refusal) = Some (fault_of refusal)

-- why an action is refused
abbrev pub fault_in : (ℕ → Bool) → State → (ℕ → ℕ) → Action → Option Fault
fault_in o s b (action.Request) = asking_fault (asking s)
fault_in o s b (action.Step) = step_fault (stepped s b o).answer
fault_in o s b (action.Run budget) = end_fault (ran budget s b o no_steps).answer.end

-- why the last action of a list is refused; the fault before the list, where it has none
abbrev pub last_fault : (ℕ → Bool) → State → (ℕ → ℕ) → Option Fault → List Action → Option Fault
last_fault o s b before [] = before
last_fault o s b before (a ∷ actions) =
    last_fault o (acted o s b a).state (acted o s b a).bytes (fault_in o s b a) actions

-- the fault that the C answer holds
abbrev pub held : Option Fault → Fault
held None = no_fault
held (Some fault) = fault

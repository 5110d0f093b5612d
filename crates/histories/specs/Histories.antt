-- Lists of actions, what they lead to, and their histories: the single events, with runs taken apart.
use Rattle.std.specs.Prelude.{◌≡◌, ℕ, zero, suc, ◌+◌, max, Bool, not, List, [], ◌∷◌, ◌++◌, Ok, Err, Result}
use Rattle.memory.specs.Meaning.{Meaning}
use Rattle.memory.specs.Words.{word_at}
use Rattle.machine.specs.declared.states.State.{State}
use Rattle.machine.specs.declared.answers.Step.{Step}
use Rattle.machine.specs.declared.answers.StepRefusal.{StepRefusal}
use Rattle.machine.specs.declared.answers.Tally.{Tally}
use Rattle.machine.specs.Steps.{memory_of, stepped, asked, busy}
use Rattle.machine.specs.Runs.{no_steps, counted, ran}
use Rattle.histories.specs.declared.actions.Action.{Action}
use Rattle.histories.specs.declared.actions.Action.TheVariants as action

-- what one answer adds to a tally
abbrev pub tallied : Result Step StepRefusal → Tally
tallied (Ok made) = counted no_steps made
tallied (Err refusal) = no_steps

-- two tallies together: steps and takings are added, and the longest wait stays
abbrev pub joined : Tally → Tally → Tally
joined t u = record { own = t.own + u.own; service = t.service + u.service; takings = t.takings + u.takings; wait = max t.wait u.wait }

-- a core's state, the bytes of its memory, and the tally of the steps that led there
pub record Point : Type 0 where
  pub state : State
  pub bytes : ℕ → ℕ
  pub tally : Tally

-- what one action leads to
abbrev pub acted : (ℕ → Bool) → State → (ℕ → ℕ) → Action → Point
acted o s b (action.Request) = record { state = asked s; bytes = b; tally = no_steps }
acted o s b (action.Step) = let out = stepped s b o in record { state = out.state; bytes = out.bytes; tally = tallied out.answer }
acted o s b (action.Run budget) = let out = ran budget s b o no_steps in record { state = out.state; bytes = out.bytes; tally = out.answer.tally }

-- what an action from s and m tallies, leaves as state and leaves in memory
pub record Acts (a : Action) (s : State) (m : Meaning) (tally : Tally) (t : State) (n : Meaning) : Type 0 where
  pub tallies : tally ≡ (acted m.mark s m.byte a).tally
  pub state : t ≡ (acted m.mark s m.byte a).state
  pub memory : n ≡ memory_of (acted m.mark s m.byte a).bytes m.mark

-- what a list of actions leads to
abbrev pub played : (ℕ → Bool) → State → (ℕ → ℕ) → List Action → Point
played o s b [] = record { state = s; bytes = b; tally = no_steps }
played o s b (a ∷ actions) =
    let p = acted o s b a in
    let q = played o p.state p.bytes actions in
    record { state = q.state; bytes = q.bytes; tally = joined p.tally q.tally }

-- a request, accepted or refused; a step with its address, the word there, and its answer
pub data Event : Type 0 where
  request : Bool → Event
  step : ℕ → ℕ → Result Step StepRefusal → Event

-- the event of a step
abbrev pub step_of : State → (ℕ → ℕ) → (ℕ → Bool) → Event
step_of s b o = step s.counter (word_at b s.counter) (stepped s b o).answer

-- a run ends with a refused step
abbrev pub unless_refused : Result Step StepRefusal → List Event → List Event
unless_refused (Ok made) rest = rest
unless_refused (Err refusal) rest = []

-- the events of a run with n steps of its budget left
abbrev pub run_events : ℕ → State → (ℕ → ℕ) → (ℕ → Bool) → List Event
run_events zero s b o = []
run_events (suc n) s b o =
    let out = stepped s b o in
    step_of s b o ∷ unless_refused out.answer (run_events n out.state out.bytes o)

-- the events of one action
abbrev pub events_of : (ℕ → Bool) → State → (ℕ → ℕ) → Action → List Event
events_of o s b (action.Request) = request (not (busy s)) ∷ []
events_of o s b (action.Step) = step_of s b o ∷ []
events_of o s b (action.Run budget) = run_events budget s b o

-- the history of a list of actions
abbrev pub history : (ℕ → Bool) → State → (ℕ → ℕ) → List Action → List Event
history o s b [] = []
history o s b (a ∷ actions) = let p = acted o s b a in events_of o s b a ++ history o p.state p.bytes actions

-- what one event adds to a tally
abbrev pub noted : Event → Tally
noted (request accepted) = no_steps
noted (step a w answer) = tallied answer

-- the tally of a history: its own steps and service steps that succeeded, its takings, and the longest wait
abbrev pub tally_of : List Event → Tally
tally_of [] = no_steps
tally_of (e ∷ events) = joined (noted e) (tally_of events)

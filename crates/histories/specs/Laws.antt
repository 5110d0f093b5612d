-- What holds of every list of actions on a newly loaded core: requests leave no mark, waits are bounded, hazards follow jumps, steps are counted.
use Rattle.std.specs.Prelude.{◌≡◌, ℕ, suc, ◌+◌, ◌<◌, ◌≤◌, Bool, true, false, List, [], ◌∷◌, ◌++◌, Some, None, Ok, Err, Option, Result, ◌≢◌, slice_index}
use Rattle.isa.specs.declared.refusals.Refusal.TheVariants as refusal
use Rattle.memory.specs.Meaning.{Meaning}
use Rattle.machine.specs.declared.states.Layout.{Layout}
use Rattle.machine.specs.declared.states.Side.TheVariants as side
use Rattle.machine.specs.declared.states.State.{State}
use Rattle.machine.specs.declared.answers.Step.{Step}
use Rattle.machine.specs.declared.answers.Step.TheVariants as made
use Rattle.machine.specs.declared.answers.StepRefusal.{StepRefusal}
use Rattle.machine.specs.Layouts.{inside}
use Rattle.machine.specs.Steps.{stepped}
use Rattle.machine.specs.Loads.{fresh, fits}
use Rattle.histories.specs.declared.actions.Action.{Action}
use Rattle.histories.specs.Texts.{reads_jump, NoExtended, NoHazard, RunsWithin}
use Rattle.histories.specs.Histories.{played, Event, step, history, tally_of}

-- n steps, each an own step that succeeds, and nothing else
pub data Alone (o : ℕ → Bool) : ℕ → State → (ℕ → ℕ) → State → (ℕ → ℕ) → Type 0 where
  none : {t : State} {c : ℕ → ℕ} → Alone o 0 t c t c
  more : {n : ℕ} {t u : State} {c e : ℕ → ℕ} → (stepped t c o).answer ≡ Ok (made.Made side.Own)
      → Alone o n (stepped t c o).state (stepped t c o).bytes u e → Alone o (suc n) t c u e

-- the same program state: the counter, all registers but r14, and all memory outside the service range
pub record SameProgram (s : State) (b : ℕ → ℕ) (t : State) (c : ℕ → ℕ) : Type 0 where
  pub counter : s.counter ≡ t.counter
  pub registers : (k : ℕ) → k < 16 → (k ≢ 14) → slice_index s.registers k ≡ slice_index t.registers k
  pub memory : (a : ℕ) → a < 65536 → inside s.layout a ≡ false → b a ≡ c a

-- the answer is that of an own step, made or refused
abbrev pub OwnStep : Result Step StepRefusal → Type 0
OwnStep (Ok (made.Made d)) = d ≡ side.Own
OwnStep (Ok (made.Taken wait)) = ⊥
OwnStep (Err refusal) = refusal.side ≡ side.Own

-- a core beside its twin: where no service is open the program states are the same, and an own step answers alike in both, a refused one
-- with the same number, address and side
pub record Undisturbed (o : ℕ → Bool) (s : State) (b : ℕ → ℕ) (p : ℕ → Bool) (t : State) (c : ℕ → ℕ) : Type 0 where
  pub same : s.service ≡ None → SameProgram s b t c
  pub alike : OwnStep (stepped s b o).answer → (stepped t c p).answer ≡ (stepped s b o).answer

-- two memories with the same byte and the same mark at every address
pub record Alike (m n : Meaning) : Type 0 where
  pub bytes : (a : ℕ) → a < 65536 → m.byte a ≡ n.byte a
  pub marks : (a : ℕ) → a < 65536 → m.mark a ≡ n.mark a

-- Where no word of the program text, as loaded, reads as srxi or slxi, any list of actions leaves the program as if nothing had been asked:
-- a twin that was loaded alike over a like memory, and made one step for each own step that succeeded and nothing else, stands beside the core.
abbrev pub RequestsLeaveNoMark : Type 0
RequestsLeaveNoMark =
    (l : Layout) (size : ℕ) → fits l size ≡ true → (m n : Meaning) → Alike m n → NoExtended l m.byte → (actions : List Action)
    → (t : State) × (c : ℕ → ℕ) × Alone n.mark (played m.mark (fresh l) m.byte actions).tally.own (fresh l) n.byte t c
    × Undisturbed m.mark (played m.mark (fresh l) m.byte actions).state (played m.mark (fresh l) m.byte actions).bytes n.mark t c

-- each request that is taken in a history waited no longer
abbrev pub WaitsWithin : ℕ → List Event → Type 0
WaitsWithin most events = (before after : List Event) (a w wait : ℕ) → events ≡ before ++ (step a w (Ok (made.Taken wait)) ∷ after) → wait ≤ most

-- where no interlocked run of the text, as loaded, is longer than this, each taken request waited no longer than that
abbrev pub Limits : ℕ → ℕ → Type 0
Limits longest limit =
    (l : Layout) (size : ℕ) → fits l size ≡ true → (m : Meaning) → RunsWithin l.text m.byte longest → (actions : List Action)
    → WaitsWithin limit (history m.mark (fresh l) m.byte actions)

-- Each taken request waited at most one more than the longest interlocked run.
abbrev pub WaitsAreBounded : Type 0
WaitsAreBounded = (longest : ℕ) → Limits longest (longest + 1)

-- the word of the last own step that succeeded, one event later
abbrev pub own_word : Option ℕ → Event → Option ℕ
own_word w (step a v (Ok (made.Made (side.Own)))) = Some v
own_word w _ = w

-- the word of the last own step that succeeded in a history
abbrev pub last_own : Option ℕ → List Event → Option ℕ
last_own w [] = w
last_own w (e ∷ events) = last_own (own_word w e) events

-- there is a word, and it reads as jal or call
pub record Jumped (w : Option ℕ) : Type 0 where
  pub word : ℕ
  pub is : w ≡ Some word
  pub jumps : reads_jump word ≡ true

-- an own step of a history is refused for a hazard only if the last own step that succeeded before it was jal or call
abbrev pub OnlyAfterJumps : List Event → Type 0
OnlyAfterJumps events =
    (before after : List Event) (a w : ℕ) (r : StepRefusal) → events ≡ before ++ (step a w (Err r) ∷ after)
    → r.refusal ≡ refusal.Hazard → r.side ≡ side.Own → Jumped (last_own None before)

-- Where no two neighbouring words of the program text, as loaded, are in hazard, an own step is refused for a hazard only after jal or call.
abbrev pub HazardsFollowJumps : Type 0
HazardsFollowJumps =
    (l : Layout) (size : ℕ) → fits l size ≡ true → (m : Meaning) → NoHazard l m.byte → (actions : List Action)
    → OnlyAfterJumps (history m.mark (fresh l) m.byte actions)

-- A run's steps count like single ones: what a list of actions counts, the twin's steps among it, is what its history counts.
abbrev pub StepsAreCounted : Type 0
StepsAreCounted =
    (o : ℕ → Bool) (s : State) (b : ℕ → ℕ) (actions : List Action) → (played o s b actions).tally ≡ tally_of (history o s b actions)

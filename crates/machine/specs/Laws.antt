-- What holds of every step and every run, above their definitions.
use Rattle.std.specs.Prelude.{◌≡◌, ℕ, zero, suc, ◌+◌, ◌%◌, ◌<◌, ◌≤◌, Bool, true, false, List, length, Some, Ok, Err, Result, ◌≢◌, slice_index, slice_index_or, None}
use Rattle.isa.specs.Registers.{reads_interlocked}
use Rattle.memory.specs.Meaning.{Meaning}
use Rattle.memory.specs.Words.{word_at}
use Rattle.machine.specs.declared.states.Side.{Side}
use Rattle.machine.specs.declared.states.Side.TheVariants as side
use Rattle.machine.specs.declared.states.State.{State}
use Rattle.machine.specs.declared.answers.Step.{Step}
use Rattle.machine.specs.declared.answers.Step.TheVariants as step
use Rattle.machine.specs.declared.answers.StepRefusal.{StepRefusal}
use Rattle.machine.specs.declared.answers.Run.{Run}
use Rattle.machine.specs.Waits.{closed}
use Rattle.machine.specs.Layouts.{inside}
use Rattle.machine.specs.Steps.{stepped, asked, taking}

-- the next step takes no request
abbrev pub NoTaking : State → (ℕ → ℕ) → (ℕ → Bool) → Type 0
NoTaking s b o = (wait : ℕ) → (stepped s b o).answer ≢ Ok (step.Taken wait)

-- as the state of every core is: sixteen registers, an even counter, a service range with even ends
pub record WellFormed (s : State) : Type 0 where
  pub sixteen : length s.registers ≡ 16
  pub even : s.counter % 2 ≡ 0
  pub small : s.counter < 65536
  pub lower : s.layout.service.low % 2 ≡ 0
  pub upper : s.layout.service.high % 2 ≡ 0

-- a request is taken here
pub record Takes (s : State) : Type 0 where
  pub formed : WellFormed s
  pub shut : s.service ≡ None
  pub asks : (wait : ℕ) × (s.pending ≡ Some wait)
  pub ready : s.interruptible ≡ true

-- n steps after the request was taken at s and b, throughout which the service was open, the state is t and the bytes are c
abbrev pub Serving : State → (ℕ → ℕ) → (ℕ → Bool) → ℕ → State → (ℕ → ℕ) → Type 0
Serving s b o zero t c = (t ≡ taking s) × (c ≡ b)
Serving s b o (suc n) t c =
    (r : State) × ((d : ℕ → ℕ) × (Serving s b o n r d × ((t ≡ (stepped r d o).state) × ((c ≡ (stepped r d o).bytes) × (closed t.service ≡ false)))))

-- r1 to r15 and the counter are as they were when the request was taken at s and b, r14 having the counter; bytes changed in the range only
pub record GivenBack (s : State) (b : ℕ → ℕ) (t : State) (c : ℕ → ℕ) : Type 0 where
  pub registers : (k : ℕ) → 1 ≤ k → k < 16 → (k ≢ 14) → slice_index t.registers k ≡ slice_index s.registers k
  pub link : slice_index_or t.registers 14 0 ≡ s.counter
  pub counter : t.counter ≡ s.counter
  pub outside : (a : ℕ) → inside s.layout a ≡ false → c a ≡ b a

-- the laws of a step from s and m that answers so and leads to t and u
pub record StepLaws (s : State) (m : Meaning) (answer : Result Step StepRefusal) (t : State) (u : Meaning) : Type 0 where
  -- after an interlocked word no request is taken, made before or after it
  pub unbroken : (d : Side) → answer ≡ Ok (step.Made d) → reads_interlocked (word_at m.byte s.counter) ≡ true
      → NoTaking t u.byte u.mark × NoTaking (asked t) u.byte u.mark
  -- an own step leaves the text as it was
  pub text_kept : answer ≡ Ok (step.Made side.Own) → (a : ℕ) → a < s.layout.text → u.byte a ≡ m.byte a
  -- a service step stores in its range only
  pub range_only : answer ≡ Ok (step.Made side.Service) → (a : ℕ) → inside s.layout a ≡ false → u.byte a ≡ m.byte a
  -- a refused step leaves core and memory as they were
  pub unaltered : (refusal : StepRefusal) → answer ≡ Err refusal → (t ≡ s) × (u ≡ m)
  -- a service that closes gives back what it was lent, and has stored in its range only
  pub gives_back : (r : State) (b : ℕ → ℕ) (n : ℕ) → Takes r → Serving r b m.mark n s m.byte → closed t.service ≡ true → GivenBack r b t u.byte

-- every register but r0 is as its copy
abbrev pub AllBack : List ℕ → List ℕ → Type 0
AllBack registers copies = (k : ℕ) → 1 ≤ k → k < 16 → slice_index registers k ≡ slice_index copies k

-- the laws of what a service owes
pub record OwingLaws (s : State) (count : ℕ) : Type 0 where
  -- nothing while none is open
  pub shut : s.service ≡ None → count ≡ 0
  -- while one is open, nothing exactly where every register but r0 is as its copy
  pub kept : (copies : List ℕ) → s.service ≡ Some copies → count ≡ 0 → AllBack s.registers copies
  pub free : (copies : List ℕ) → s.service ≡ Some copies → AllBack s.registers copies → count ≡ 0
  -- at most the fifteen registers
  pub most : count ≤ 15

-- a state and bytes
pub record Standing : Type 0 where
  pub state : State
  pub bytes : ℕ → ℕ

-- after n single steps, whatever they answer
abbrev pub repeated : ℕ → State → (ℕ → ℕ) → (ℕ → Bool) → Standing
repeated zero s b o = record { state = s; bytes = b }
repeated (suc n) s b o = repeated n (stepped s b o).state (stepped s b o).bytes o

-- the laws of a run
pub record RunLaws (budget : ℕ) (s : State) (m : Meaning) (answer : Run) (t : State) (u : Meaning) : Type 0 where
  -- it leaves core and memory as so many single steps do
  pub single : (t ≡ (repeated budget s m.byte m.mark).state) × (u.byte ≡ (repeated budget s m.byte m.mark).bytes)
  -- it says that it is spent only when it has made them all
  pub whole : answer.end ≡ Ok tt → answer.tally.own + answer.tally.service + answer.tally.takings ≡ budget

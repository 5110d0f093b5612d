-- The step, as a function of the state, the bytes and the marks.
use Rattle.std.specs.Prelude.{◌≡◌, ℕ, ◌+◌, ◌%◌, Bool, true, false, cond, not, ◌&&◌, List, is_some, Some, None, Ok, Err, Option, Result, ◌==◌, slice_set}
use Rattle.isa.specs.declared.refusals.Refusal.{Refusal}
use Rattle.isa.specs.declared.refusals.Refusal.TheVariants.{Astray, Busy}
use Rattle.isa.specs.Registers.{result, interlocked}
use Rattle.memory.specs.Meaning.{Meaning, stored}
use Rattle.memory.specs.Words.{word_at, stored_word}
use Rattle.operations.specs.declared.values.Forerunner.{Forerunner}
use Rattle.operations.specs.declared.values.Forerunner.TheVariants as forerunner
use Rattle.operations.specs.declared.values.Width.{Width}
use Rattle.operations.specs.declared.values.Width.TheVariants as width
use Rattle.operations.specs.declared.values.Effect.{Effect}
use Rattle.operations.specs.declared.values.Effect.TheVariants as effect
use Rattle.operations.specs.Arithmetic.{following}
use Rattle.machine.specs.declared.states.Side.{Side}
use Rattle.machine.specs.declared.states.Side.TheVariants as side
use Rattle.machine.specs.declared.states.State.{State}
use Rattle.machine.specs.declared.states.Plan.{Plan}
use Rattle.machine.specs.declared.answers.Step.{Step}
use Rattle.machine.specs.declared.answers.Step.TheVariants as step
use Rattle.machine.specs.declared.answers.StepRefusal.{StepRefusal}
use Rattle.machine.specs.Waits.{closed}
use Rattle.machine.specs.Layouts.{is_own, placed}
use Rattle.machine.specs.Checks.{planned}

-- a memory with these bytes and marks
abbrev pub memory_of : (ℕ → ℕ) → (ℕ → Bool) → Meaning
memory_of b o = record { byte = b; mark = o }

-- an own word that runs while a request is pending makes its wait longer by one
abbrev pub waited : Option ℕ → Side → Option ℕ
waited None d = None
waited (Some n) (side.Own) = Some (n + 1)
waited (Some n) (side.Service) = Some n

-- the registers after a result is written; r0 stays 0
abbrev pub written : List ℕ → ℕ → ℕ → List ℕ
written registers number value = cond (number == 0) registers (slice_set registers number value)

-- a word leaves a new forerunner, or keeps the one before
abbrev pub left_behind : Option Forerunner → Forerunner → Forerunner
left_behind None before = before
left_behind (Some f) before = f

-- the state after a word, given its result's value, the counter and the prefix after
abbrev pub settled : State → Side → Plan → ℕ → ℕ → Option ℕ → State
settled s d p value next prefix = record {
  counter = next;
  registers = written s.registers (result p.instruction) value;
  prefix = prefix;
  forerunner = left_behind p.leaves s.forerunner;
  made = cond (is_own d) (result p.instruction) s.made;
  served = cond (is_own d) s.served (result p.instruction);
  pending = waited s.pending d;
  interruptible = not (interlocked p.instruction);
  service = cond p.closes None s.service;
  layout = s.layout;
}

-- what is loaded from an address
abbrev pub loaded : (ℕ → ℕ) → Width → ℕ → ℕ
loaded b (width.Byte) a = b a
loaded b (width.Word) a = word_at b a

-- the bytes after a value is stored at an address
abbrev pub stored_as : (ℕ → ℕ) → (ℕ → Bool) → Width → ℕ → ℕ → ℕ → ℕ
stored_as b o (width.Byte) a value = (stored (memory_of b o) a (value % 256)).byte
stored_as b o (width.Word) a value = (stored_word (memory_of b o) a value).byte

-- the value of the result's register
abbrev pub value_by : (ℕ → ℕ) → Effect → ℕ
value_by b (effect.Put value next) = value
value_by b (effect.Load width a) = loaded b width a
value_by b _ = 0

-- the counter after
abbrev pub counter_by : ℕ → Effect → ℕ
counter_by counter (effect.Put value next) = next
counter_by counter _ = following counter

-- the prefix after
abbrev pub prefix_by : Effect → Option ℕ
prefix_by (effect.Hold prefix) = Some prefix
prefix_by _ = None

-- the state after a word that did this
abbrev pub after : State → (ℕ → ℕ) → Side → Plan → Effect → State
after s b d p e = settled s d p (value_by b e) (counter_by s.counter e) (prefix_by e)

-- the bytes after a word that did this
abbrev pub bytes_after : (ℕ → ℕ) → (ℕ → Bool) → Effect → ℕ → ℕ
bytes_after b o (effect.Store width a value) = stored_as b o width a value
bytes_after b o _ = b

-- the memory after a value is stored at an address
abbrev pub stored_in : Meaning → Width → ℕ → ℕ → Meaning
stored_in m width a value = memory_of (stored_as m.byte m.mark width a value) m.mark

-- the state after a planned word
abbrev pub run_state : State → Meaning → Side → Plan → State
run_state s m d p = after s m.byte d p p.effect

-- the memory after a word that did this
abbrev pub memory_after : Meaning → Effect → Meaning
memory_after m e = memory_of (bytes_after m.byte m.mark e) m.mark

-- what a step answers, and the state and the bytes after it; the marks never change
pub record Outcome : Type 0 where
  pub answer : Result Step StepRefusal
  pub state : State
  pub bytes : ℕ → ℕ

-- a refusal carries the counter and the side, and alters nothing
abbrev pub refused : State → (ℕ → ℕ) → Side → Refusal → Outcome
refused s b d refusal = record {
  answer = Err (record { refusal = refusal; address = s.counter; side = d });
  state = s;
  bytes = b;
}

-- a word that was planned runs
abbrev pub applied : State → (ℕ → ℕ) → (ℕ → Bool) → Side → Result Plan Refusal → Outcome
applied s b o d (Err refusal) = refused s b d refusal
applied s b o d (Ok p) = record {
  answer = Ok (step.Made d);
  state = after s b d p p.effect;
  bytes = bytes_after b o p.effect;
}

-- the plan of the word at the counter, where the side's words may stand
abbrev pub found : State → (ℕ → ℕ) → Side → Result Plan Refusal
found s b d = cond (placed s.layout d s.counter) (planned s d (word_at b s.counter)) (Err Astray)

-- the word at the counter runs
abbrev pub performed : State → (ℕ → ℕ) → (ℕ → Bool) → Side → Outcome
performed s b o d = applied s b o d (found s b d)

-- a request is taken: r14 gets the counter, the counter 0x0010, then all sixteen registers are copied; this counts as a word with result r14
abbrev pub taking : State → State
taking s =
    let kept = slice_set s.registers 14 s.counter in
    record {
      counter = 16;
      registers = kept;
      prefix = s.prefix;
      forerunner = forerunner.Nothing;
      made = s.made;
      served = 14;
      pending = None;
      interruptible = s.interruptible;
      service = Some kept;
      layout = s.layout;
    }

-- the answer carries the wait
abbrev pub taken : State → (ℕ → ℕ) → ℕ → Outcome
taken s b wait = record { answer = Ok (step.Taken wait); state = taking s; bytes = b }

-- a request is taken exactly when one is pending, no service is open and the last word left the core interruptible; else one word runs
abbrev pub stepped_by : State → (ℕ → ℕ) → (ℕ → Bool) → Option (List ℕ) → Option ℕ → Bool → Outcome
stepped_by s b o None None ready = performed s b o side.Own
stepped_by s b o None (Some wait) true = taken s b wait
stepped_by s b o None (Some wait) false = performed s b o side.Own
stepped_by s b o (Some copies) pending ready = performed s b o side.Service

-- one step
abbrev pub stepped : State → (ℕ → ℕ) → (ℕ → Bool) → Outcome
stepped s b o = stepped_by s b o s.service s.pending s.interruptible

-- the step of this side is due
abbrev pub due : State → Side → Bool
due s (side.Own) = closed s.service && not (is_some s.pending && s.interruptible)
due s (side.Service) = not (closed s.service)

-- one request pends at a time, and none while a service is open
abbrev pub busy_by : Option (List ℕ) → Option ℕ → Bool
busy_by None None = false
busy_by _ _ = true

-- a request would be refused
abbrev pub busy : State → Bool
busy s = busy_by s.service s.pending

-- what a request answers
abbrev pub asking : State → Result Unit Refusal
asking s = cond (busy s) (Err Busy) (Ok tt)

-- the state after a request: one that is accepted has waited 0, a refused one alters nothing
abbrev pub asked : State → State
asked s = record {
  counter = s.counter;
  registers = s.registers;
  prefix = s.prefix;
  forerunner = s.forerunner;
  made = s.made;
  served = s.served;
  pending = cond (busy s) s.pending (Some 0);
  interruptible = s.interruptible;
  service = s.service;
  layout = s.layout;
}

-- a call that began at the marks o answers so, and leaves this state and this memory: exactly this outcome
pub record Gives (x : Outcome) (o : ℕ → Bool) (answer : Result Step StepRefusal) (t : State) (u : Meaning) : Type 0 where
  pub answers : answer ≡ x.answer
  pub state : t ≡ x.state
  pub memory : u ≡ memory_of x.bytes o

-- what running a word of this side from s and m gives
abbrev pub Performs : Side → State → Meaning → Result Step StepRefusal → State → Meaning → Type 0
Performs d s m = Gives (performed s m.byte m.mark d) m.mark

-- what a step from s and m gives
abbrev pub Steps : State → Meaning → Result Step StepRefusal → State → Meaning → Type 0
Steps s m = Gives (stepped s m.byte m.mark) m.mark

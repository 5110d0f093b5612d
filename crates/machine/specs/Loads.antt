-- Loading: which images and ranges are accepted, and what a core is afterwards.
use Rattle.std.specs.Prelude.{◌≡◌, ℕ, zero, suc, ◌%◌, Bool, true, false, cond, ◌&&◌, List, length, replicate, None, Ok, Err, Result, ◌==◌, nat_le}
use Rattle.isa.specs.declared.refusals.Refusal.{Refusal}
use Rattle.isa.specs.declared.refusals.Refusal.TheVariants.{Plan, Closed}
use Rattle.memory.specs.Meaning.{Meaning}
use Rattle.memory.specs.Words.{stored_image}
use Rattle.operations.specs.declared.values.Forerunner.TheVariants as forerunner
use Rattle.machine.specs.declared.states.State.{State}
use Rattle.machine.specs.declared.states.Layout.{Layout}

-- a core that was newly reset
abbrev pub fresh : Layout → State
fresh l = record {
  counter = 0;
  registers = replicate 16 0;
  prefix = None;
  forerunner = forerunner.Nothing;
  made = 0;
  served = 0;
  pending = None;
  interruptible = false;
  service = None;
  layout = l;
}

-- a text length and a service range
abbrev pub layout : ℕ → ℕ → ℕ → Layout
layout text lo hi = record { text = text; service = record { low = lo; high = hi } }

-- no text and no service range
abbrev pub unloaded : Layout
unloaded = layout 0 0 0

-- the range has even ends, begins at 2 to 16 and ends at 18 to the end of text
abbrev pub range_fits : Layout → Bool
range_fits l =
    (l.service.low % 2 == 0) && (l.service.high % 2 == 0 && (nat_le 2 l.service.low && (nat_le l.service.low 16 && (nat_le 18 l.service.high && nat_le l.service.high l.text))))

-- text is a multiple of 16 bytes, within an image of at most 65,280 bytes, and the range fits
abbrev pub fits : Layout → ℕ → Bool
fits l size = l.text % 16 == 0 && (nat_le l.text size && (nat_le size 65280 && range_fits l))

-- the first n addresses are open
abbrev pub open_below : (ℕ → Bool) → ℕ → Bool
open_below o zero = true
open_below o (suc n) = open_below o n && o n

-- the checks of a load, in order
abbrev pub loading : Layout → List ℕ → Meaning → Result Unit Refusal
loading l image m = cond (fits l (length image)) (cond (open_below m.mark (length image)) (Ok tt) (Err Closed)) (Err Plan)

-- the state after a load
abbrev pub loaded_state : Result Unit Refusal → Layout → State → State
loaded_state (Ok done) l s = fresh l
loaded_state (Err refusal) l s = s

-- the memory after a load
abbrev pub loaded_memory : Result Unit Refusal → List ℕ → Meaning → Meaning
loaded_memory (Ok done) image m = stored_image m image
loaded_memory (Err refusal) image m = m

-- what a load answers, leaves as state and leaves in memory; a refused one alters nothing
pub record Loads (l : Layout) (image : List ℕ) (s : State) (m : Meaning) (answer : Result Unit Refusal) (t : State) (u : Meaning) : Type 0 where
  pub answers : answer ≡ loading l image m
  pub state : t ≡ loaded_state (loading l image m) l s
  pub memory : u ≡ loaded_memory (loading l image m) image m

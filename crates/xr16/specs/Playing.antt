-- What a list of actions on a newly loaded core comes to.
use Rattle.std.specs.Prelude.{◌≡◌, ℕ, ◌+◌, ◌%◌, max, List, Ok, Err, Result, Option, None}
use Rattle.isa.specs.declared.refusals.Refusal.{Refusal}
use Rattle.isa.specs.Refusals.{refusal_number}
use Rattle.memory.specs.Meaning.{Meaning}
use Rattle.memory.specs.Words.{stored_image}
use Rattle.machine.specs.declared.states.Layout.{Layout}
use Rattle.machine.specs.declared.states.State.{State}
use Rattle.machine.specs.declared.answers.Tally.{Tally}
use Rattle.machine.specs.Checks.{owing}
use Rattle.machine.specs.Loads.{fresh, loading, unloaded}
use Rattle.machine.specs.Steps.{memory_of}
use Rattle.histories.specs.declared.actions.Action.{Action}
use Rattle.histories.specs.Histories.{played}
use Rattle.xr16.specs.declared.answers.Fault.{Fault}
use Rattle.xr16.specs.declared.answers.Playing.{Playing}
use Rattle.xr16.specs.declared.answers.Totals.{Totals}
use Rattle.xr16.specs.Faults.{held, last_fault}

-- counts are kept modulo 2^64
abbrev pub count : ℕ → ℕ
count n = n % 18446744073709551616

-- no action yet
abbrev pub nothing : Totals
nothing = record { own = 0; service = 0; takings = 0; wait = 0; last = None }

-- one action more
abbrev pub added : Totals → Tally → Option Fault → Totals
added t y fault = record {
  own = count (t.own + y.own);
  service = count (t.service + y.service);
  takings = count (t.takings + y.takings);
  wait = max t.wait y.wait;
  last = fault;
}

-- the totals of a tally, and why the last action was refused
abbrev pub totals_of : Tally → Option Fault → Totals
totals_of y fault = record {
  own = count y.own;
  service = count y.service;
  takings = count y.takings;
  wait = y.wait;
  last = fault;
}

-- what actions from s and m come to, leave as state and leave in memory
pub record Plays (actions : List Action) (s : State) (m : Meaning) (r : Totals) (t : State) (u : Meaning) : Type 0 where
  pub totals : r ≡ totals_of (played m.mark s m.byte actions).tally (last_fault m.mark s m.byte None actions)
  pub state : t ≡ (played m.mark s m.byte actions).state
  pub memory : u ≡ memory_of (played m.mark s m.byte actions).bytes m.mark

-- the number of a load's refusal, or 0
abbrev pub load_number : Result Unit Refusal → ℕ
load_number (Ok done) = 0
load_number (Err refusal) = refusal_number refusal

-- what is answered of a core after a load and the actions
abbrev pub report : Result Unit Refusal → State → Totals → Playing
report load s t = record {
  own = t.own;
  service = t.service;
  takings = t.takings;
  registers = s.registers;
  counter = s.counter;
  wait = t.wait;
  last = held t.last;
  loading = load_number load;
  owing = owing s;
}

-- what is answered, and the memory afterwards
pub record Outcome : Type 0 where
  pub answer : Playing
  pub memory : Meaning

-- after a load: the actions, unless it was refused
abbrev pub playing_by : Result Unit Refusal → Layout → List ℕ → Meaning → List Action → Outcome
playing_by (Err refusal) l image m actions = record { answer = report (Err refusal) (fresh unloaded) nothing; memory = m }
playing_by (Ok done) l image m actions =
    let n = stored_image m image in
    let p = played m.mark (fresh l) n.byte actions in
    record {
      answer = report (Ok tt) p.state (totals_of p.tally (last_fault m.mark (fresh l) n.byte None actions));
      memory = memory_of p.bytes m.mark;
    }

-- an image loaded into a new core over a memory, and a list of actions
abbrev pub playing : Layout → List ℕ → Meaning → List Action → Outcome
playing l image m actions = playing_by (loading l image m) l image m actions

-- A list of actions on one core, and the own steps that succeeded alone on another.
use Rattle.std.specs.Prelude.{ℕ, ◌+◌, ◌<◌, ◌^◌, max, Bool, ◌&&◌, List, [], ◌∷◌}
use Rattle.machine.specs.declared.answers.Tally.{Tally}
use Rattle.machine.specs.Laws.{Standing, repeated}
use Rattle.histories.specs.declared.actions.Action.{Action}
use Rattle.histories.specs.Histories.{acted}
use Rattle.rehearsal.specs.declared.reports.Totals.{Totals}
use Rattle.rehearsal.specs.Twins.{all_own}

-- no action yet
abbrev pub nothing : Totals
nothing = record { own = 0; service = 0; takings = 0; wait = 0 }

-- each count has room for one tally more
pub record HasRoom (t : Totals) : Type 0 where
  pub own : t.own + 65536 < 2 ^ 128
  pub service : t.service + 65536 < 2 ^ 128
  pub takings : t.takings + 65536 < 2 ^ 128

-- one action more: counts add up, and the longest wait stays
abbrev pub added : Totals → Tally → Totals
added t y = record { own = t.own + y.own; service = t.service + y.service; takings = t.takings + y.takings; wait = max t.wait y.wait }

-- the two cores after some actions, what the actions made, and whether every step of the twin was an own step that succeeded
pub record Stage : Type 0 where
  pub first : Standing
  pub twin : Standing
  pub totals : Totals
  pub kept : Bool

-- one action on the first core, and on the twin as many single steps as own steps succeeded
abbrev pub staged : (ℕ → Bool) → (ℕ → Bool) → Stage → Action → Stage
staged o p g a =
    let s = g.first.state in
    let b = g.first.bytes in
    let n = (acted o s b a).tally.own in
    record {
      first = record { state = (acted o s b a).state; bytes = (acted o s b a).bytes };
      twin = repeated n g.twin.state g.twin.bytes p;
      totals = added g.totals (acted o s b a).tally;
      kept = g.kept && all_own n g.twin.state g.twin.bytes p;
    }

-- a whole list
abbrev pub rehearsed : (ℕ → Bool) → (ℕ → Bool) → Stage → List Action → Stage
rehearsed o p g [] = g
rehearsed o p g (a ∷ actions) = rehearsed o p (staged o p g a) actions

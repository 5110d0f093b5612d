-- What every rehearsal keeps, each promise with its own premise.
use Rattle.std.specs.Prelude.{◌≡◌, ℕ, ◌<◌, ◌≤◌, true, false, List}
use Rattle.memory.specs.Meaning.{Meaning}
use Rattle.machine.specs.declared.states.ServiceRange.{ServiceRange}
use Rattle.machine.specs.Layouts.{inside}
use Rattle.machine.specs.Loads.{fresh}
use Rattle.text.specs.Hazards.{Clean}
use Rattle.text.specs.Origins.{image_origins}
use Rattle.histories.specs.declared.actions.Action.{Action}
use Rattle.histories.specs.Histories.{Event, history, tally_of}
use Rattle.histories.specs.Texts.{NoExtended}
use Rattle.histories.specs.Laws.{Alike, Alone, OnlyAfterJumps, OwnStep, WaitsWithin}
use Rattle.rehearsal.specs.declared.reports.Report.{Report}
use Rattle.rehearsal.specs.declared.reports.Program.TheVariants as program
use Rattle.rehearsal.specs.Reports.{layout_of, loaded, stage}
use Rattle.rehearsal.specs.Stages.{added, nothing}

-- the single events of the list on the first core
abbrev pub events : List ℕ → ServiceRange → Meaning → List Action → List Event
events l range m actions = history m.mark (fresh (layout_of l range)) (loaded l m).byte actions

-- no byte of the program text, which is the text outside the service range, comes from a byte or word record
abbrev pub CleanProgram : List ℕ → ServiceRange → Type 0
CleanProgram l range = (a : ℕ) → a < (layout_of l range).text → inside (layout_of l range) a ≡ false → Clean (image_origins l) a

-- the twin made one step for each own step that succeeded and nothing else, each of which succeeded; the program states do not differ; and
-- where the first core's next step is an own step, made or refused, the twin's answers alike
pub record Unmarked (l : List ℕ) (range : ServiceRange) (m n : Meaning) (actions : List Action) (r : Report) : Type 0 where
  pub kept : r.kept ≡ true
  pub alone : Alone n.mark r.totals.own (fresh (layout_of l range)) (loaded l n).byte (stage l range m n actions).twin.state (stage l range m n actions).twin.bytes
  pub program : r.program ≡ program.Different → ⊥
  pub alike : OwnStep r.next → r.twin_next ≡ r.next

-- the promises of a rehearsal that was made
pub record Promises (l : List ℕ) (range : ServiceRange) (m n : Meaning) (actions : List Action) (r : Report) : Type 0 where
  -- requests leave no mark, over memories that agree when the list begins and a program text without srxi and slxi
  pub unmarked : Alike (loaded l m) (loaded l n) → NoExtended (layout_of l range) (loaded l m).byte → Unmarked l range m n actions r
  -- every wait is at most one more than the longest interlocked run that the assembler answered
  pub bounded : (r.totals.wait ≤ r.limit) × WaitsWithin r.limit (events l range m actions)
  -- an own step is refused for a hazard only after jal or call, in a program text without data of byte and word records
  pub careful : CleanProgram l range → OnlyAfterJumps (events l range m actions)
  -- the totals are those of the single events, so a run's steps count like single ones
  pub counted : r.totals ≡ added nothing (tally_of (events l range m actions))

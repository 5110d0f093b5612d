-- What a rehearsal reports, and what it leaves.
use Rattle.std.specs.Prelude.{◌≡◌, ℕ, ◌+◌, ◌/◌, Bool, true, cond, List, ◌++◌, length, drop, is_ok, Ok, Err, Result, None}
use Rattle.isa.specs.declared.refusals.Refusal.{Refusal}
use Rattle.memory.specs.Meaning.{Meaning}
use Rattle.machine.specs.declared.states.ServiceRange.{ServiceRange}
use Rattle.memory.specs.Words.{stored_image}
use Rattle.machine.specs.declared.states.Layout.{Layout}
use Rattle.machine.specs.declared.states.State.{State}
use Rattle.machine.specs.Steps.{stepped, memory_of}
use Rattle.machine.specs.Loads.{fresh, loading}
use Rattle.machine.specs.Laws.{Standing}
use Rattle.text.specs.declared.outcomes.Answers.{Answers}
use Rattle.text.specs.Answer.{assembled, answers}
use Rattle.text.specs.Hazards.{NoHazard}
use Rattle.text.specs.Image.{image}
use Rattle.text.specs.Runs.{Longest}
use Rattle.text.specs.Sizes.{SizesAgree}
use Rattle.histories.specs.declared.actions.Action.{Action}
use Rattle.histories.specs.Laws.{SameProgram}
use Rattle.rehearsal.specs.declared.reports.Obstacle.{Obstacle}
use Rattle.rehearsal.specs.declared.reports.Obstacle.TheVariants as obstacle
use Rattle.rehearsal.specs.declared.reports.Report.{Report}
use Rattle.rehearsal.specs.declared.reports.Totals.{Totals}
use Rattle.rehearsal.specs.declared.reports.Program.{Program}
use Rattle.rehearsal.specs.declared.reports.Program.TheVariants as program
use Rattle.rehearsal.specs.Stages.{Stage, nothing, rehearsed}

-- the refusal behind an obstacle: the assembly's, the first load's or the twin's
abbrev pub refusal_behind : Obstacle → Refusal
refusal_behind (obstacle.Assembly refused) = refused.refusal
refusal_behind (obstacle.Loading refusal) = refusal
refusal_behind (obstacle.TwinLoading refusal) = refusal

-- a core's state beside the bytes of its memory
abbrev pub standing : State → Meaning → Standing
standing s m = record { state = s; bytes = m.byte }

-- the two cores and what was counted
abbrev pub stage_of : State → Meaning → State → Meaning → Totals → Bool → Stage
stage_of s m t n totals kept = record { first = standing s m; twin = standing t n; totals = totals; kept = kept }

-- the layout of a listing's image with a service range
abbrev pub layout_of : List ℕ → ServiceRange → Layout
layout_of l range = record { text = (answers l).text; service = range }

-- a memory with the image of a listing stored in it
abbrev pub loaded : List ℕ → Meaning → Meaning
loaded l m = stored_image m (image l)

-- two newly loaded cores
abbrev pub opening : List ℕ → ServiceRange → Meaning → Meaning → Stage
opening l range m n = stage_of (fresh (layout_of l range)) (loaded l m) (fresh (layout_of l range)) (loaded l n) nothing true

-- the two cores after the list
abbrev pub stage : List ℕ → ServiceRange → Meaning → Meaning → List Action → Stage
stage l range m n actions = rehearsed m.mark n.mark (opening l range m n) actions

-- the program states are compared where no service is open
abbrev pub Compared : Standing → Standing → Program → Type 0
Compared f t (program.Serving) = f.state.service ≡ None → ⊥
Compared f t (program.Same) = (f.state.service ≡ None) × SameProgram f.state f.bytes t.state t.bytes
Compared f t (program.Different) = (f.state.service ≡ None) × (SameProgram f.state f.bytes t.state t.bytes → ⊥)

-- a rehearsal of a list that was accepted: the report, and the memories after the one step more
pub record Reported (l : List ℕ) (range : ServiceRange) (m n : Meaning) (actions : List Action) (r : Report) (m' n' : Meaning) : Type 0 where
  pub totals : r.totals ≡ (stage l range m n actions).totals
  pub kept : r.kept ≡ (stage l range m n actions).kept
  pub limit : r.limit ≡ (answers l).run + 1
  pub program : Compared (stage l range m n actions).first (stage l range m n actions).twin r.program
  pub next : let f = (stage l range m n actions).first in r.next ≡ (stepped f.state f.bytes m.mark).answer
  pub twin_next : let t = (stage l range m n actions).twin in r.twin_next ≡ (stepped t.state t.bytes n.mark).answer
  pub memory : let f = (stage l range m n actions).first in m' ≡ memory_of (stepped f.state f.bytes m.mark).bytes m.mark
  pub twin_memory : let t = (stage l range m n actions).twin in n' ≡ memory_of (stepped t.state t.bytes n.mark).bytes n.mark

-- what a rehearsal answers, and what it leaves in the two memories
abbrev pub Outcome : List ℕ → ℕ → ServiceRange → Meaning → Meaning → List Action → Result Report Obstacle → Meaning → Meaning → Type 0
Outcome l room range m n actions (Ok r) m' n' =
    (assembled l room ≡ Ok (answers l)) × (loading (layout_of l range) (image l) m ≡ Ok tt) × (loading (layout_of l range) (image l) n ≡ Ok tt)
    × Reported l range m n actions r m' n'
Outcome l room range m n actions (Err (obstacle.Assembly refused)) m' n' = (assembled l room ≡ Err refused) × (m' ≡ m) × (n' ≡ n)
Outcome l room range m n actions (Err (obstacle.Loading refusal)) m' n' =
    (assembled l room ≡ Ok (answers l)) × (loading (layout_of l range) (image l) m ≡ Err refusal) × (m' ≡ m) × (n' ≡ n)
Outcome l room range m n actions (Err (obstacle.TwinLoading refusal)) m' n' =
    (assembled l room ≡ Ok (answers l)) × (loading (layout_of l range) (image l) m ≡ Ok tt) × (loading (layout_of l range) (image l) n ≡ Err refusal)
    × (m' ≡ loaded l m) × (n' ≡ n)

-- the image buffer afterwards: the image, and past it what was there; a listing that was refused leaves it as it was
abbrev pub buffer_after : List ℕ → List ℕ → List ℕ
buffer_after l buffer = cond (is_ok (assembled l (length buffer))) (image l ++ drop (length (image l)) buffer) buffer

-- what loading an image into two cores answers, and what it leaves; the second core is not touched where the first load is refused
abbrev pub BothLoaded : Layout → List ℕ → Meaning → Meaning → Result Unit Obstacle → State → Meaning → State → Meaning → Type 0
BothLoaded p i m n (Ok done) s m' t n' =
    (loading p i m ≡ Ok tt) × (loading p i n ≡ Ok tt) × (s ≡ fresh p) × (m' ≡ stored_image m i) × (t ≡ fresh p) × (n' ≡ stored_image n i)
BothLoaded p i m n (Err (obstacle.Assembly refused)) s m' t n' = ⊥
BothLoaded p i m n (Err (obstacle.Loading refusal)) s m' t n' = (loading p i m ≡ Err refusal) × (m' ≡ m) × (n' ≡ n)
BothLoaded p i m n (Err (obstacle.TwinLoading refusal)) s m' t n' =
    (loading p i m ≡ Ok tt) × (loading p i n ≡ Err refusal) × (m' ≡ stored_image m i) × (n' ≡ n)

-- what preparing a rehearsal answers, and what it leaves: two newly loaded cores, unless a call refused
abbrev pub Prepared : List ℕ → ℕ → ServiceRange → Meaning → Meaning → Result Answers Obstacle → State → Meaning → State → Meaning → Type 0
Prepared l room range m n (Ok a) s m' t n' =
    (a ≡ answers l) × (assembled l room ≡ Ok (answers l)) × (loading (layout_of l range) (image l) m ≡ Ok tt) × (loading (layout_of l range) (image l) n ≡ Ok tt)
    × (s ≡ fresh (layout_of l range)) × (m' ≡ loaded l m) × (t ≡ fresh (layout_of l range)) × (n' ≡ loaded l n)
Prepared l room range m n (Err (obstacle.Assembly refused)) s m' t n' = (assembled l room ≡ Err refused) × (m' ≡ m) × (n' ≡ n)
Prepared l room range m n (Err (obstacle.Loading refusal)) s m' t n' =
    (assembled l room ≡ Ok (answers l)) × (loading (layout_of l range) (image l) m ≡ Err refusal) × (m' ≡ m) × (n' ≡ n)
Prepared l room range m n (Err (obstacle.TwinLoading refusal)) s m' t n' =
    (assembled l room ≡ Ok (answers l)) × (loading (layout_of l range) (image l) m ≡ Ok tt) × (loading (layout_of l range) (image l) n ≡ Err refusal)
    × (m' ≡ loaded l m) × (n' ≡ n)

-- what the assembler promises of a listing that it accepted
pub record Accepted (l : List ℕ) : Type 0 where
  pub hazards : NoHazard l
  pub run : Longest (image l) ((answers l).text / 2) (answers l).run
  pub sizes : SizesAgree l (answers l)

-- The ways of one step: a request is taken, a word runs, or the step is refused.
use Rattle.std.proofs.Common.{◌≡◌, ℕ, Bool, true, false, cond, ◌⊎◌, List, Some, None, Ok, Err, Option, Result, refl, inl, inr}
use Rattle.isa.specs.declared.refusals.Refusal.{Refusal}
use Rattle.isa.specs.declared.refusals.Refusal.TheVariants.{Astray}
use Rattle.memory.specs.Words.{word_at}
use Rattle.operations.specs.declared.values.Effect.{Effect}
use Rattle.operations.specs.declared.values.Effect.TheVariants as effect
use Rattle.operations.specs.Arithmetic.{following}
use Rattle.machine.specs.declared.states.Side.{Side}
use Rattle.machine.specs.declared.states.Side.TheVariants as side
use Rattle.machine.specs.declared.states.State.{State}
use Rattle.machine.specs.declared.states.Plan.{Plan}
use Rattle.machine.specs.Layouts.{placed}
use Rattle.machine.specs.Checks.{planned}
use Rattle.machine.specs.Steps as step

-- a step of this side is due
abbrev pub Due : State → Side → Type 0
Due s (side.Own) = (s.service ≡ None) × ((n : ℕ) → s.pending ≡ Some n → s.interruptible ≡ false)
Due s (side.Service) = (copies : List ℕ) × (s.service ≡ Some copies)

-- the step is refused so
abbrev pub Refusing : State → (ℕ → ℕ) → Side → Refusal → Type 0
Refusing s b d f = (f ≡ Astray) ⊎ ((placed s.layout d s.counter ≡ true) × (planned s d (word_at b s.counter) ≡ Err f))

found_by : (q : Bool) (r : Result Plan Refusal) (p : Plan) → cond q r (Err Astray) ≡ Ok p → (q ≡ true) × (r ≡ Ok p)
found_by true r p h = (refl, h)
found_by false r p h = absurd cc

-- a word that was found stands where it may, and was planned
pub stands : (s : State) (b : ℕ → ℕ) (d : Side) (p : Plan) → step.found s b d ≡ Ok p
    → (placed s.layout d s.counter ≡ true) × (planned s d (word_at b s.counter) ≡ Ok p)
stands s b d p = found_by (placed s.layout d s.counter) (planned s d (word_at b s.counter)) p

module _ (s : State) (b : ℕ → ℕ) (o : ℕ → Bool) (Q : step.Outcome → Type 0)
    (takes : (n : ℕ) → s.service ≡ None → s.pending ≡ Some n → s.interruptible ≡ true → Q (step.taken s b n))
    (runs : (d : Side) (p : Plan) → Due s d → placed s.layout d s.counter ≡ true → planned s d (word_at b s.counter) ≡ Ok p → Q (step.applied s b o d (Ok p)))
    (stays : (d : Side) (f : Refusal) → Due s d → Refusing s b d f → Q (step.refused s b d f)) where
  planned_way : (d : Side) → Due s d → placed s.layout d s.counter ≡ true → (r : Result Plan Refusal) → planned s d (word_at b s.counter) ≡ r → Q (step.applied s b o d r)
  planned_way d due h (Ok p) e = runs d p due h e
  planned_way d due h (Err f) e = stays d f due (inr (h, e))

  placed_way : (d : Side) → Due s d → (q : Bool) → placed s.layout d s.counter ≡ q
      → Q (step.applied s b o d (cond q (planned s d (word_at b s.counter)) (Err Astray)))
  placed_way d due true h = planned_way d due h (planned s d (word_at b s.counter)) refl
  placed_way d due false h = stays d Astray due (inl refl)

  way : (v : Option (List ℕ)) (n : Option ℕ) (r : Bool) → s.service ≡ v → s.pending ≡ n → s.interruptible ≡ r → Q (step.stepped_by s b o v n r)
  way None None r ev en er = placed_way side.Own (ev, λ n h. absurd cc) (placed s.layout side.Own s.counter) refl
  way None (Some n) true ev en er = takes n ev en er
  way None (Some n) false ev en er = placed_way side.Own (ev, λ n h. er) (placed s.layout side.Own s.counter) refl
  way (Some copies) n r ev en er = placed_way side.Service (copies, ev) (placed s.layout side.Service s.counter) refl

  pub ways : Q (step.stepped s b o)
  ways = way s.service s.pending s.interruptible refl refl refl

-- whatever the effect, the word settles
pub record Settles (s : State) (b : ℕ → ℕ) (d : Side) (p : Plan) (e : Effect) : Type 0 where
  pub value : ℕ
  pub next : ℕ
  pub prefix : Option ℕ
  pub is : step.after s b d p e ≡ step.settled s d p value next prefix

pub settles : (s : State) (b : ℕ → ℕ) (d : Side) (p : Plan) (e : Effect) → Settles s b d p e
settles s b d p (effect.Put value next) = record { value = value; next = next; prefix = None; is = refl }
settles s b d p (effect.Load w a) = record { value = step.loaded b w a; next = following s.counter; prefix = None; is = refl }
settles s b d p (effect.Store w a v) = record { value = 0; next = following s.counter; prefix = None; is = refl }
settles s b d p (effect.Hold h) = record { value = 0; next = following s.counter; prefix = Some h; is = refl }

-- A request waits no longer than the interlocked words passed since.
use Rattle.std.proofs.Common.{◌≡◌, ℕ, ◌+◌, ◌*◌, ◌<◌, ◌≤◌, Bool, true, false, cond, not, ◌&&◌, is_some, Some, None, Ok, Option, sym, refl, subst, arith, List}
use Rattle.std.proofs.lemmas.Bool.Decides.{nat_tests}
use Rattle.isa.specs.declared.instructions.Instruction.{Instruction}
use Rattle.isa.specs.declared.instructions.Instruction.TheVariants.{Add, Sub, Addi, Register, Immediate, Lw, Lb, Sw, Sb, Jal, Branch, Call, Imm}
use Rattle.isa.specs.Registers.{interlocked}
use Rattle.isa.specs.Words.{read_word}
use Rattle.operations.specs.declared.values.Operands.{Operands}
use Rattle.operations.specs.declared.values.Effect.{Effect}
use Rattle.operations.specs.declared.values.Effect.TheVariants as effect
use Rattle.operations.specs.Arithmetic.{following}
use Rattle.operations.specs.Operations.{effect_of}
use Rattle.machine.specs.declared.states.Side.{Side}
use Rattle.machine.specs.declared.states.Side.TheVariants as side
use Rattle.machine.specs.declared.states.State.{State}
use Rattle.machine.specs.declared.states.Plan.{Plan}
use Rattle.machine.specs.Waits.{wait_of, closed}
use Rattle.machine.specs.Layouts.{placed}
use Rattle.machine.specs.Checks as check
use Rattle.machine.specs.Steps as step
use Rattle.machine.proofs.Lawful.{lawful}

-- what a core keeps of a pending request
abbrev Kept : Option ℕ → Bool → Option (List ℕ) → ℕ → Type 0
Kept pending ready v counter = (wait_of pending ≤ 32640) × (cond ready 0 (2 * wait_of pending) ≤ counter) × (cond (closed v) 0 (wait_of pending) ≡ 0)

abbrev due_by : Option (List ℕ) → Option ℕ → Bool → Side → Bool
due_by v pending ready (side.Own) = closed v && not (is_some pending && ready)
due_by v pending ready (side.Service) = not (closed v)

held : (k : Bool) (n next : ℕ) → (k ≡ true → 2 * n ≤ next) → cond (not k) 0 (2 * n) ≤ next
held true n next h = h refl
held false n next h = omega arith

still : (closes : Bool) (v : Option (List ℕ)) (n : ℕ) → cond (closed v) 0 n ≡ 0 → cond (closed (cond closes None v)) 0 n ≡ 0
still true v n h = refl
still false v n h = h

none_owed : (v : Option (List ℕ)) → cond {A = ℕ} (closed v) 0 0 ≡ 0
none_owed None = refl
none_owed (Some copies) = refl

waits : (d : Side) (pending : Option ℕ) (ready : Bool) (v : Option (List ℕ)) (counter next : ℕ) (k closes : Bool)
    → due_by v pending ready d ≡ true → (d ≡ side.Own → counter < 65280) → Kept pending ready v counter → (k ≡ true → next ≡ following counter)
    → Kept (step.waited pending d) (not k) (cond closes None v) next
waits d None ready v counter next k closes due small h on = (omega arith, held k 0 next (λ e. omega arith), still closes v 0 (none_owed v))
waits (side.Own) (Some n) true None counter next k closes due small h on = absurd cc
waits (side.Own) (Some n) false None counter next k closes due small h on =
    let l = small refl in
    let x = h.1 in
    (omega arith, held k (n + 1) next (λ e. let y = on e in omega arith), still closes None (n + 1) refl)
waits (side.Own) (Some n) ready (Some c) counter next k closes due small h on = absurd cc
waits (side.Service) (Some n) ready None counter next k closes due small h on = absurd cc
waits (side.Service) (Some n) ready (Some c) counter next k closes due small h on =
    let z = h.2 in
    (omega arith, held k n next (λ e. omega arith), still closes (Some c) n z)

-- an interlocked word goes on to the next
abbrev pub GoesOn : ℕ → Bool → Effect → Type 0
GoesOn c k (effect.Put value next) = k ≡ true → next ≡ following c
GoesOn c k (effect.Load w a) = Unit {0}
GoesOn c k (effect.Store w a v) = Unit {0}
GoesOn c k (effect.Hold h) = Unit {0}

pub goes_on : (i : Instruction) (g : Operands) → GoesOn g.counter (interlocked i) (effect_of i g)
goes_on (Add d a b) g = λ _. refl
goes_on (Sub d a b) g = λ _. refl
goes_on (Addi d a n) g = λ _. refl
goes_on (Register f d b) g = λ _. refl
goes_on (Immediate f d n) g = λ _. refl
goes_on (Lw d a n) g = tt
goes_on (Lb d a n) g = tt
goes_on (Sw d a n) g = tt
goes_on (Sb d a n) g = tt
goes_on (Jal d a n) g = λ h. absurd cc
goes_on (Branch c n) g = λ h. absurd cc
goes_on (Call n) g = λ h. absurd cc
goes_on (Imm n) g = tt

due_is : (s : State) (d : Side) → step.due s d ≡ true → due_by s.service s.pending s.interruptible d ≡ true
due_is s (side.Own) h = h
due_is s (side.Service) h = h

pub below_text : (s : State) (d : Side) → s.layout.text ≤ 65280 → placed s.layout d s.counter ≡ true → d ≡ side.Own → s.counter < 65280
below_text s (side.Own) t h e = let below : s.counter < s.layout.text = grind (arith, nat_tests) in omega arith
below_text s (side.Service) t h e = absurd cc

module _ (s : State) (b : ℕ → ℕ) (d : Side) (due : step.due s d ≡ true) (small : d ≡ side.Own → s.counter < 65280)
    (h : Kept s.pending s.interruptible s.service s.counter) (p : Plan) where
  abbrev KeptBy : State → Type 0
  KeptBy t = Kept t.pending t.interruptible t.service t.counter

  settles : (next : ℕ) → (interlocked p.instruction ≡ true → next ≡ following s.counter)
      → Kept (step.waited s.pending d) (not (interlocked p.instruction)) (cond p.closes None s.service) next
  settles next on = waits d s.pending s.interruptible s.service s.counter next (interlocked p.instruction) p.closes (due_is s d due) small h on

  kept_by : (e : Effect) → GoesOn s.counter (interlocked p.instruction) e → KeptBy (step.after s b d p e)
  kept_by (effect.Put value next) on = settles next on
  kept_by (effect.Load w a) on = settles (following s.counter) (λ _. refl)
  kept_by (effect.Store w a v) on = settles (following s.counter) (λ _. refl)
  kept_by (effect.Hold x) on = settles (following s.counter) (λ _. refl)

  pub kept_after : (w : ℕ) → check.planned s d w ≡ Ok p → KeptBy (step.after s b d p p.effect)
  kept_after w made =
      let l = lawful s d (check.closes s d w) (read_word w) p made in
      kept_by p.effect (subst (GoesOn s.counter (interlocked p.instruction)) (sym l.effect) (goes_on p.instruction (check.operands s p.instruction)))

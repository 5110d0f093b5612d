-- What a word that passed its checks keeps to.
use Rattle.std.proofs.Common.{◌≡◌, ℕ, zero, suc, ◌+◌, ◌*◌, ◌%◌, ◌<◌, Bool, true, false, cond, ◌&&◌, eqb, ltb, ◌≢◌, List, get_or, Ok, Err, Result, sym, refl, ap, ◌∙◌, subst, arith, get_or-set_other}
use Rattle.std.proofs.lemmas.Bool.Decides.{nat_tests}
use Rattle.isa.specs.declared.refusals.Refusal.{Refusal}
use Rattle.isa.specs.declared.instructions.Instruction.{Instruction}
use Rattle.isa.specs.declared.instructions.Instruction.TheVariants.{Add, Sub, Addi, Register, Immediate, Lw, Lb, Sw, Sb, Jal, Branch, Call, Imm}
use Rattle.isa.specs.Registers.{late, names, result}
use Rattle.isa.specs.Words.{read_word}
use Rattle.isa.specs.Immediates.{branch_target}
use Rattle.operations.specs.declared.values.Operands.{Operands}
use Rattle.operations.specs.declared.values.Effect.{Effect}
use Rattle.operations.specs.declared.values.Effect.TheVariants as effect
use Rattle.operations.specs.Arithmetic.{following}
use Rattle.operations.specs.Conditions.{holds}
use Rattle.operations.specs.Forerunners.{lacks}
use Rattle.operations.specs.Operations as operation
use Rattle.machine.specs.declared.states.Side.{Side}
use Rattle.machine.specs.declared.states.State.{State}
use Rattle.machine.specs.declared.states.Plan.{Plan}
use Rattle.machine.specs.Layouts.{is_own, is_odd, is_io, trespasses}
use Rattle.machine.specs.Checks as check
use Rattle.machine.specs.Steps as step
use Rattle.machine.proofs.Ways.{settles}

-- every check of a planned word, and where the plan's parts come from
pub record Lawful (s : State) (d : Side) (c : Bool) (r : Result Instruction Refusal) (p : Plan) : Type 0 where
  pub read : r ≡ Ok p.instruction
  pub unnamed : (is_own d && names p.instruction 14) ≡ false
  pub safe : check.hazard (late p.instruction) (check.last s d) ≡ false
  pub led : lacks s.forerunner p.instruction s.prefix ≡ false
  pub single : operation.miscounts p.instruction (check.operands s p.instruction) ≡ false
  pub even : is_odd p.effect ≡ false
  pub memory : is_io p.effect ≡ false
  pub allowed : trespasses s.layout d p.effect ≡ false
  pub kept : (p.closes && ltb 0 (check.owing s)) ≡ false
  pub effect : p.effect ≡ check.effect_in s p.instruction
  pub leaves : p.leaves ≡ operation.leaves p.instruction (check.operands s p.instruction)
  pub closes : p.closes ≡ c

pub clash : {A : Type 0} → true ≡ false → A
clash h = absurd cc

-- no check of a list failed
pub passed : (b : Bool) (e : Refusal) (r : Result Unit Refusal) → cond b (Err e) r ≡ Ok tt → (b ≡ false) × (r ≡ Ok tt)
passed true e r h = absurd cc
passed false e r h = (refl, h)

made : (f : Result Unit Refusal) (q p : Plan) → check.unless_refused f q ≡ Ok p → (f ≡ Ok tt) × (q ≡ p)
made (Ok done) q p h = (refl, cc)
made (Err x) q p h = absurd cc

pub lawful : (s : State) (d : Side) (c : Bool) (r : Result Instruction Refusal) (p : Plan) → check.plan_of s d c r ≡ Ok p → Lawful s d c r p
lawful s d c (Err e) p h = absurd cc
lawful s d c (Ok i) p h =
    let m = made _ _ p h in
    let c19 = passed _ _ _ m.0 in
    let c20 = passed _ _ _ c19.1 in
    let c21 = passed _ _ _ c20.1 in
    let c22 = passed _ _ _ c21.1 in
    let c23 = passed _ _ _ c22.1 in
    let c24 = passed _ _ _ c23.1 in
    let c25 = passed _ _ _ c24.1 in
    let c26 = passed _ _ _ c25.1 in
    subst (λ (q : Plan). Lawful s d c (Ok i) q) m.1 (record {
      read = refl;
      unnamed = c19.0;
      safe = c20.0;
      led = c21.0;
      single = c22.0;
      even = c23.0;
      memory = c24.0;
      allowed = c25.0;
      kept = c26.0;
      effect = refl;
      leaves = refl;
      closes = refl;
    })

-- the same of a word
abbrev pub LawfulWord : State → Side → ℕ → Plan → Type 0
LawfulWord s d w p = Lawful s d (check.closes s d w) (read_word w) p

pub lawful_word : (s : State) (d : Side) (w : ℕ) (p : Plan) → check.planned s d w ≡ Ok p → LawfulWord s d w p
lawful_word s d w p h = lawful s d (check.closes s d w) (read_word w) p h

-- The counter stays even and in size, and r0 stays 0.

abbrev pub EvenNext : Effect → Type 0
EvenNext (effect.Put value next) = (next % 2 ≡ 0) × (next < 65536)
EvenNext (effect.Load w a) = Unit {0}
EvenNext (effect.Store w a v) = Unit {0}
EvenNext (effect.Hold h) = Unit {0}

target_even : (c n : ℕ) → c % 2 ≡ 0 → branch_target c n % 2 ≡ 0
target_even c n h = elim (ltb n 128) as (λ q. (c + 4 + cond q n (n + 65280) * 2) % 65536 % 2 ≡ 0) [ true ↦ omega arith | false ↦ omega arith ]

branched_even : (q : Bool) (c n : ℕ) → c % 2 ≡ 0 → EvenNext (effect.Put 0 (cond q (branch_target c n) (following c)))
branched_even true c n h = (target_even c n h, omega arith)
branched_even false c n h = (omega arith, omega arith)

pub even_next : (i : Instruction) (g : Operands) → g.counter % 2 ≡ 0 → EvenNext (operation.effect_of i g)
even_next (Add d a b) g h = (omega arith, omega arith)
even_next (Sub d a b) g h = (omega arith, omega arith)
even_next (Addi d a n) g h = (omega arith, omega arith)
even_next (Register f d b) g h = (omega arith, omega arith)
even_next (Immediate f d n) g h = (omega arith, omega arith)
even_next (Lw d a n) g h = tt
even_next (Lb d a n) g h = tt
even_next (Sw d a n) g h = tt
even_next (Sb d a n) g h = tt
even_next (Jal d a n) g h = (omega arith, omega arith)
even_next (Branch c n) g h = branched_even (holds c g.a g.b) g.counter n h
even_next (Call n) g h = (omega arith, omega arith)
even_next (Imm n) g h = tt

zero_written : (xs : List ℕ) (r v : ℕ) → get_or xs 0 0 ≡ 0 → get_or (step.written xs r v) 0 0 ≡ 0
zero_written xs zero v h = h
zero_written xs (suc n) v h =
    let e : eqb (suc n) 0 ≡ false = grind (arith, nat_tests) in
    let ne : 0 ≢ suc n = omega arith in
    simp (e, get_or-set_other) h

pub even_after : (s : State) (b : ℕ → ℕ) (d : Side) (p : Plan) (e : Effect) → s.counter % 2 ≡ 0 → EvenNext e → (step.after s b d p e).counter % 2 ≡ 0
even_after s b d p (effect.Put value next) h k = k.0
even_after s b d p (effect.Load w a) h k = omega arith
even_after s b d p (effect.Store w a v) h k = omega arith
even_after s b d p (effect.Hold x) h k = omega arith

pub sound : (s : State) (b : ℕ → ℕ) (d : Side) (w : ℕ) (p : Plan) → get_or s.registers 0 0 ≡ 0 → s.counter % 2 ≡ 0 → check.planned s d w ≡ Ok p
    → (get_or (step.after s b d p p.effect).registers 0 0 ≡ 0) × ((step.after s b d p p.effect).counter % 2 ≡ 0)
sound s b d w p z e h =
    let l = lawful_word s d w p h in
    let done = settles s b d p p.effect in
    (ap (λ (t : State). get_or t.registers 0 0) done.is ∙ zero_written s.registers (result p.instruction) done.value z, even_after s b d p p.effect e (subst EvenNext (sym l.effect) (even_next p.instruction (check.operands s p.instruction) e)))

-- a word never changes the layout
pub same_layout : (s : State) (b : ℕ → ℕ) (d : Side) (p : Plan) (e : Effect) → (step.after s b d p e).layout ≡ s.layout
same_layout s b d p e = ap (λ (t : State). t.layout) (settles s b d p e).is

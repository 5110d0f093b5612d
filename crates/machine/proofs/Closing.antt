-- The word that closes a service.
use Rattle.std.proofs.Common.{◌≡◌, ℕ, zero, suc, ◌+◌, ◌*◌, ◌/◌, ◌%◌, ◌≤◌, Bool, true, false, not, ◌&&◌, eqb, ltb, List, get_or, is_some, Some, None, Option, sym, refl, ap, ◌∙◌, inl, inr, arith}
use Rattle.std.proofs.lemmas.Bool.{cases_eq}
use Rattle.std.proofs.lemmas.Bool.Decides.{nat_tests}
use Rattle.isa.specs.declared.instructions.Instruction.{Instruction}
use Rattle.isa.specs.declared.instructions.Instruction.TheVariants.{Jal}
use Rattle.isa.specs.Registers.{result}
use Rattle.isa.specs.Words.{read_word}
use Rattle.operations.specs.declared.values.Effect.TheVariants as effect
use Rattle.operations.specs.Arithmetic.{following}
use Rattle.operations.specs.Operations.{effect_of, gathered}
use Rattle.machine.specs.declared.states.Side.TheVariants as side
use Rattle.machine.specs.declared.states.State.{State}
use Rattle.machine.specs.declared.states.Plan.{Plan}
use Rattle.machine.specs.Checks as check
use Rattle.machine.specs.Steps as step
use Rattle.machine.proofs.Lawful.{Lawful, clash}

-- registers of which none differs are equal to their copies
pub undiffering : (xs ys : List ℕ) (n : ℕ) → check.differing xs ys n ≡ 0 → (k : ℕ) → 1 ≤ k → k ≤ n → get_or xs k 0 ≡ get_or ys k 0
undiffering xs ys zero h k one l = absurd (omega arith)
undiffering xs ys (suc n) h k one l =
    let e : check.differing xs ys n ≡ 0 = omega arith in
    let f : get_or xs (n + 1) 0 ≡ get_or ys (n + 1) 0 = grind (arith, nat_tests) in
    elim (cases_eq k (n + 1)) [
      | inl x ↦ ap (λ j. get_or xs j 0) x ∙ f ∙ sym (ap (λ j. get_or ys j 0) x)
      | inr x ↦ undiffering xs ys n e k one (omega arith)
    ]

both_true : (x y : Bool) → (x && y) ≡ true → (x ≡ true) × (y ≡ true)
both_true true y h = (refl, h)
both_true false y h = clash (sym h)

unprefixed : (p : Option ℕ) → not (is_some p) ≡ true → p ≡ None
unprefixed None h = refl
unprefixed (Some x) h = clash (sym h)

none_owed : (n : ℕ) → ltb 0 n ≡ false → n ≡ 0
none_owed n h = grind (arith, nat_tests)

module _ (s : State) (copies : List ℕ) (es : s.service ≡ Some copies) (w : ℕ) (p : Plan)
    (l : Lawful s side.Service (check.closes s side.Service w) (read_word w) p) (h : p.closes ≡ true) where
  -- it is jal r0,0(r14), with no prefix
  pub closing_word : (p.instruction ≡ Jal 0 14 0) × (s.prefix ≡ None)
  closing_word =
      let x = both_true (eqb w 41184) (not (is_some s.prefix)) (sym l.closes ∙ h) in
      let y = x.0 in
      let z : w ≡ 41184 = grind (arith, nat_tests) in
      let r = sym (ap read_word z) ∙ l.read in
      (cc, unprefixed s.prefix x.1)

  -- it goes to r14 and writes no register
  pub leaps_back : p.effect ≡ effect.Put (following s.counter) ((get_or s.registers 14 0 + 0) % 65536 / 2 * 2)
  leaps_back =
      l.effect ∙ ap (check.effect_in s) closing_word.0
      ∙ ap (λ (q : Option ℕ). effect_of (Jal 0 14 0) (gathered s.registers s.counter q s.forerunner (Jal 0 14 0))) closing_word.1

  -- every register but r0 is as its copy
  pub keeps_all : (k : ℕ) → 1 ≤ k → k ≤ 15 → get_or s.registers k 0 ≡ get_or copies k 0
  keeps_all =
      let e : ltb 0 (check.owing s) ≡ false = sym (ap (λ q. q && ltb 0 (check.owing s)) h) ∙ l.kept in
      undiffering s.registers copies 15 (sym (ap (check.owed s.registers) es) ∙ none_owed (check.owing s) e)

  -- the state after it
  pub closed_state : (b : ℕ → ℕ) → step.after s b side.Service p p.effect
      ≡ step.settled s side.Service p (following s.counter) ((get_or s.registers 14 0 + 0) % 65536 / 2 * 2) None
  closed_state b = ap (step.after s b side.Service p) leaps_back

  pub same_registers : (b : ℕ → ℕ) → (step.after s b side.Service p p.effect).registers ≡ s.registers
  same_registers b = ap (λ (t : State). t.registers) (closed_state b) ∙ ap (λ (i : Instruction). step.written s.registers (result i) (following s.counter)) closing_word.0

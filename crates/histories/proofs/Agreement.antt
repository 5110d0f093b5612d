-- The plan of an own word is the same for the first core and its twin.
use Rattle.std.proofs.Common.{◌≡◌, ℕ, Bool, true, false, ◌&&◌, eqb, ltb, [], ◌∷◌, Ok, Err, Option, Result, sym, refl, ap, ◌∙◌, arith, None}
use Rattle.std.proofs.lemmas.Bool.Decides.{nat_tests}
use Rattle.isa.specs.declared.refusals.Refusal.{Refusal}
use Rattle.isa.specs.declared.refusals.Refusal.TheVariants as refusal
use Rattle.isa.specs.declared.instructions.Instruction.{Instruction}
use Rattle.isa.specs.Registers.{late, names}
use Rattle.isa.specs.Words.{read_word}
use Rattle.operations.specs.declared.values.Forerunner.{Forerunner}
use Rattle.operations.specs.declared.values.Effect.{Effect}
use Rattle.operations.specs.Forerunners.{carry_of, first_of, second_of, bit_of, lacks}
use Rattle.operations.specs.Operations.{base, effect_of, leaves, miscounts}
use Rattle.machine.specs.declared.states.Side.TheVariants as side
use Rattle.machine.specs.declared.states.Layout.{Layout}
use Rattle.machine.specs.declared.states.State.{State}
use Rattle.machine.specs.declared.states.Plan.{Plan}
use Rattle.machine.specs.Layouts.{is_odd, is_io, trespasses}
use Rattle.machine.specs.Checks.{hazard, owed, owing, operands, first_failed, unless_refused, plan_of, planned}
use Rattle.histories.specs.Texts.{extended_reading, reads_extended}
use Rattle.histories.proofs.Words.{fore_alike, with_bit, Plain, facts}
use Rattle.histories.proofs.Sides.{Together, read_rest}

-- the plan of an own word, from what its checks ask
abbrev plan_by : Instruction → Bool → ℕ → Bool → Bool → Effect → Option Forerunner → Layout → ℕ → Bool → Result Plan Refusal
plan_by i named last lacking miscounting e f l owed closing =
    unless_refused (first_failed (
    (refusal.Reserved, named)
    ∷ (refusal.Hazard, hazard (late i) last)
    ∷ (refusal.Bare, lacking)
    ∷ (refusal.Count, miscounting)
    ∷ (refusal.Odd, is_odd e)
    ∷ (refusal.Io, is_io e)
    ∷ (refusal.Trespass, trespasses l side.Own e)
    ∷ (refusal.Unkept, closing && ltb 0 owed)
    ∷ []))
    (record { instruction = i; effect = e; leaves = f; closes = closing })

unequal : (k : ℕ) → eqb k 14 ≡ false → k ≡ 14 → ⊥
unequal k h e = grind (arith, nat_tests)

module _ (s t : State) (el : s.layout ≡ t.layout) (es : s.service ≡ None) (et : t.service ≡ None)
    (em : s.made ≡ t.made) (st : Together s t) where
  -- all but the shifted bit, where the word does not name r14
  same_operands : (i : Instruction) → names i 14 ≡ false → operands s i ≡ with_bit (operands t i) (bit_of s.forerunner)
  same_operands i h =
      let n = (facts i).unnamed h in
      let x = read_rest s.registers t.registers (base i) st.registers (unequal (base i) n.1) in
      let y = read_rest s.registers t.registers (late i) st.registers (unequal (late i) n.2) in
      let c = fore_alike carry_of (λ _. refl) s.forerunner t.forerunner st.fore in
      let u = fore_alike first_of (λ _. refl) s.forerunner t.forerunner st.fore in
      let v = fore_alike second_of (λ _. refl) s.forerunner t.forerunner st.fore in
      let p = st.prefix in
      let q = st.counter in
      cc

  same_owing : owing s ≡ owing t
  same_owing = ap (owed s.registers) es ∙ sym (ap (owed t.registers) et)

  same_by : (i : Instruction) → Plain i → (q named : Bool) → names i 14 ≡ named
      → plan_by i named s.made (lacks s.forerunner i s.prefix) (miscounts i (operands s i)) (effect_of i (operands s i)) (leaves i (operands s i)) s.layout (owing s) q
      ≡ plan_by i named t.made (lacks t.forerunner i t.prefix) (miscounts i (operands t i)) (effect_of i (operands t i)) (leaves i (operands t i)) t.layout (owing t) q
  same_by i plain q true h = refl
  same_by i plain q false h =
      let g = same_operands i h in
      let x = (facts i).blind plain (operands t i) (bit_of s.forerunner) (bit_of t.forerunner) in
      let lack = ap (lacks s.forerunner i) st.prefix ∙ (facts i).lacking plain t.prefix s.forerunner t.forerunner st.fore in
      let count = ap (miscounts i) g ∙ x.2 in
      let does = ap (effect_of i) g ∙ x.0 in
      let left = ap (leaves i) g ∙ x.1 in
      let made = em in
      let layout = el in
      let owed = same_owing in
      cc

  same_plan_of : (q : Bool) (r : Result Instruction Refusal) → extended_reading r ≡ false → plan_of s side.Own q r ≡ plan_of t side.Own q r
  same_plan_of q (Err e) plain = refl
  same_plan_of q (Ok i) plain = same_by i plain q (names i 14) refl

  pub same_plan : (w : ℕ) → reads_extended w ≡ false → planned s side.Own w ≡ planned t side.Own w
  same_plan w plain = same_plan_of false (read_word w) plain

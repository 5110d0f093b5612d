-- An own step of the first core beside the same step of its twin.
use Rattle.std.proofs.Common.{◌≡◌, ℕ, ◌%◌, ◌<◌, Bool, true, false, cond, not, eqb, Some, None, Ok, Err, Option, Result, sym, refl, ap, ◌∙◌, subst, arith, List}
use Rattle.std.proofs.lemmas.Bool.{not-true}
use Rattle.std.proofs.lemmas.Bool.Decides.{nat_tests}
use Rattle.isa.specs.declared.refusals.Refusal.{Refusal}
use Rattle.isa.specs.declared.refusals.Refusal.TheVariants as refusal
use Rattle.isa.specs.Registers.{result, interlocked}
use Rattle.isa.specs.Words.{read_word}
use Rattle.memory.specs.Words.{word_at}
use Rattle.operations.specs.declared.values.Effect.{Effect}
use Rattle.operations.specs.declared.values.Effect.TheVariants as effect
use Rattle.operations.specs.Arithmetic.{following}
use Rattle.operations.specs.Forerunners.{is_sum}
use Rattle.machine.specs.declared.states.Side.TheVariants as side
use Rattle.machine.specs.declared.states.State.{State}
use Rattle.machine.specs.declared.states.Plan.{Plan}
use Rattle.machine.specs.declared.answers.Step.{Step}
use Rattle.machine.specs.declared.answers.Step.TheVariants as made
use Rattle.machine.specs.declared.answers.StepRefusal.{StepRefusal}
use Rattle.machine.specs.Layouts.{inside, placed, is_odd, is_io, trespasses}
use Rattle.machine.specs.Checks.{closes, operands, planned}
use Rattle.machine.specs.Steps.{waited, written, left_behind, settled, loaded, stored_as, after, bytes_after, Outcome, applied, found, performed}
use Rattle.machine.proofs.Lawful.{Lawful, EvenNext, even_next}
use Rattle.machine.proofs.Ways.{stands}
use Rattle.histories.specs.Texts.{InProgram, NoExtended}
use Rattle.histories.proofs.Kept.{below_devices, unextended_after}
use Rattle.histories.proofs.Housed.{lawful_at}
use Rattle.histories.proofs.Bounded.{closed_still}
use Rattle.histories.proofs.Hazards.{length_written}
use Rattle.histories.proofs.Words.{Goes, facts, fore_left}
use Rattle.histories.proofs.Sides.{Outside, SameMarks, rest, Together, Standing, Sim, same_word, same_loaded, outside_stored, write_rest, zero_written}
use Rattle.histories.proofs.Agreement.{same_plan}

-- What holds after a step of the first core with this answer, beside a twin whose step would be y

abbrev pub After : State → (ℕ → ℕ) → State → (ℕ → ℕ) → Outcome → Result Step StepRefusal → Type 0
After s b t c y (Ok (made.Taken wait)) = Sim s b t c
After s b t c y (Ok (made.Made (side.Own))) = (y.answer ≡ Ok (made.Made side.Own)) × Sim s b y.state y.bytes
After s b t c y (Ok (made.Made (side.Service))) = Sim s b t c
After s b t c y (Err f) = Sim s b t c × (f.side ≡ side.Own → y.answer ≡ Err f)

abbrev pub Beside : State → (ℕ → ℕ) → Outcome → Outcome → Type 0
Beside t c y x = After x.state x.bytes t c y x.answer

-- An own word that both make

module _ (s : State) (b : ℕ → ℕ) (t : State) (c : ℕ → ℕ) (m : Sim s b t c) (es : s.service ≡ None) (st : Together s t) where
  sim_settled : (p : Plan) (value value' next next' : ℕ) (prefix : Option ℕ) (b' c' : ℕ → ℕ)
      → eqb (result p.instruction) 14 ≡ false → value ≡ value' → next ≡ next' → next' % 2 ≡ 0 → next' < 65536
      → (not (interlocked p.instruction) ≡ true → prefix ≡ None) → Outside s.layout b' c' → NoExtended s.layout b'
      → (not (interlocked p.instruction) ≡ true → is_sum (left_behind p.leaves s.forerunner) ≡ false)
      → Sim (settled s side.Own p value next prefix) b' (settled t side.Own p value' next' prefix) c'
  sim_settled p value value' next next' prefix b' c' free ev en even bound ready out plain clear =
      let s' = settled s side.Own p value next prefix in
      let t' = settled t side.Own p value' next' prefix in
      let P : Option (List ℕ) → Type 0 = λ v. Standing s' v t' in
      let r = result p.instruction in
      let together : Together s' t' = record {
        counter = en;
        prefix = refl;
        registers = write_rest s.registers t.registers r value st.registers free ∙ ap (λ v. rest (written t.registers r v)) ev;
        fore = fore_left p.leaves s.forerunner t.forerunner st.fore;
        bare = ready;
        clear = clear;
      } in
      record {
        layout = m.layout;
        laid = m.laid;
        alone = closed_still p.closes t.service m.alone;
        quiet = ap (λ q. waited q side.Own) m.quiet;
        outside = out;
        plain = plain;
        made = refl;
        even = even;
        bound = bound;
        long = length_written s.registers r value ∙ m.long;
        zero = zero_written s.registers r value m.zero;
        standing = subst P (sym (closed_still p.closes s.service es)) together;
      }

  module _ (o o' : ℕ → Bool) (marks : SameMarks o o') (w : ℕ) (p : Plan) (l : Lawful s side.Own (closes s side.Own w) (read_word w) p) where
    free : eqb (result p.instruction) 14 ≡ false
    free = ((facts p.instruction).unnamed l.unnamed).0

    onward : following s.counter ≡ following t.counter
    onward = ap following st.counter

    goes_even : following t.counter % 2 ≡ 0
    goes_even = let h = m.even in omega arith

    plain_after : (e : Effect) → p.effect ≡ e → NoExtended s.layout (bytes_after b o e)
    plain_after = unextended_after s b o side.Own (closes s side.Own w) (read_word w) p m.laid l m.plain

    clear : not (interlocked p.instruction) ≡ true → is_sum (left_behind p.leaves s.forerunner) ≡ false
    clear h = ap (λ x. is_sum (left_behind x s.forerunner)) l.leaves
        ∙ (facts p.instruction).unsummed (not-true (interlocked p.instruction) h) (operands s p.instruction) s.forerunner

    own_made : (e : Effect) → p.effect ≡ e → Sim (after s b side.Own p e) (bytes_after b o e) (after t c side.Own p e) (bytes_after c o' e)
    own_made (effect.Put value next) ee =
        let whole : s.counter % 2 ≡ 0 = ap (λ n. n % 2) st.counter ∙ m.even in
        let n : EvenNext (effect.Put value next) = subst EvenNext (sym l.effect ∙ ee) (even_next p.instruction (operands s p.instruction) whole) in
        sim_settled p value value next next None b c free refl refl n.0 n.1 (λ _. refl) m.outside m.plain clear
    own_made (effect.Load v a) ee =
        let low = below_devices a (sym (ap is_io ee) ∙ l.memory) in
        let x = same_loaded s.layout b c v a m.laid m.outside (sym (ap is_odd ee) ∙ l.even) (omega arith) (sym (ap (trespasses s.layout side.Own) ee) ∙ l.allowed) in
        sim_settled p (loaded b v a) (loaded c v a) (following s.counter) (following t.counter) None b c
        free x onward goes_even (omega arith) (λ _. refl) m.outside m.plain clear
    own_made (effect.Store v a x) ee =
        let low = below_devices a (sym (ap is_io ee) ∙ l.memory) in
        sim_settled p 0 0 (following s.counter) (following t.counter) None (stored_as b o v a x) (stored_as c o' v a x)
        free refl onward goes_even (omega arith) (λ _. refl) (outside_stored s.layout b c o o' v a x marks low m.outside) (plain_after (effect.Store v a x) ee) clear
    own_made (effect.Hold h) ee =
        let held : interlocked p.instruction ≡ true =
        subst (Goes p.instruction s.counter) (sym l.effect ∙ ee) ((facts p.instruction).goes (operands s p.instruction)) in
        sim_settled p 0 0 (following s.counter) (following t.counter) (Some h) b c
        free refl onward goes_even (omega arith) (λ r. cc (ap not held)) m.outside m.plain clear

  module _ (o o' : ℕ → Bool) (marks : SameMarks o o') where
    abbrev w : ℕ
    w = word_at b s.counter

    own_applied : (r : Result Plan Refusal) → found s b side.Own ≡ r → Beside t c (applied t c o' side.Own r) (applied s b o side.Own r)
    own_applied (Err f) e = (m, λ _. ap (λ n. Err (record { refusal = f; address = n; side = side.Own })) (sym st.counter))
    own_applied (Ok p) e = (refl, own_made o o' marks w p (lawful_at s side.Own w p (stands s b side.Own p e).1) p.effect refl)

    same_found : (q : Bool) → placed s.layout side.Own s.counter ≡ q
        → cond q (planned s side.Own w) (Err refusal.Astray) ≡ cond q (planned t side.Own (word_at c t.counter)) (Err refusal.Astray)
    same_found false e = refl
    same_found true e =
        let apart : inside s.layout s.counter ≡ false = grind (arith, nat_tests) in
        let below : s.counter < s.layout.text = grind (arith, nat_tests) in
        let top = m.laid.text in
        let whole : s.counter % 2 ≡ 0 = ap (λ n. n % 2) st.counter ∙ m.even in
        let ew = same_word s.layout b c s.counter m.laid m.outside whole (omega arith) apart ∙ ap (word_at c) st.counter in
        let here : InProgram s.layout s.counter = record { even = whole; text = below; apart = apart } in
        same_plan s t m.layout es m.alone m.made st w (m.plain s.counter here) ∙ ap (planned t side.Own) ew

    pub own_step : Beside t c (performed t c o' side.Own) (performed s b o side.Own)
    own_step =
        let same : placed s.layout side.Own s.counter ≡ placed t.layout side.Own t.counter =
        ap (placed s.layout side.Own) st.counter ∙ ap (λ l. placed l side.Own t.counter) m.layout in
        let P : Result Plan Refusal → Type 0 = λ r. Beside t c (applied t c o' side.Own r) (performed s b o side.Own) in
        subst P (same_found (placed s.layout side.Own s.counter) refl
        ∙ ap (λ q. cond q (planned t side.Own (word_at c t.counter)) (Err refusal.Astray)) same) (own_applied (found s b side.Own) refl)

-- A taking and a service step of the first core, while its twin stands still; and any step.
use Rattle.std.proofs.Common.{◌≡◌, ℕ, ◌+◌, ◌*◌, ◌/◌, ◌%◌, Bool, true, false, cond, ◌≢◌, List, get_or, set, Some, None, Ok, Err, Option, Result, sym, refl, ap, ◌∙◌, subst, arith, length-set}
use Rattle.std.proofs.lemmas.List.{get_or-set_same, get_or-set_other, set-set}
use Rattle.isa.specs.declared.refusals.Refusal.{Refusal}
use Rattle.isa.specs.Registers.{result}
use Rattle.isa.specs.Words.{read_word}
use Rattle.memory.specs.Words.{word_at}
use Rattle.operations.specs.declared.values.Forerunner.TheVariants as forerunner
use Rattle.operations.specs.declared.values.Effect.{Effect}
use Rattle.operations.specs.declared.values.Effect.TheVariants as effect
use Rattle.operations.specs.Arithmetic.{following}
use Rattle.operations.specs.Forerunners.{is_sum}
use Rattle.operations.specs.Operations.{leaves}
use Rattle.machine.specs.declared.states.Side.TheVariants as side
use Rattle.machine.specs.declared.states.State.{State}
use Rattle.machine.specs.declared.states.Plan.{Plan}
use Rattle.machine.specs.Layouts.{is_odd, is_io, trespasses}
use Rattle.machine.specs.Checks.{closes, operands}
use Rattle.machine.specs.Steps.{written, left_behind, settled, stored_as, after, bytes_after, Outcome, applied, found, performed, taking, stepped_by, stepped}
use Rattle.machine.proofs.Lawful.{Lawful}
use Rattle.machine.proofs.Stores.{service_range}
use Rattle.machine.proofs.Closing.{closing_word, leaps_back}
use Rattle.machine.proofs.Ways.{stands}
use Rattle.histories.specs.Texts.{NoExtended}
use Rattle.histories.proofs.Kept.{unextended_after}
use Rattle.histories.proofs.Housed.{lawful_at}
use Rattle.histories.proofs.Hazards.{length_written}
use Rattle.histories.proofs.Words.{Fore, sums_alike}
use Rattle.histories.proofs.Homing.{gives_all_back, home_again}
use Rattle.histories.proofs.Sides.{Outside, SameMarks, rest, Together, Away, Standing, Sim, zero_written}
use Rattle.histories.proofs.OwnWords.{Beside, own_step}

module _ (s : State) (b : ℕ → ℕ) (t : State) (c : ℕ → ℕ) (m : Sim s b t c) (copies : List ℕ) (es : s.service ≡ Some copies) (st : Away copies t) where
  -- a service word leaves the twin beside the first, and so does the closing one if it puts all back
  served : (p : Plan) (value next : ℕ) (prefix : Option ℕ) (b' : ℕ → ℕ) → Outside s.layout b' c → NoExtended s.layout b'
      → (p.closes ≡ true → Together (settled s side.Service p value next prefix) t) → Sim (settled s side.Service p value next prefix) b' t c
  served p value next prefix b' out plain shut =
      let s' = settled s side.Service p value next prefix in
      let P : Option (List ℕ) → Type 0 = λ v. Standing s' v t in
      let by : (q : Bool) → p.closes ≡ q → Standing s' (cond q None s.service) t =
      λ q e. elim q as (λ r. p.closes ≡ r → Standing s' (cond r None s.service) t) [
        | true ↦ λ h. shut h
        | false ↦ λ h. subst P (sym es) st
      ] e in
      record {
        layout = m.layout;
        laid = m.laid;
        alone = m.alone;
        quiet = m.quiet;
        outside = out;
        plain = plain;
        made = m.made;
        even = m.even;
        bound = m.bound;
        long = length_written s.registers (result p.instruction) value ∙ m.long;
        zero = zero_written s.registers (result p.instruction) value m.zero;
        standing = by p.closes refl;
      }

  module _ (o : ℕ → Bool) (w : ℕ) (p : Plan) (l : Lawful s side.Service (closes s side.Service w) (read_word w) p) where
    -- the closing word
    puts_back : (value next : ℕ) → p.effect ≡ effect.Put value next → p.closes ≡ true → Together (settled s side.Service p value next None) t
    puts_back value next ee h =
        let word = (closing_word s copies es w p l h).0 in
        let all = gives_all_back s copies es w p l h m.long st.full (m.zero ∙ sym st.zero) in
        let left : left_behind p.leaves s.forerunner ≡ forerunner.Nothing =
        ap (λ x. left_behind x s.forerunner) l.leaves ∙ ap (λ i. left_behind (leaves i (operands s i)) s.forerunner) word in
        let even = m.even in
        let bound = m.bound in
        let there = st.counter in
        let home = home_again s copies es w p l h (omega arith) (omega arith) b in
        let at : next ≡ get_or copies 14 0 = sym (ap (λ e. (after s b side.Service p e).counter) ee) ∙ home in
        record {
          counter = at ∙ st.counter;
          prefix = sym st.prefix;
          registers = ap rest (ap (λ i. written s.registers (result i) value) word ∙ all) ∙ st.registers;
          fore = subst (λ f. Fore f t.forerunner) (sym left) st.clear;
          bare = λ _. refl;
          clear = λ _. ap is_sum left;
        }

    -- no other word closes
    keeps_open : {A : Type 0} (e : Effect) → p.effect ≡ e → ((value next : ℕ) → e ≡ effect.Put value next → ⊥) → p.closes ≡ true → A
    keeps_open e ee other h = absurd (other (following s.counter) ((get_or s.registers 14 0 + 0) % 65536 / 2 * 2) (sym ee ∙ leaps_back s copies es w p l h))

    serve_made : (e : Effect) → p.effect ≡ e → Sim (after s b side.Service p e) (bytes_after b o e) t c
    serve_made (effect.Put value next) ee = served p value next None b m.outside m.plain (puts_back value next ee)
    serve_made (effect.Load v a) ee =
        served p _ _ None b m.outside m.plain (λ h. keeps_open (effect.Load v a) ee (λ x n k. cc) h)
    serve_made (effect.Store v a x) ee =
        let apart = service_range b o s.layout m.laid.high (effect.Store v a x) (sym (ap is_odd ee) ∙ l.even) (sym (ap is_io ee) ∙ l.memory)
        (sym (ap (trespasses s.layout side.Service) ee) ∙ l.allowed) in
        served p 0 _ None (stored_as b o v a x) (λ y small h. apart y h ∙ m.outside y small h)
        (unextended_after s b o side.Service (closes s side.Service w) (read_word w) p m.laid l m.plain (effect.Store v a x) ee) (λ h. keeps_open (effect.Store v a x) ee (λ x n k. cc) h)
    serve_made (effect.Hold x) ee =
        served p 0 _ (Some x) b m.outside m.plain (λ h. keeps_open (effect.Hold x) ee (λ x n k. cc) h)

  serve_applied : (o : ℕ → Bool) (y : Outcome) (r : Result Plan Refusal) → found s b side.Service ≡ r → Beside t c y (applied s b o side.Service r)
  serve_applied o y (Err f) e = (m, λ h. cc)
  serve_applied o y (Ok p) e =
      let w = word_at b s.counter in
      serve_made o w p (lawful_at s side.Service w p (stands s b side.Service p e).1) p.effect refl

-- a taking
sim_taken : (s : State) (b : ℕ → ℕ) (t : State) (c : ℕ → ℕ) → Sim s b t c → Together s t → s.interruptible ≡ true → Sim (taking s) b t c
sim_taken s b t c m st ready =
    let size = m.long in
    let ne : ◌≢◌ {A = ℕ} 0 14 = omega arith in
    let zero : get_or (set s.registers 14 s.counter) 0 0 ≡ 0 = get_or-set_other s.registers 14 0 s.counter 0 ne ∙ m.zero in
    record {
      layout = m.layout;
      laid = m.laid;
      alone = m.alone;
      quiet = m.quiet;
      outside = m.outside;
      plain = m.plain;
      made = m.made;
      even = m.even;
      bound = m.bound;
      long = length-set s.registers 14 s.counter ∙ m.long;
      zero = zero;
      standing = record {
        counter = get_or-set_same s.registers 14 s.counter 0 (omega arith) ∙ st.counter;
        prefix = sym st.prefix ∙ st.bare ready;
        registers = set-set s.registers 14 s.counter 0 ∙ st.registers;
        full = length-set s.registers 14 s.counter ∙ m.long;
        zero = zero;
        clear = sym (sums_alike s.forerunner t.forerunner st.fore) ∙ st.clear ready;
      };
    }

sim_step : (s : State) (b : ℕ → ℕ) (t : State) (c : ℕ → ℕ) (o o' : ℕ → Bool) (marks : SameMarks o o') (m : Sim s b t c) (v : Option (List ℕ)) (n : Option ℕ) (r : Bool)
    → s.service ≡ v → s.interruptible ≡ r → Standing s v t → Beside t c (performed t c o' side.Own) (stepped_by s b o v n r)
sim_step s b t c o o' marks m None None r ev er st = own_step s b t c m ev st o o' marks
sim_step s b t c o o' marks m None (Some wait) true ev er st = sim_taken s b t c m st er
sim_step s b t c o o' marks m None (Some wait) false ev er st = own_step s b t c m ev st o o' marks
sim_step s b t c o o' marks m (Some copies) n r ev er st =
    serve_applied s b t c m copies ev st o (performed t c o' side.Own) (found s b side.Service) refl

twin_steps : (t : State) (c : ℕ → ℕ) (o : ℕ → Bool) → t.service ≡ None → t.pending ≡ None → stepped t c o ≡ performed t c o side.Own
twin_steps t c o es ep =
    ap (λ v. stepped_by t c o v t.pending t.interruptible) es ∙ ap (λ n. stepped_by t c o None n t.interruptible) ep

-- the step of the first core, made or refused, beside the step of its twin
pub beside : (s : State) (b : ℕ → ℕ) (t : State) (c : ℕ → ℕ) (o o' : ℕ → Bool) → SameMarks o o' → Sim s b t c → Beside t c (stepped t c o') (stepped s b o)
beside s b t c o o' marks m =
    let P : Outcome → Type 0 = λ y. Beside t c y (stepped s b o) in
    subst P (sym (twin_steps t c o' m.alone m.quiet)) (sim_step s b t c o o' marks m s.service s.pending s.interruptible refl refl m.standing)

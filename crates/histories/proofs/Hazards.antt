-- An own step is refused for a hazard only after jal or call.
use Rattle.std.proofs.Common.{◌≡◌, ℕ, ◌+◌, ◌%◌, ◌<◌, Bool, true, false, cond, eqb, List, [], ◌∷◌, ◌++◌, length, get_or, set, Some, None, Ok, Err, Option, sym, refl, ap, ◌∙◌, subst, inl, inr, arith, length-set}
use Rattle.std.proofs.lemmas.List.{get_or-set_same}
use Rattle.std.proofs.lemmas.Bool.Decides.{nat_tests}
use Rattle.isa.specs.declared.refusals.Refusal.{Refusal}
use Rattle.isa.specs.declared.refusals.Refusal.TheVariants as refusal
use Rattle.isa.specs.declared.instructions.Instruction.{Instruction}
use Rattle.isa.specs.Registers.{late, result}
use Rattle.isa.specs.Words.{read_word}
use Rattle.memory.specs.Words.{word_at}
use Rattle.operations.specs.declared.values.Effect.{Effect}
use Rattle.operations.specs.declared.values.Effect.TheVariants as effect
use Rattle.operations.specs.Arithmetic.{following}
use Rattle.machine.specs.declared.states.Side.{Side}
use Rattle.machine.specs.declared.states.Side.TheVariants as side
use Rattle.machine.specs.declared.states.Layout.{Layout}
use Rattle.machine.specs.declared.states.State.{State}
use Rattle.machine.specs.declared.states.Plan.{Plan}
use Rattle.machine.specs.declared.answers.Step.TheVariants as made
use Rattle.machine.specs.declared.answers.StepRefusal.{StepRefusal}
use Rattle.machine.specs.Layouts.{placed}
use Rattle.machine.specs.Checks.{closes, hazard, operands, planned}
use Rattle.machine.specs.Steps.{written, after, bytes_after, taking, stepped, asked}
use Rattle.machine.specs.Loads.{fresh}
use Rattle.machine.proofs.Ways.{Due, Refusing, ways, settles}
use Rattle.histories.specs.declared.actions.Action.{Action}
use Rattle.histories.specs.Texts.{jump_reading, InProgram, NoHazard}
use Rattle.histories.specs.Histories.{Event, request, step, step_of, history}
use Rattle.histories.specs.Laws.{own_word, last_own, Jumped, HazardsFollowJumps}
use Rattle.histories.proofs.Watching.{over, Watch, watched, watch_at}
use Rattle.histories.proofs.Kept.{Laid, laid}
use Rattle.histories.proofs.Housed.{Housed, lawful_at, housed_fresh, housed_asked, housed_taken, housed_run, placed_own, as_loaded}
use Rattle.histories.proofs.Bounded.{closed_still}
use Rattle.histories.proofs.Words.{Goes, facts}
use Rattle.histories.proofs.Reasons.{in_hazard}
use Rattle.histories.proofs.Homing.{home_again}

-- where the program goes on when no service is open
abbrev home_of : ℕ → Option (List ℕ) → ℕ
home_of c None = c
home_of c (Some copies) = get_or copies 14 0

no_hazard_of_none : (r n : ℕ) → n ≡ 0 → hazard r n ≡ true → ⊥
no_hazard_of_none r n e h = grind (arith, nat_tests)

pub length_written : (xs : List ℕ) (r v : ℕ) → length (written xs r v) ≡ length xs
length_written xs r v = elim (eqb r 0) as (λ q. length (cond q xs (set xs r v)) ≡ length xs) [ true ↦ refl | false ↦ length-set xs r v ]

module _ (l : Layout) (laid : Laid l) (b₀ : ℕ → ℕ) (apart : NoHazard l b₀) (o : ℕ → Bool) where
  -- what is known of the last own word: it had no result, was a jump, or stands just before home
  pub data Last (w : Option ℕ) (made home : ℕ) : Type 0 where
    none : made ≡ 0 → Last w made home
    jumped : Jumped w → Last w made home
    passed : (a : ℕ) (i : Instruction) → InProgram l a → read_word (word_at b₀ a) ≡ Ok i → made ≡ result i → a + 2 ≡ home → Last w made home

  -- copies that a service may close with
  pub record Copied (copies : List ℕ) : Type 0 where
    pub even : get_or copies 14 0 % 2 ≡ 0
    pub bound : get_or copies 14 0 < 65536

  pub record Careful (w : Option ℕ) (s : State) (b : ℕ → ℕ) : Type 0 where
    pub housed : Housed l b₀ s b
    pub long : length s.registers ≡ 16
    pub copied : (copies : List ℕ) → s.service ≡ Some copies → Copied copies
    pub last : Last w s.made (home_of s.counter s.service)

  -- what is claimed of an event
  abbrev AfterJump : Option ℕ → Event → Type 0
  AfterJump w (request accepted) = Unit {0}
  AfterJump w (step a v (Ok made)) = Unit {0}
  AfterJump w (step a v (Err r)) = r.refusal ≡ refusal.Hazard → r.side ≡ side.Own → Jumped w

  -- where an own word leads
  own_next : (s : State) (b : ℕ → ℕ) (p : Plan) (w : ℕ) → InProgram l s.counter → read_word w ≡ Ok p.instruction → read_word (word_at b₀ s.counter) ≡ Ok p.instruction
      → (e : Effect) → Goes p.instruction s.counter e → Last (Some w) (result p.instruction) (after s b side.Own p e).counter
  own_next s b p w here reads loaded e g =
      let c = s.counter in
      let small = here.text in
      let top = laid.text in
      let far : c + 2 ≡ following c = omega arith in
      let on : following c ≡ (after s b side.Own p e).counter → Last (Some w) (result p.instruction) (after s b side.Own p e).counter =
      λ k. passed c p.instruction here loaded refl (far ∙ k) in
      elim e as (λ e. Goes p.instruction c e → (following c ≡ (after s b side.Own p e).counter → Last (Some w) (result p.instruction) (after s b side.Own p e).counter)
      → Last (Some w) (result p.instruction) (after s b side.Own p e).counter) [
        | effect.Put value next ↦ λ g on. elim g [
          | inl j ↦ jumped (record { word = w; is = refl; jumps = ap jump_reading reads ∙ j })
          | inr k ↦ elim k [
            | inl z ↦ none z
            | inr n ↦ on (sym n)
          ]
        ]
        | effect.Load width a ↦ λ g on. on refl
        | effect.Store width a v ↦ λ g on. on refl
        | effect.Hold h ↦ λ g on. on refl
      ] g on

  module _ (w : Option ℕ) (s : State) (b : ℕ → ℕ) (h : Careful w s b) where
    long_after : (d : Side) (p : Plan) → length (after s b d p p.effect).registers ≡ 16
    long_after d p =
        let t = settles s b d p p.effect in
        ap (λ x. length x.registers) t.is ∙ length_written s.registers (result p.instruction) t.value ∙ h.long

    -- a refusal for a hazard on the own side
    refusing : (d : Side) (f : Refusal) → Due s d → Refusing s b d f → f ≡ refusal.Hazard → d ≡ side.Own → Jumped w
    refusing (side.Service) f due why ef ed = cc
    refusing (side.Own) f due (inl x) ef ed = cc
    refusing (side.Own) f due (inr x) ef ed =
        let c = s.counter in
        let y = in_hazard s side.Own (closes s side.Own (word_at b c)) (word_at b c) (x.1 ∙ ap Err ef) in
        let here = placed_own l laid b₀ s b h.housed x.0 in
        let word = as_loaded l laid b₀ s b h.housed here in
        let at : home_of c s.service ≡ c = ap (home_of c) due.0 in
        elim h.last [
          | none e ↦ absurd (no_hazard_of_none (late y.instruction) s.made e y.is)
          | jumped j ↦ j
          | passed a i before reads e next ↦
              let eq : a + 2 ≡ c = next ∙ at in
              let safe = apart a before (subst (InProgram l) (sym eq) here) i y.instruction reads (ap (λ z. read_word (word_at b₀ z)) eq ∙ sym (ap read_word word) ∙ y.reads) in
              cc (y.is, e, safe)
        ]

    -- an own word that was made
    own_last : (p : Plan) → placed s.layout side.Own s.counter ≡ true → planned s side.Own (word_at b s.counter) ≡ Ok p
        → Last (Some (word_at b s.counter)) (result p.instruction) (after s b side.Own p p.effect).counter
    own_last p stood e =
        let c = s.counter in
        let y = lawful_at s side.Own (word_at b c) p e in
        let here = placed_own l laid b₀ s b h.housed stood in
        let word = as_loaded l laid b₀ s b h.housed here in
        own_next s b p (word_at b c) here y.read (sym (ap read_word word) ∙ y.read) p.effect
        (subst (Goes p.instruction c) (sym y.effect) ((facts p.instruction).goes (operands s p.instruction)))

    runs : (d : Side) (p : Plan) → Due s d → placed s.layout d s.counter ≡ true → planned s d (word_at b s.counter) ≡ Ok p
        → Careful (own_word w (step s.counter (word_at b s.counter) (Ok (made.Made d)))) (after s b d p p.effect) (bytes_after b o p.effect)
    runs (side.Own) p due stood e =
        let t = settles s b side.Own p p.effect in
        let s' = after s b side.Own p p.effect in
        let shut : s'.service ≡ None = ap (λ x. x.service) t.is ∙ closed_still p.closes s.service due.0 in
        record {
          housed = housed_run l laid b₀ s b h.housed o side.Own p e;
          long = long_after side.Own p;
          copied = λ copies k. cc;
          last = subst (λ x. Last (Some (word_at b s.counter)) x (home_of s'.counter s'.service)) (sym (ap (λ x. x.made) t.is))
              (subst (λ v. Last (Some (word_at b s.counter)) (result p.instruction) (home_of s'.counter v)) (sym shut) (own_last p stood e));
        }
    runs (side.Service) p due stood e =
        let t = settles s b side.Service p p.effect in
        let s' = after s b side.Service p p.effect in
        let copies = due.0 in
        let es = due.1 in
        let x = h.copied copies es in
        let y = lawful_at s side.Service (word_at b s.counter) p e in
        let by : (q : Bool) → p.closes ≡ q → (s'.service ≡ cond q None s.service) → home_of s'.counter s'.service ≡ get_or copies 14 0 =
        λ q. elim q as (λ q. p.closes ≡ q → (s'.service ≡ cond q None s.service) → home_of s'.counter s'.service ≡ get_or copies 14 0) [
          | true ↦ λ k v. ap (home_of s'.counter) v ∙ home_again s copies es (word_at b s.counter) p y k x.even x.bound b
          | false ↦ λ k v. ap (home_of s'.counter) (v ∙ es)
        ] in
        let same : (q : Bool) → (s'.service ≡ cond q None s.service) → (kept : List ℕ) → s'.service ≡ Some kept → Copied kept =
        λ q. elim q as (λ q. (s'.service ≡ cond q None s.service) → (kept : List ℕ) → s'.service ≡ Some kept → Copied kept) [
          | true ↦ λ v kept k. cc
          | false ↦ λ v kept k. h.copied kept (sym v ∙ k)
        ] in
        record {
          housed = housed_run l laid b₀ s b h.housed o side.Service p e;
          long = long_after side.Service p;
          copied = same p.closes (ap (λ x. x.service) t.is);
          last = subst (λ x. Last w x (home_of s'.counter s'.service)) (sym (ap (λ x. x.made) t.is))
              (subst (Last w s.made) (ap (home_of s.counter) es ∙ sym (by p.closes refl (ap (λ x. x.service) t.is))) h.last);
        }

    takes : s.service ≡ None → Careful w (taking s) b
    takes shut =
        let size = h.long in
        let there : get_or (set s.registers 14 s.counter) 14 0 ≡ s.counter = get_or-set_same s.registers 14 s.counter 0 (omega arith) in
        let kept : Copied (set s.registers 14 s.counter) = record {
          even = ap (λ n. n % 2) there ∙ h.housed.even;
          bound = subst (λ n. n < 65536) (sym there) h.housed.bound;
        } in
        record {
          housed = housed_taken l laid b₀ s b h.housed;
          long = length-set s.registers 14 s.counter ∙ h.long;
          copied = λ copies k. subst Copied (let e : set s.registers 14 s.counter ≡ copies = cc in e) kept;
          last = subst (Last w s.made) (ap (home_of s.counter) shut ∙ sym there) h.last;
        }

    stepping : AfterJump w (step_of s b o) × Careful (own_word w (step_of s b o)) (stepped s b o).state (stepped s b o).bytes
    stepping = ways s b o (λ x. AfterJump w (step s.counter (word_at b s.counter) x.answer) × Careful (own_word w (step s.counter (word_at b s.counter) x.answer)) x.state x.bytes)
        (λ n shut waits ready. (tt, takes shut))
        (λ d p due stood e. (tt, runs d p due stood e))
        (λ d f due why. (refusing d f due why, h))

    asking : Careful w (asked s) b
    asking = record { housed = housed_asked l laid b₀ s b h.housed; long = h.long; copied = h.copied; last = h.last }

  overs : (w : Option ℕ) (events : List Event) → over (Option ℕ) own_word AfterJump w events ≡ last_own w events
  overs w [] = refl
  overs w (e ∷ events) = overs (own_word w e) events

  after_jumps : (s : State) → Careful None s b₀ → (actions : List Action) (before after : List Event) (a w : ℕ) (r : StepRefusal)
      → history o s b₀ actions ≡ before ++ (step a w (Err r) ∷ after) → r.refusal ≡ refusal.Hazard → r.side ≡ side.Own → Jumped (last_own None before)
  after_jumps s h actions before after a w r e ef ed =
      let all = watched (Option ℕ) own_word AfterJump Careful o (λ w s b h. stepping w s b h) (λ w s b h. (tt, asking w s b h)) actions None s b₀ h in
      subst Jumped (overs None before)
      (watch_at (Option ℕ) own_word AfterJump None before (step a w (Err r)) after (subst (Watch (Option ℕ) own_word AfterJump None) e all) ef ed)

pub hazards_follow_jumps : HazardsFollowJumps
hazards_follow_jumps l size fit m apart actions =
    after_jumps l (laid l size fit) m.byte apart m.mark (fresh l) (record {
      housed = housed_fresh l m.byte;
      long = refl;
      copied = λ copies k. cc;
      last = none refl;
    }) actions

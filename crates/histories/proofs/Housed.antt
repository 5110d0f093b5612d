-- The core in its place: the program text as loaded, the counter even.
use Rattle.std.proofs.Common.{◌≡◌, ℕ, ◌%◌, ◌<◌, Bool, true, false, Ok, sym, refl, ap, ◌∙◌, subst, arith}
use Rattle.std.proofs.lemmas.Bool.Decides.{nat_tests}
use Rattle.isa.specs.Words.{read_word}
use Rattle.memory.specs.Words.{word_at}
use Rattle.operations.specs.declared.values.Effect.{Effect}
use Rattle.operations.specs.declared.values.Effect.TheVariants as effect
use Rattle.machine.specs.declared.states.Side.{Side}
use Rattle.machine.specs.declared.states.Side.TheVariants as side
use Rattle.machine.specs.declared.states.Layout.{Layout}
use Rattle.machine.specs.declared.states.State.{State}
use Rattle.machine.specs.declared.states.Plan.{Plan}
use Rattle.machine.specs.Layouts.{inside, placed}
use Rattle.machine.specs.Checks.{closes, operands, planned}
use Rattle.machine.specs.Steps.{after, bytes_after, taking, asked}
use Rattle.machine.specs.Loads.{fresh}
use Rattle.machine.proofs.Lawful.{Lawful, lawful, EvenNext, even_next}
use Rattle.machine.proofs.Ways.{settles}
use Rattle.histories.specs.Texts.{InProgram}
use Rattle.histories.proofs.Kept.{Laid, TextKept, text_refl, text_then, text_after, word_kept}

pub record Housed (l : Layout) (b₀ : ℕ → ℕ) (s : State) (b : ℕ → ℕ) : Type 0 where
  pub layout : s.layout ≡ l
  pub kept : TextKept l b₀ b
  pub even : s.counter % 2 ≡ 0
  pub bound : s.counter < 65536

-- what is known of a word that was planned
pub lawful_at : (s : State) (d : Side) (w : ℕ) (p : Plan) → planned s d w ≡ Ok p → Lawful s d (closes s d w) (read_word w) p
lawful_at s d w p e = lawful s d (closes s d w) (read_word w) p e

counter_by : (s : State) (b : ℕ → ℕ) (d : Side) (p : Plan) (e : Effect) → s.counter % 2 ≡ 0 → EvenNext e
    → ((after s b d p e).counter % 2 ≡ 0) × ((after s b d p e).counter < 65536)
counter_by s b d p (effect.Put value next) h k = k
counter_by s b d p (effect.Load w a) h k = (omega arith, omega arith)
counter_by s b d p (effect.Store w a v) h k = (omega arith, omega arith)
counter_by s b d p (effect.Hold x) h k = (omega arith, omega arith)

pub counter_after : (s : State) (b : ℕ → ℕ) (d : Side) (w : ℕ) (p : Plan) → s.counter % 2 ≡ 0 → planned s d w ≡ Ok p
    → ((after s b d p p.effect).counter % 2 ≡ 0) × ((after s b d p p.effect).counter < 65536)
counter_after s b d w p h e =
    let y = lawful_at s d w p e in
    counter_by s b d p p.effect h (subst EvenNext (sym y.effect) (even_next p.instruction (operands s p.instruction) h))

pub housed_fresh : (l : Layout) (b : ℕ → ℕ) → Housed l b (fresh l) b
housed_fresh l b = record { layout = refl; kept = text_refl l b; even = refl; bound = omega arith }

module _ (l : Layout) (laid : Laid l) (b₀ : ℕ → ℕ) (s : State) (b : ℕ → ℕ) (h : Housed l b₀ s b) where
  pub housed_asked : Housed l b₀ (asked s) b
  housed_asked = record { layout = h.layout; kept = h.kept; even = h.even; bound = h.bound }

  pub housed_taken : Housed l b₀ (taking s) b
  housed_taken = record { layout = h.layout; kept = h.kept; even = refl; bound = omega arith }

  pub housed_run : (o : ℕ → Bool) (d : Side) (p : Plan) → planned s d (word_at b s.counter) ≡ Ok p
      → Housed l b₀ (after s b d p p.effect) (bytes_after b o p.effect)
  housed_run o d p e =
      let w = word_at b s.counter in
      let n = counter_after s b d w p h.even e in
      let t = text_after s b o d (closes s d w) (read_word w) p (subst Laid (sym h.layout) laid) (lawful_at s d w p e) in
      record {
        layout = ap (λ x. x.layout) (settles s b d p p.effect).is ∙ h.layout;
        kept = text_then l b₀ b _ h.kept (subst (λ x. TextKept x b (bytes_after b o p.effect)) h.layout t);
        even = n.0;
        bound = n.1;
      }

  -- an own step that is placed stands on a word of the program text
  pub placed_own : placed s.layout side.Own s.counter ≡ true → InProgram l s.counter
  placed_own k =
      let text : s.counter < s.layout.text = grind (arith, nat_tests) in
      let apart : inside s.layout s.counter ≡ false = grind (arith, nat_tests) in
      subst (λ x. InProgram x s.counter) h.layout (record { even = h.even; text = text; apart = apart })

  -- and reads it as it was loaded
  pub as_loaded : InProgram l s.counter → word_at b s.counter ≡ word_at b₀ s.counter
  as_loaded k = word_kept l b₀ b s.counter laid h.kept k

-- Where a word may change a byte.
use Rattle.std.proofs.Common.{◌≡◌, ℕ, ◌+◌, ◌/◌, ◌%◌, ◌<◌, ◌≤◌, Bool, true, false, cond, ◌&&◌, eqb, leb, refl, ap, ◌∙◌, arith}
use Rattle.std.proofs.Math.Bool.{and-false}
use Rattle.std.proofs.lemmas.Bool.Decides.{nat_tests}
use Rattle.memory.specs.Meaning.{Meaning, stored}
use Rattle.operations.specs.declared.values.Width.{Width}
use Rattle.operations.specs.declared.values.Width.TheVariants as width
use Rattle.operations.specs.declared.values.Effect.{Effect}
use Rattle.operations.specs.declared.values.Effect.TheVariants as effect
use Rattle.machine.specs.declared.states.Side.TheVariants as side
use Rattle.machine.specs.declared.states.Layout.{Layout}
use Rattle.machine.specs.Layouts.{inside, is_odd, is_io, trespasses}
use Rattle.machine.specs.Steps.{memory_of, stored_as, bytes_after}

pub unstored : (m : Meaning) (a v x : ℕ) → eqb x a ≡ false → (stored m a v).byte x ≡ m.byte x
unstored m a v x h = ap (λ q. cond (m.mark a && q) v (m.byte x)) h ∙ ap (λ q. cond q v (m.byte x)) (and-false (m.mark a))

module _ (b : ℕ → ℕ) (o : ℕ → Bool) (l : Layout) where
  -- a byte or a word that is not where the store goes
  apart : (w : Width) (a v x : ℕ) → a < 65280 → eqb x a ≡ false → eqb x (a + 1) ≡ false → stored_as b o w a v x ≡ b x
  apart (width.Byte) a v x small h k = unstored (memory_of b o) a (v % 256) x h
  apart (width.Word) a v x small h k =
      let next : (a + 1) % 65536 ≡ a + 1 = omega arith in
      unstored (stored (memory_of b o) a (v / 256)) ((a + 1) % 65536) (v % 256) x (ap (λ n. eqb x n) next ∙ k) ∙ unstored (memory_of b o) a (v / 256) x h

  below_io : (e : ℕ) → leb 65280 e ≡ false → e < 65280
  below_io e h = grind (arith, nat_tests)

  -- own words leave every byte of text
  pub own_text : (e : Effect) → is_io e ≡ false → trespasses l side.Own e ≡ false → (x : ℕ) → x < l.text → bytes_after b o e x ≡ b x
  own_text (effect.Put value next) io ok x h = refl
  own_text (effect.Load w a) io ok x h = refl
  own_text (effect.Hold p) io ok x h = refl
  own_text (effect.Store w a v) io ok x h =
      let past : l.text ≤ a = grind (arith, nat_tests) in
      apart w a v x (below_io a io) (grind (arith, nat_tests)) (grind (arith, nat_tests))

  -- service words leave every byte outside their range
  pub service_range : l.service.high % 2 ≡ 0 → (e : Effect) → is_odd e ≡ false → is_io e ≡ false → trespasses l side.Service e ≡ false
      → (x : ℕ) → inside l x ≡ false → bytes_after b o e x ≡ b x
  service_range top (effect.Put value next) odd io ok x h = refl
  service_range top (effect.Load w a) odd io ok x h = refl
  service_range top (effect.Hold p) odd io ok x h = refl
  service_range top (effect.Store (width.Byte) a v) odd io ok x h =
      let within : inside l a ≡ true = grind (arith, nat_tests) in
      unstored (memory_of b o) a (v % 256) x (grind (arith, nat_tests))
  service_range top (effect.Store (width.Word) a v) odd io ok x h =
      let within : inside l a ≡ true = grind (arith, nat_tests) in
      let even : a % 2 ≡ 0 = grind (arith, nat_tests) in
      apart width.Word a v x (below_io a io) (grind (arith, nat_tests)) (grind (arith, nat_tests))

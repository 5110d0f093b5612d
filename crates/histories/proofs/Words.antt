-- What each of the thirteen kinds of instruction gives the laws.
use Rattle.std.proofs.Common.{◌≡◌, ℕ, Bool, true, false, not, ◌&&◌, ◌||◌, eqb, ◌⊎◌, is_some, Some, None, Option, sym, refl, ap, ◌∙◌, inl, inr}
use Rattle.std.proofs.lemmas.Bool.{or_parts}
use Rattle.isa.specs.declared.instructions.RegisterFunction.{RegisterFunction}
use Rattle.isa.specs.declared.instructions.RegisterFunction.TheVariants.{And, Or, Xor, Andn, Adc, Sbc}
use Rattle.isa.specs.declared.instructions.ImmediateFunction.{ImmediateFunction}
use Rattle.isa.specs.declared.instructions.ImmediateFunction.TheVariants.{Andi, Ori, Xori, Andni, Adci, Sbci, Srli, Srai, Slli, Srxi, Slxi}
use Rattle.isa.specs.declared.instructions.Instruction.{Instruction}
use Rattle.isa.specs.declared.instructions.Instruction.TheVariants.{Add, Sub, Addi, Register, Immediate, Lw, Lb, Sw, Sb, Jal, Branch, Call, Imm}
use Rattle.isa.specs.Registers.{result, late, names, carries, carries_immediate, interlocked}
use Rattle.operations.specs.declared.values.Forerunner.{Forerunner}
use Rattle.operations.specs.declared.values.Forerunner.TheVariants as forerunner
use Rattle.operations.specs.declared.values.Operands.{Operands}
use Rattle.operations.specs.declared.values.Effect.{Effect}
use Rattle.operations.specs.declared.values.Effect.TheVariants as effect
use Rattle.operations.specs.Arithmetic.{following}
use Rattle.operations.specs.Forerunners.{is_sum, is_shift, extends, conditional, lacks}
use Rattle.operations.specs.Operations.{base, register_value, immediate_value, effect_of, register_leaves, immediate_leaves, leaves, miscounts}
use Rattle.machine.specs.Steps.{left_behind}
use Rattle.histories.specs.Texts.{extended_shift, jump}

-- Forerunners

-- the same forerunner, or none beside a shift
abbrev pub Fore : Forerunner → Forerunner → Type 0
Fore (forerunner.Nothing) g = is_sum g ≡ false
Fore (forerunner.Sum x y carry) g = forerunner.Sum x y carry ≡ g
Fore (forerunner.Shift bit) g = forerunner.Shift bit ≡ g

pub fore_refl : (f : Forerunner) → Fore f f
fore_refl (forerunner.Nothing) = refl
fore_refl (forerunner.Sum x y carry) = refl
fore_refl (forerunner.Shift bit) = refl

pub fore_left : (l : Option Forerunner) (f g : Forerunner) → Fore f g → Fore (left_behind l f) (left_behind l g)
fore_left None f g h = h
fore_left (Some x) f g h = fore_refl x

unsummed_alike : {A : Type 0} (r : Forerunner → A) → ((bit : Bool) → r forerunner.Nothing ≡ r (forerunner.Shift bit))
    → (g : Forerunner) → is_sum g ≡ false → r forerunner.Nothing ≡ r g
unsummed_alike r k (forerunner.Nothing) h = refl
unsummed_alike r k (forerunner.Sum x y carry) h = cc
unsummed_alike r k (forerunner.Shift bit) h = k bit

-- whatever does not tell a shift from nothing is the same of both
pub fore_alike : {A : Type 0} (r : Forerunner → A) → ((bit : Bool) → r forerunner.Nothing ≡ r (forerunner.Shift bit)) → (f g : Forerunner) → Fore f g → r f ≡ r g
fore_alike r k (forerunner.Nothing) g h = unsummed_alike r k g h
fore_alike r k (forerunner.Sum x y carry) g h = ap r h
fore_alike r k (forerunner.Shift bit) g h = ap r h

pub sums_alike : (f g : Forerunner) → Fore f g → is_sum f ≡ is_sum g
sums_alike = fore_alike is_sum (λ _. refl)

-- Facts

-- the operands with another shifted bit
abbrev pub with_bit : Operands → Bool → Operands
with_bit g x = record { left = g.left; right = g.right; immediate = g.immediate; counter = g.counter; carry = g.carry; a = g.a; b = g.b; bit = x }

-- not srxi or slxi
abbrev pub Plain : Instruction → Type 0
Plain i = extended_shift i ≡ false

-- where a word goes on to: a jump's target, anywhere if it writes no register, or the next word; only an interlocked word holds a prefix
abbrev pub Goes : Instruction → ℕ → Effect → Type 0
Goes i c (effect.Put value next) = (jump i ≡ true) ⊎ ((result i ≡ 0) ⊎ (next ≡ following c))
Goes i c (effect.Load w a) = Unit {0}
Goes i c (effect.Store w a v) = Unit {0}
Goes i c (effect.Hold h) = interlocked i ≡ true

pub record Facts (i : Instruction) : Type 0 where
  -- a word that does not name r14 neither reads nor writes it
  pub unnamed : names i 14 ≡ false → (eqb (result i) 14 ≡ false) × (eqb (base i) 14 ≡ false) × (eqb (late i) 14 ≡ false)
  -- only an extended shift tells a shift before it from nothing
  pub lacking : Plain i → (p : Option ℕ) (f g : Forerunner) → Fore f g → lacks f i p ≡ lacks g i p
  -- a word that can be interrupted after leaves no sum
  pub unsummed : interlocked i ≡ false → (g : Operands) (f : Forerunner) → is_sum (left_behind (leaves i g) f) ≡ false
  -- only an extended shift asks for the shifted bit
  pub blind : Plain i → (g : Operands) (x y : Bool) → (effect_of i (with_bit g x) ≡ effect_of i (with_bit g y))
      × (leaves i (with_bit g x) ≡ leaves i (with_bit g y)) × (miscounts i (with_bit g x) ≡ miscounts i (with_bit g y))
  pub goes : (g : Operands) → Goes i g.counter (effect_of i g)

-- the same of the functions of opcode 3
pub record RegisterFacts (f : RegisterFunction) : Type 0 where
  pub unsummed : carries f ≡ false → (g : Operands) (h : Forerunner) → is_sum (left_behind (register_leaves f g) h) ≡ false
  pub blind : (g : Operands) (x y : Bool) → (register_value f (with_bit g x) ≡ register_value f (with_bit g y))
      × (register_leaves f (with_bit g x) ≡ register_leaves f (with_bit g y))

register_facts : (f : RegisterFunction) → RegisterFacts f
register_facts And = record { unsummed = λ _ _ _. refl; blind = λ _ _ _. (refl, refl) }
register_facts Or = record { unsummed = λ _ _ _. refl; blind = λ _ _ _. (refl, refl) }
register_facts Xor = record { unsummed = λ _ _ _. refl; blind = λ _ _ _. (refl, refl) }
register_facts Andn = record { unsummed = λ _ _ _. refl; blind = λ _ _ _. (refl, refl) }
register_facts Adc = record { unsummed = λ h _ _. cc; blind = λ _ _ _. (refl, refl) }
register_facts Sbc = record { unsummed = λ h _ _. cc; blind = λ _ _ _. (refl, refl) }

-- and of opcode 4
pub record ImmediateFacts (f : ImmediateFunction) : Type 0 where
  pub unsummed : carries_immediate f ≡ false → (g : Operands) (h : Forerunner) → is_sum (left_behind (immediate_leaves f g) h) ≡ false
  pub blind : extends f ≡ false → (g : Operands) (x y : Bool) → (immediate_value f (with_bit g x) ≡ immediate_value f (with_bit g y))
      × (immediate_leaves f (with_bit g x) ≡ immediate_leaves f (with_bit g y))

immediate_facts : (f : ImmediateFunction) → ImmediateFacts f
immediate_facts Andi = record { unsummed = λ _ _ _. refl; blind = λ _ _ _ _. (refl, refl) }
immediate_facts Ori = record { unsummed = λ _ _ _. refl; blind = λ _ _ _ _. (refl, refl) }
immediate_facts Xori = record { unsummed = λ _ _ _. refl; blind = λ _ _ _ _. (refl, refl) }
immediate_facts Andni = record { unsummed = λ _ _ _. refl; blind = λ _ _ _ _. (refl, refl) }
immediate_facts Adci = record { unsummed = λ h _ _. cc; blind = λ _ _ _ _. (refl, refl) }
immediate_facts Sbci = record { unsummed = λ h _ _. cc; blind = λ _ _ _ _. (refl, refl) }
immediate_facts Srli = record { unsummed = λ _ _ _. refl; blind = λ _ _ _ _. (refl, refl) }
immediate_facts Srai = record { unsummed = λ _ _ _. refl; blind = λ _ _ _ _. (refl, refl) }
immediate_facts Slli = record { unsummed = λ _ _ _. refl; blind = λ _ _ _ _. (refl, refl) }
immediate_facts Srxi = record { unsummed = λ _ _ _. refl; blind = λ h _ _ _. cc }
immediate_facts Slxi = record { unsummed = λ _ _ _. refl; blind = λ h _ _ _. cc }

unnamed_three : (d a b : ℕ) → (eqb d 14 || (eqb a 14 || eqb b 14)) ≡ false → (eqb d 14 ≡ false) × (eqb a 14 ≡ false) × (eqb b 14 ≡ false)
unnamed_three d a b h =
    let x = or_parts (eqb d 14) (eqb a 14 || eqb b 14) h in
    let y = or_parts (eqb a 14) (eqb b 14) x.1 in
    (x.0, y.0, y.1)

two : (d a : ℕ) → (eqb d 14 || eqb a 14) ≡ false → (eqb d 14 ≡ false) × (eqb a 14 ≡ false)
two d a = or_parts (eqb d 14) (eqb a 14)

pub facts : (i : Instruction) → Facts i
facts (Add d a b) = record { unnamed = unnamed_three d a b; lacking = λ _ _ _ _ _. refl; unsummed = λ h _ _. cc; blind = λ _ _ _ _. (refl, refl, refl); goes = λ _. inr (inr refl) }
facts (Sub d a b) = record { unnamed = unnamed_three d a b; lacking = λ _ _ _ _ _. refl; unsummed = λ h _ _. cc; blind = λ _ _ _ _. (refl, refl, refl); goes = λ _. inr (inr refl) }
facts (Addi d a n) = record {
  unnamed = λ h. let x = two d a h in (x.0, x.1, refl);
  lacking = λ _ _ _ _ _. refl;
  unsummed = λ h _ _. cc;
  blind = λ _ _ _ _. (refl, refl, refl);
  goes = λ _. inr (inr refl);
}
facts (Register f d b) = record {
  unnamed = λ h. let x = two d b h in (x.0, x.0, x.1);
  lacking = λ _ p g h k. ap (λ x. carries f && not x) (sums_alike g h k);
  unsummed = (register_facts f).unsummed;
  blind = λ _ g x y. let e = (register_facts f).blind g x y in (ap (λ v. effect.Put v (following g.counter)) e.0, e.1, refl);
  goes = λ _. inr (inr refl);
}
facts (Immediate f d n) = record {
  unnamed = λ h. (h, h, refl);
  lacking = λ plain p g h k.
      let none : extends f ≡ false = plain in
      let by : (x : Forerunner) → lacks x (Immediate f d n) p ≡ ((carries_immediate f && not (is_sum x)) || false) =
      λ x. ap (λ e. (carries_immediate f && not (is_sum x)) || (e && not (is_shift x))) none in
      by g ∙ ap (λ x. (carries_immediate f && not x) || false) (sums_alike g h k) ∙ sym (by h);
  unsummed = (immediate_facts f).unsummed;
  blind = λ plain g x y. let e = (immediate_facts f).blind plain g x y in (ap (λ v. effect.Put v (following g.counter)) e.0, e.1, refl);
  goes = λ _. inr (inr refl);
}
facts (Lw d a n) = record { unnamed = λ h. let x = two d a h in (x.0, x.1, refl); lacking = λ _ _ _ _ _. refl; unsummed = λ _ _ _. refl; blind = λ _ _ _ _. (refl, refl, refl); goes = λ _. tt }
facts (Lb d a n) = record { unnamed = λ h. let x = two d a h in (x.0, x.1, refl); lacking = λ _ _ _ _ _. refl; unsummed = λ _ _ _. refl; blind = λ _ _ _ _. (refl, refl, refl); goes = λ _. tt }
facts (Sw d a n) = record { unnamed = λ h. let x = two d a h in (refl, x.1, x.0); lacking = λ _ _ _ _ _. refl; unsummed = λ _ _ _. refl; blind = λ _ _ _ _. (refl, refl, refl); goes = λ _. tt }
facts (Sb d a n) = record { unnamed = λ h. let x = two d a h in (refl, x.1, x.0); lacking = λ _ _ _ _ _. refl; unsummed = λ _ _ _. refl; blind = λ _ _ _ _. (refl, refl, refl); goes = λ _. tt }
facts (Jal d a n) = record { unnamed = λ h. let x = two d a h in (x.0, x.1, refl); lacking = λ _ _ _ _ _. refl; unsummed = λ _ _ _. refl; blind = λ _ _ _ _. (refl, refl, refl); goes = λ _. inl refl }
facts (Branch c n) = record {
  unnamed = λ _. (refl, refl, refl);
  lacking = λ _ p g h k. ap (λ x. conditional c && (not x || is_some p)) (sums_alike g h k);
  unsummed = λ _ _ _. refl;
  blind = λ _ _ _ _. (refl, refl, refl);
  goes = λ _. inr (inl refl);
}
facts (Call n) = record { unnamed = λ _. (refl, refl, refl); lacking = λ _ _ _ _ _. refl; unsummed = λ _ _ _. refl; blind = λ _ _ _ _. (refl, refl, refl); goes = λ _. inl refl }
facts (Imm n) = record { unnamed = λ _. (refl, refl, refl); lacking = λ _ _ _ _ _. refl; unsummed = λ h _ _. cc; blind = λ _ _ _ _. (refl, refl, refl); goes = λ _. refl }

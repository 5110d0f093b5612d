-- A step that is refused for a hazard was in hazard.
use Rattle.std.proofs.Common.{◌≡◌, ℕ, zero, suc, ◌/◌, ◌%◌, Bool, true, false, cond, ◌&&◌, eqb, ltb, List, [], ◌∷◌, get_or, Ok, Err, Result, refl, ap}
use Rattle.isa.specs.declared.refusals.Refusal.{Refusal}
use Rattle.isa.specs.declared.refusals.Refusal.TheVariants as refusal
use Rattle.isa.specs.declared.instructions.RegisterFunction.TheVariants.{And, Or, Xor, Andn, Adc, Sbc}
use Rattle.isa.specs.declared.instructions.ImmediateFunction.TheVariants.{Andi, Ori, Xori, Andni, Adci, Sbci, Srli, Srai, Slli, Srxi, Slxi}
use Rattle.isa.specs.declared.instructions.Condition.TheVariants.{Br, Beq, Bne, Bc, Bnc, Bv, Bnv, Blt, Bge, Ble, Bgt, Bltu, Bgeu, Bleu, Bgtu}
use Rattle.isa.specs.declared.instructions.Instruction.{Instruction}
use Rattle.isa.specs.Refusals.{refusal_number}
use Rattle.isa.specs.Registers.{late, names}
use Rattle.isa.specs.Words.{read_word, readings, of_part, register_function, immediate_function, branch_condition}
use Rattle.machine.specs.declared.states.Side.{Side}
use Rattle.machine.specs.declared.states.State.{State}
use Rattle.machine.specs.declared.states.Plan.{Plan}
use Rattle.operations.specs.Forerunners.{lacks}
use Rattle.operations.specs.Operations.{miscounts}
use Rattle.machine.specs.Layouts.{is_own, is_odd, is_io, trespasses}
use Rattle.machine.specs.Checks.{last, hazard, owing, operands, effect_in, checks, first_failed, unless_refused, plan_of}

-- A word that reads as nothing is unknown

abbrev OnlyUnknown : {A : Type 0} → Result A Refusal → Type 0
OnlyUnknown (Ok x) = Unit {0}
OnlyUnknown (Err e) = e ≡ refusal.Unknown

abbrev Each : {A : Type 0} → (A → Type 0) → List A → Type 0
Each P [] = Unit {0}
Each P (x ∷ xs) = P x × Each P xs

each_at : {A : Type 0} (P : A → Type 0) (xs : List A) (n : ℕ) (d : A) → Each P xs → P d → P (get_or xs n d)
each_at P [] n d h k = k
each_at P (x ∷ xs) zero d h k = h.0
each_at P (x ∷ xs) (suc n) d h k = each_at P xs n d h.1 k

of_unknown : {A : Type 0} (make : A → Instruction) (r : Result A Refusal) → OnlyUnknown r → OnlyUnknown (of_part make r)
of_unknown make (Ok x) h = tt
of_unknown make (Err e) h = h

register_unknown : (f : ℕ) → OnlyUnknown (register_function f)
register_unknown f =
    each_at OnlyUnknown (Ok And ∷ Ok Or ∷ Ok Xor ∷ Ok Andn ∷ Ok Adc ∷ Ok Sbc ∷ []) f (Err refusal.Unknown) (tt, (tt, (tt, (tt, (tt, (tt, tt)))))) refl

immediate_unknown : (f : ℕ) → OnlyUnknown (immediate_function f)
immediate_unknown f =
    each_at OnlyUnknown (Ok Andi ∷ Ok Ori ∷ Ok Xori ∷ Ok Andni ∷ Ok Adci ∷ Ok Sbci ∷ Ok Srli ∷ Ok Srai ∷ Ok Slli ∷ Ok Srxi ∷ Ok Slxi ∷ []) f (Err refusal.Unknown)
    (tt, (tt, (tt, (tt, (tt, (tt, (tt, (tt, (tt, (tt, (tt, tt))))))))))) refl

condition_unknown : (c : ℕ) → OnlyUnknown (branch_condition c)
condition_unknown c =
    each_at OnlyUnknown
    (Ok Br ∷ Err refusal.Unknown ∷ Ok Beq ∷ Ok Bne ∷ Ok Bc ∷ Ok Bnc ∷ Ok Bv ∷ Ok Bnv ∷ Ok Blt ∷ Ok Bge ∷ Ok Ble ∷ Ok Bgt ∷ Ok Bltu ∷ Ok Bgeu ∷ Ok Bleu ∷ Ok Bgtu ∷ []) c (Err refusal.Unknown)
    (tt, (refl, (tt, (tt, (tt, (tt, (tt, (tt, (tt, (tt, (tt, (tt, (tt, (tt, (tt, (tt, tt)))))))))))))))) refl

only_unknown : (w : ℕ) → OnlyUnknown (read_word w)
only_unknown w =
    let d = w / 256 % 16 in
    let a = w / 16 % 16 in
    each_at OnlyUnknown (readings d a (w % 16) (w % 4096)) (w / 4096) (Err refusal.Unknown) (
      tt,
      (
        tt,
        (
          tt,
          (
            of_unknown _ (register_function a) (register_unknown a),
            (
              of_unknown _ (immediate_function a) (immediate_unknown a),
              (tt, (tt, (refl, (tt, (tt, (tt, (of_unknown _ (branch_condition d) (condition_unknown d), (tt, (tt, tt))))))))),
            ),
          ),
        ),
      ),
    ) refl

-- The check of hazards is the second, and no later one answers that there is one

abbrev Others : List (Refusal × Bool) → Type 0
Others [] = Unit {0}
Others (x ∷ xs) = (eqb (refusal_number x.0) 20 ≡ false) × Others xs

other : (r : Refusal) (q : Bool) (rest : Result Unit Refusal) → eqb (refusal_number r) 20 ≡ false → (rest ≡ Err refusal.Hazard → ⊥) → cond q (Err r) rest ≡ Err refusal.Hazard → ⊥
other r true rest h k e = let same : refusal.Hazard ≡ r = cc in cc (ap (λ x. eqb (refusal_number x) 20) same, h)
other r false rest h k e = k e

others : (xs : List (Refusal × Bool)) → Others xs → first_failed xs ≡ Err refusal.Hazard → ⊥
others [] h e = cc
others (x ∷ xs) h e = other x.0 x.1 (first_failed xs) h.0 (others xs h.1) e

second : (q r : Bool) (rest : List (Refusal × Bool)) → Others rest → first_failed ((refusal.Reserved, q) ∷ (refusal.Hazard, r) ∷ rest) ≡ Err refusal.Hazard → r ≡ true
second true r rest h e = cc
second false true rest h e = refl
second false false rest h e = absurd (others rest h e)

failed : (f : Result Unit Refusal) (p : Plan) (r : Refusal) → unless_refused f p ≡ Err r → f ≡ Err r
failed (Ok passed) p r h = cc
failed (Err f) p r h = cc

pub record InHazard (w last : ℕ) : Type 0 where
  pub instruction : Instruction
  pub reads : read_word w ≡ Ok instruction
  pub is : hazard (late instruction) last ≡ true

in_hazard_by : (s : State) (d : Side) (closing : Bool) (w : ℕ) (r : Result Instruction Refusal) → OnlyUnknown r → read_word w ≡ r
    → plan_of s d closing r ≡ Err refusal.Hazard → InHazard w (last s d)
in_hazard_by s d closing w (Err e) u er h = cc
in_hazard_by s d closing w (Ok i) u er h =
    let f = effect_in s i in
    let rest : List (Refusal × Bool) =
    (refusal.Bare, lacks s.forerunner i s.prefix)
    ∷ (refusal.Count, miscounts i (operands s i))
    ∷ (refusal.Odd, is_odd f)
    ∷ (refusal.Io, is_io f)
    ∷ (refusal.Trespass, trespasses s.layout d f)
    ∷ (refusal.Unkept, closing && ltb 0 (owing s))
    ∷ [] in
    let no_other : Others rest = (refl, (refl, (refl, (refl, (refl, (refl, tt)))))) in
    record {
      instruction = i;
      reads = er;
      is = second (is_own d && names i 14) (hazard (late i) (last s d)) rest no_other (failed (first_failed (checks s d closing i)) _ refusal.Hazard h);
    }

pub in_hazard : (s : State) (d : Side) (closing : Bool) (w : ℕ) → plan_of s d closing (read_word w) ≡ Err refusal.Hazard → InHazard w (last s d)
in_hazard s d closing w h = in_hazard_by s d closing w (read_word w) (only_unknown w) refl h

-- Reading and writing are one another's inverse.
use Rattle.std.proofs.Common.{◌≡◌, ℕ, zero, suc, ◌+◌, ◌*◌, ◌/◌, ◌%◌, ◌<◌, Bool, true, false, ◌&&◌, eqb, ltb, Ok, Err, Result, refl, ap, ◌∙◌, arith, lit<}
use Rattle.std.proofs.lemmas.Bool.{cond_both, ltb-true, ltb-false, eqb-true, false≢true}
use Rattle.std.proofs.lemmas.Bool.Decides.{Decides-below_and}
use Rattle.isa.specs.declared.instructions.Instruction.{Instruction}
use Rattle.isa.specs.declared.instructions.Instruction.TheVariants.{Add, Sub, Addi, Register, Immediate, Lw, Lb, Sw, Sb, Jal, Branch, Call, Imm}
use Rattle.isa.specs.declared.instructions.RegisterFunction.{RegisterFunction}
use Rattle.isa.specs.declared.instructions.RegisterFunction.TheVariants.{And, Or, Xor, Andn, Adc, Sbc}
use Rattle.isa.specs.declared.instructions.ImmediateFunction.{ImmediateFunction}
use Rattle.isa.specs.declared.instructions.ImmediateFunction.TheVariants.{Andi, Ori, Xori, Andni, Adci, Sbci, Srli, Srai, Slli, Srxi, Slxi}
use Rattle.isa.specs.declared.instructions.Condition.{Condition}
use Rattle.isa.specs.declared.instructions.Condition.TheVariants.{Br, Beq, Bne, Bc, Bnc, Bv, Bnv, Blt, Bge, Ble, Bgt, Bltu, Bgeu, Bleu, Bgtu}
use Rattle.isa.specs.declared.refusals.Refusal.{Refusal}
use Rattle.isa.specs.declared.refusals.Refusal.TheVariants.{Field, Unknown}
use Rattle.isa.specs.Refusals.{refusal_number}
use Rattle.isa.proofs.Numbers.{same_number}
use Rattle.isa.specs.Words.{read_word, read_fields, write_word, packed, of_part, register_function, register_number, immediate_function, immediate_number, branch_condition, condition_number}
use Rattle.isa.specs.Laws.{ReadsBack, WritesBack}

-- a word's reading is written as that word, or is unknown: as a test, which antt computes at every word
is : Result ℕ Refusal → ℕ → Bool
is (Ok v) w = eqb v w
is (Err e) w = false

backs : Result Instruction Refusal → ℕ → Bool
backs (Ok i) w = is (write_word i) w
backs (Err e) w = eqb (refusal_number e) 18

every : ℕ → Bool
every zero = true
every (suc n) = backs (read_word n) n && every n

all : every 65536 ≡ true
unfolding every is backs
all = refl

tested : (r : Result Instruction Refusal) (w : ℕ) → backs r w ≡ true → ReadsBack w r
unfolding backs is
tested (Ok i) w t = go (write_word i) t
  where
    go : (v : Result ℕ Refusal) → is v w ≡ true → v ≡ Ok w
    go (Ok v) t = ap Ok (eqb-true v w t)
    go (Err e) t = absurd (false≢true t)
tested (Err e) w t = same_number e Unknown (eqb-true (refusal_number e) 18 t)

pub reads_back : (w : ℕ) → w < 65536 → ReadsBack w (read_word w)
unfolding every
reads_back w h =
    let p : ℕ → Bool = λ v. backs (read_word v) v in
    tested (read_word w) w ((Decides-below_and p (λ v. p v ≡ true) every (λ v. ((λ e. e), (λ e. e))) refl (λ n. refl) 65536).0 all w h)

-- the word of four fields has them
fields : (o d a b : ℕ) → d < 16 → a < 16 → b < 16 → read_word (o * 4096 + d * 256 + a * 16 + b) ≡ read_fields o d a b (d * 256 + a * 16 + b)
fields o d a b hd ha hb =
    let w : ℕ = o * 4096 + d * 256 + a * 16 + b in
    let eo : w / 4096 ≡ o = omega arith in
    let ed : w / 256 % 16 ≡ d = omega arith in
    let ea : w / 16 % 16 ≡ a = omega arith in
    let eb : w % 16 ≡ b = omega arith in
    let el : w % 4096 ≡ d * 256 + a * 16 + b = omega arith in
    λ i. read_fields (eo i) (ed i) (ea i) (eb i) (el i)

-- what holds of the packed word of fields in size, and of a refusal, holds of what is packed
packs : (o d a b : ℕ) (P : Result ℕ Refusal → Type 0)
    → (d < 16 → a < 16 → b < 16 → P (Ok (o * 4096 + d * 256 + a * 16 + b)))
    → (((d < 16) × (a < 16) × (b < 16) → ⊥) → P (Err Field)) → P (packed o d a b)
packs o d a b P yes' no' =
    cond_both (ltb d 16) _ _ P
    (λ ed. cond_both (ltb a 16) _ _ P
    (λ ea. cond_both (ltb b 16) _ _ P
    (λ eb. yes' (ltb-true d 16 ed) (ltb-true a 16 ea) (ltb-true b 16 eb))
    (λ eb. let h = ltb-false b 16 eb in no' (λ (x, y, z). omega arith)))
    (λ ea. let h = ltb-false a 16 ea in no' (λ (x, y, z). omega arith)))
    (λ ed. let h = ltb-false d 16 ed in no' (λ (x, y, z). omega arith))

register_same : (f : RegisterFunction) → register_function (register_number f) ≡ Ok f
register_same = elim [ And ↦ refl | Or ↦ refl | Xor ↦ refl | Andn ↦ refl | Adc ↦ refl | Sbc ↦ refl ]

register_small : (f : RegisterFunction) → register_number f < 16
register_small = elim [ And ↦ lit< tt | Or ↦ lit< tt | Xor ↦ lit< tt | Andn ↦ lit< tt | Adc ↦ lit< tt | Sbc ↦ lit< tt ]

immediate_same : (f : ImmediateFunction) → immediate_function (immediate_number f) ≡ Ok f
immediate_same = elim [ Andi ↦ refl | Ori ↦ refl | Xori ↦ refl | Andni ↦ refl | Adci ↦ refl | Sbci ↦ refl | Srli ↦ refl | Srai ↦ refl | Slli ↦ refl | Srxi ↦ refl | Slxi ↦ refl ]

immediate_small : (f : ImmediateFunction) → immediate_number f < 16
immediate_small = elim [ Andi ↦ lit< tt | Ori ↦ lit< tt | Xori ↦ lit< tt | Andni ↦ lit< tt | Adci ↦ lit< tt | Sbci ↦ lit< tt | Srli ↦ lit< tt | Srai ↦ lit< tt | Slli ↦ lit< tt | Srxi ↦ lit< tt | Slxi ↦ lit< tt ]

condition_same : (f : Condition) → branch_condition (condition_number f) ≡ Ok f
condition_same = elim [ Br ↦ refl | Beq ↦ refl | Bne ↦ refl | Bc ↦ refl | Bnc ↦ refl | Bv ↦ refl | Bnv ↦ refl | Blt ↦ refl | Bge ↦ refl | Ble ↦ refl | Bgt ↦ refl | Bltu ↦ refl | Bgeu ↦ refl | Bleu ↦ refl | Bgtu ↦ refl ]

condition_small : (f : Condition) → condition_number f < 16
condition_small = elim [ Br ↦ lit< tt | Beq ↦ lit< tt | Bne ↦ lit< tt | Bc ↦ lit< tt | Bnc ↦ lit< tt | Bv ↦ lit< tt | Bnv ↦ lit< tt | Blt ↦ lit< tt | Bge ↦ lit< tt | Ble ↦ lit< tt | Bgt ↦ lit< tt | Bltu ↦ lit< tt | Bgeu ↦ lit< tt | Bleu ↦ lit< tt | Bgtu ↦ lit< tt ]

pub writes_back : (i : Instruction) → WritesBack i (write_word i)
writes_back (Add d a b) = packs 0 d a b (WritesBack (Add d a b)) (λ x y z. ((x, y, z), fields 0 d a b x y z)) (λ n. (n, refl))
writes_back (Sub d a b) = packs 1 d a b (WritesBack (Sub d a b)) (λ x y z. ((x, y, z), fields 1 d a b x y z)) (λ n. (n, refl))
writes_back (Addi d a b) = packs 2 d a b (WritesBack (Addi d a b)) (λ x y z. ((x, y, z), fields 2 d a b x y z)) (λ n. (n, refl))
writes_back (Lw d a b) = packs 5 d a b (WritesBack (Lw d a b)) (λ x y z. ((x, y, z), fields 5 d a b x y z)) (λ n. (n, refl))
writes_back (Lb d a b) = packs 6 d a b (WritesBack (Lb d a b)) (λ x y z. ((x, y, z), fields 6 d a b x y z)) (λ n. (n, refl))
writes_back (Sw d a b) = packs 8 d a b (WritesBack (Sw d a b)) (λ x y z. ((x, y, z), fields 8 d a b x y z)) (λ n. (n, refl))
writes_back (Sb d a b) = packs 9 d a b (WritesBack (Sb d a b)) (λ x y z. ((x, y, z), fields 9 d a b x y z)) (λ n. (n, refl))
writes_back (Jal d a b) = packs 10 d a b (WritesBack (Jal d a b)) (λ x y z. ((x, y, z), fields 10 d a b x y z)) (λ n. (n, refl))
writes_back (Register f d b) =
    packs 3 d (register_number f) b (WritesBack (Register f d b))
    (λ x y z. ((x, z), fields 3 d (register_number f) b x y z ∙ ap (of_part _) (register_same f)))
    (λ n. ((λ (x, z). n (x, register_small f, z)), refl))
writes_back (Immediate f d b) =
    packs 4 d (immediate_number f) b (WritesBack (Immediate f d b))
    (λ x y z. ((x, z), fields 4 d (immediate_number f) b x y z ∙ ap (of_part _) (immediate_same f)))
    (λ n. ((λ (x, z). n (x, immediate_small f, z)), refl))
writes_back (Branch c n) =
    packs 11 (condition_number c) (n / 16) (n % 16) (WritesBack (Branch c n))
    (λ x y z. (omega arith, let e : n / 16 * 16 + n % 16 ≡ n = omega arith in fields 11 (condition_number c) (n / 16) (n % 16) x y z ∙ (λ i. of_part (λ c. Branch c (e i)) (condition_same c i))))
    (λ no'. ((λ h. no' (condition_small c, omega arith, omega arith)), refl))
writes_back (Call n) =
    packs 12 (n / 256) (n / 16 % 16) (n % 16) (WritesBack (Call n))
    (λ x y z. (omega arith, let e : n / 256 * 256 + n / 16 % 16 * 16 + n % 16 ≡ n = omega arith in fields 12 (n / 256) (n / 16 % 16) (n % 16) x y z ∙ (λ i. Ok (Call (e i)))))
    (λ no'. ((λ h. no' (omega arith, omega arith, omega arith)), refl))
writes_back (Imm n) =
    packs 13 (n / 256) (n / 16 % 16) (n % 16) (WritesBack (Imm n))
    (λ x y z. (omega arith, let e : n / 256 * 256 + n / 16 % 16 * 16 + n % 16 ≡ n = omega arith in fields 13 (n / 256) (n / 16 % 16) (n % 16) x y z ∙ (λ i. Ok (Imm (e i)))))
    (λ no'. ((λ h. no' (omega arith, omega arith, omega arith)), refl))

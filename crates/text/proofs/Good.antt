-- A text grows by a word, a byte of data or a byte of padding, and stays without hazard.
use Rattle.std.proofs.Common.{◌≡◌, ℕ, ◌+◌, ◌/◌, ◌%◌, ◌<◌, ◌≤◌, true, false, ◌⊎◌, List, [], ◌∷◌, ◌++◌, length, get_or, Ok, Err, sym, refl, ap, ◌∙◌, subst, inl, inr, ⊎_elim, arith, length-append}
use Rattle.std.proofs.lemmas.List.{get_or_append_left, get_or_past}
use Rattle.std.proofs.lemmas.Bool.{cases_eq, cases_lt, false≢true}
use Rattle.isa.specs.declared.instructions.Instruction.{Instruction}
use Rattle.isa.specs.declared.instructions.Instruction.TheVariants as word
use Rattle.isa.specs.declared.refusals.Refusal.TheVariants.{Unknown}
use Rattle.isa.specs.Words.{read_word, readings}
use Rattle.isa.specs.Registers.{result as written, late}
use Rattle.text.specs.Image.{word_bytes, word_at}
use Rattle.text.specs.Origins.{Origin}
use Rattle.text.specs.Hazards.{is_datum, nowhere, Clean, Calm}
use Rattle.text.proofs.Words.{past, word_front}

pub record Good (t : List ℕ) (o : List Origin) (result : ℕ) : Type 0 where
  pub same : length o ≡ length t
  pub calm : (a : ℕ) → a % 2 ≡ 0 → a + 4 ≤ length t → Clean o a → Clean o (a + 1) → Clean o (a + 2) → Clean o (a + 3) → Calm t a
  pub last : (a : ℕ) → a % 2 ≡ 0 → a + 2 ≡ length t → Clean o a → Clean o (a + 1) → (i : Instruction) → read_word (word_at t a) ≡ Ok i
      → (written i ≡ 0) ⊎ (written i ≡ result)
  pub odd : (a : ℕ) → a % 2 ≡ 0 → a + 1 ≡ length t → Clean o a → get_or t a 0 ≡ 0

-- two readings of one word
one_reading : (w w' : ℕ) (i j : Instruction) → w ≡ w' → read_word w ≡ Ok i → read_word w' ≡ Ok j → i ≡ j
one_reading w w' i j e p q = let s : read_word w ≡ read_word w' = ap read_word e in cc

clean_front : (t : List ℕ) (o y : List Origin) (a : ℕ) → length o ≡ length t → a < length t → Clean (o ++ y) a → Clean o a
clean_front t o y a e h c = ap (λ x. is_datum x.cause) (sym (get_or_append_left o y nowhere a (omega arith))) ∙ c

not_data : (o y : List Origin) (a n k : ℕ) → length o ≡ n → a ≡ n + k → is_datum (get_or y k nowhere).cause ≡ true → Clean (o ++ y) a → ⊥
not_data o y a n k e at d c = false≢true (sym c ∙ ap (λ x. is_datum x.cause) (past o y nowhere a k (omega arith)) ∙ d)

module _ {t : List ℕ} {o : List Origin} {result : ℕ} (g : Good t o result) where
  -- what was calm stays so
  keep : (x : List ℕ) (y : List Origin) (a : ℕ) → a % 2 ≡ 0 → a + 4 ≤ length t
      → Clean (o ++ y) a → Clean (o ++ y) (a + 1) → Clean (o ++ y) (a + 2) → Clean (o ++ y) (a + 3) → Calm (t ++ x) a
  keep x y a ev h c0 c1 c2 c3 i j p q =
      let e = g.same in
      g.calm a ev h (clean_front t o y a e (omega arith) c0) (clean_front t o y (a + 1) e (omega arith) c1) (clean_front t o y (a + 2) e (omega arith) c2)
      (clean_front t o y (a + 3) e (omega arith) c3)
      i j (ap read_word (sym (word_front t x a (omega arith))) ∙ p) (ap read_word (sym (word_front t x (a + 2) (omega arith))) ∙ q)

  -- a word of code
  pub code : (w : ℕ) (x : Origin) (j : Instruction) (result' : ℕ) → w < 65536 → is_datum x.cause ≡ false → length t % 2 ≡ 0 → read_word w ≡ Ok j
      → (0 < result → late j ≡ result → ⊥) → (written j ≡ 0) ⊎ (written j ≡ result')
      → Good (t ++ word_bytes w) (o ++ (x ∷ x ∷ [])) result'
  code w x j result' small plain even reads safe writes =
      let e = g.same in
      let n : length (t ++ word_bytes w) ≡ length t + 2 = length-append t (word_bytes w) in
      let m : length (o ++ (x ∷ x ∷ [])) ≡ length o + 2 = length-append o (x ∷ x ∷ []) in
      let new : (a : ℕ) → a ≡ length t → word_at (t ++ word_bytes w) a ≡ w =
      λ a at. let p : get_or (t ++ word_bytes w) a 0 ≡ w / 256 % 256 = past t (word_bytes w) 0 a 0 (omega arith) in
      let q : get_or (t ++ word_bytes w) (a + 1) 0 ≡ w % 256 = past t (word_bytes w) 0 (a + 1) 1 (omega arith) in
      omega arith in
      record {
        same = omega arith;
        calm = λ a ev h c0 c1 c2 c3. elim (cases_eq (a + 2) (length t)) [
          | inl at ↦ λ i k p q. let is : k ≡ j = one_reading (word_at (t ++ word_bytes w) (a + 2)) w k j (new (a + 2) at) q reads in
              let r = ap read_word (sym (word_front t (word_bytes w) a (omega arith))) ∙ p in
              let was = g.last a ev at (clean_front t o _ a e (omega arith) c0) (clean_front t o _ (a + 1) e (omega arith) c1) i r in
              λ pos' hit. let lt : late k ≡ late j = ap late is in
              ⊎_elim (λ z. absurd (omega arith)) (λ z. safe (omega arith) (omega arith)) was
          | inr other ↦ keep (word_bytes w) (x ∷ x ∷ []) a ev (omega arith) c0 c1 c2 c3
        ];
        last = λ a ev at c0 c1 i p.
            let is : i ≡ j = one_reading (word_at (t ++ word_bytes w) a) w i j (new a (omega arith)) p reads in
            subst (λ z. (written z ≡ 0) ⊎ (written z ≡ result')) (sym is) writes;
        odd = λ a ev at c0. absurd (omega arith);
      }

  -- a byte of a byte or word record
  pub byte : (b result' : ℕ) (x : Origin) → is_datum x.cause ≡ true → Good (t ++ (b ∷ [])) (o ++ (x ∷ [])) result'
  byte b result' x datum =
      let e = g.same in
      let n : length (t ++ (b ∷ [])) ≡ length t + 1 = length-append t (b ∷ []) in
      let m : length (o ++ (x ∷ [])) ≡ length o + 1 = length-append o (x ∷ []) in
      record {
        same = omega arith;
        calm = λ a ev h c0 c1 c2 c3. elim (cases_eq (a + 3) (length t)) [
          | inl at ↦ absurd (not_data o (x ∷ []) (a + 3) (length t) 0 e (omega arith) datum c3)
          | inr other ↦ keep (b ∷ []) (x ∷ []) a ev (omega arith) c0 c1 c2 c3
        ];
        last = λ a ev at c0 c1. absurd (not_data o (x ∷ []) (a + 1) (length t) 0 e (omega arith) datum c1);
        odd = λ a ev at c0. absurd (not_data o (x ∷ []) a (length t) 0 e (omega arith) datum c0);
      }

  -- a byte of padding
  pub pad : (result' : ℕ) (x : Origin) → Good (t ++ (0 ∷ [])) (o ++ (x ∷ [])) result'
  pad result' x =
      let e = g.same in
      let n : length (t ++ (0 ∷ [])) ≡ length t + 1 = length-append t (0 ∷ []) in
      let m : length (o ++ (x ∷ [])) ≡ length o + 1 = length-append o (x ∷ []) in
      let zero_word : (a : ℕ) → a % 2 ≡ 0 → a + 1 ≡ length t → Clean (o ++ (x ∷ [])) a → word_at (t ++ (0 ∷ [])) a ≡ 0 =
      λ a ev at c. let p : get_or (t ++ (0 ∷ [])) a 0 ≡ 0 = get_or_append_left t (0 ∷ []) 0 a (omega arith) ∙ g.odd a ev at (clean_front t o _ a e (omega arith) c) in
      let q : get_or (t ++ (0 ∷ [])) (a + 1) 0 ≡ 0 = past t (0 ∷ []) 0 (a + 1) 0 (omega arith) in
      omega arith in
      record {
        same = omega arith;
        calm = λ a ev h c0 c1 c2 c3. elim (cases_eq (a + 3) (length t)) [
          | inl at ↦ λ i k p q pos' hit. let is : k ≡ word.Add 0 0 0 =
              one_reading (word_at (t ++ (0 ∷ [])) (a + 2)) 0 k (word.Add 0 0 0) (zero_word (a + 2) (omega arith) (omega arith) c2) q refl in
              let lt : late k ≡ 0 = ap late is in absurd (omega arith)
          | inr other ↦ keep (0 ∷ []) (x ∷ []) a ev (omega arith) c0 c1 c2 c3
        ];
        last = λ a ev at c0 c1 i p.
            let is : i ≡ word.Add 0 0 0 = one_reading (word_at (t ++ (0 ∷ [])) a) 0 i (word.Add 0 0 0) (zero_word a ev (omega arith) c0) p refl in
            inl (ap written is);
        odd = λ a ev at c0. past t (0 ∷ []) 0 a 0 (omega arith);
      }

pub start_good : Good [] [] 0
start_good = record {
  same = refl;
  calm = λ a ev h c0 c1 c2 c3. absurd (omega arith);
  last = λ a ev at c0 c1 i p. absurd (omega arith);
  odd = λ a ev at c0. absurd (omega arith);
}

-- a word that reads as an instruction has 16 bits
pub small_word : (w : ℕ) (i : Instruction) → read_word w ≡ Ok i → w < 65536
small_word w i p = ⊎_elim (λ h. h) (λ h.
    let d : ℕ = w / 256 % 16 in
    let a : ℕ = w / 16 % 16 in
    let b : ℕ = w % 16 in
    let low : ℕ = w % 4096 in
    let far : 14 ≤ w / 4096 = omega arith in
    let past' : read_word w ≡ Err Unknown = get_or_past (readings d a b low) (w / 4096) (Err Unknown) far in
    absurd cc) (cases_lt w 65536)

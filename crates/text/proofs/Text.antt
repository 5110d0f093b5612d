-- The text of an accepted listing has no hazard.
use Rattle.std.proofs.Common.{◌≡◌, ℕ, zero, suc, ◌+◌, ◌-◌, ◌*◌, ◌/◌, ◌%◌, ◌<◌, ◌≤◌, Bool, false, cond, not, ◌&&◌, eqb, ◌⊎◌, List, [], ◌∷◌, ◌++◌, length, get_or, replicate, ℤ, pos, Some, None, Ok, Err, Option, Result, unwrap_or, sym, refl, ap, ◌∙◌, subst, inl, inr, ⊎_elim, append_assoc, append-nil, arith, length-append}
use lib.ListN.{length-replicate}
use Rattle.std.proofs.lemmas.List.{get_or_append_left}
use Rattle.std.proofs.lemmas.Bool.{and_parts, cond_both, cond-false, ne_eqb, not-false, eqb-true}
use Rattle.std.specs.Result.{result_ok}
use Rattle.isa.specs.declared.instructions.Instruction.{Instruction}
use Rattle.isa.specs.declared.instructions.Instruction.TheVariants as word
use Rattle.isa.specs.declared.refusals.Refusal.{Refusal}
use Rattle.isa.specs.Words.{read_word, write_word}
use Rattle.isa.specs.Laws.{WritesBack}
use Rattle.isa.specs.Registers.{result as written, late}
use Rattle.isa.proofs.Back.{writes_back}
use Rattle.listing.specs.declared.records.Record.{Record}
use Rattle.listing.specs.declared.items.Section.{Section}
use Rattle.listing.specs.declared.items.Section.TheVariants as section
use Rattle.listing.specs.declared.items.Slot.{Slot}
use Rattle.listing.specs.declared.items.Slot.TheVariants as slot
use Rattle.listing.specs.declared.items.Mend.{Mend}
use Rattle.listing.specs.declared.items.Mend.TheVariants as mend
use Rattle.listing.specs.declared.items.Item.{Item}
use Rattle.listing.specs.declared.items.Item.TheVariants.{Words, Byte, Word, Align, Label, Section as Turn}
use Rattle.listing.specs.Numbers.{bits16}
use Rattle.listing.specs.Operands.{with_immediate}
use Rattle.listing.specs.Reading.{record_at}
use Rattle.listing.specs.Meaning.{meaning}
use Rattle.listing.specs.Slots.{slots, nop, number_of, body_mend, slot_late, slot_result}
use Rattle.text.specs.declared.places.Place.{Place}
use Rattle.text.specs.declared.places.Mark.{Mark}
use Rattle.text.specs.Layout.{here, padding, size_of, result_of, section_after, grown}
use Rattle.text.specs.Layout.{misplaced, is_text, record_refusal, layout_refusal, laid, laid_more, layout_refused}
use Rattle.text.specs.Image.{filled, word_of, word_bytes, words, bytes_of, value, same, portion, section_bytes, text_length}
use Rattle.text.specs.Origins.{Cause, Inserted, Datum, Alignment, End, Origin, slot_cause}
use Rattle.text.specs.Origins.{word_cause, word_causes, causes_of, at_index, portion_origins, section_origins, text_origins, image_origins}
use Rattle.text.specs.Hazards.{is_datum, nowhere, Clean, NoHazard}
use Rattle.text.proofs.Accepted.{accepted, fitting, refused_none}
use Rattle.text.proofs.Lengths.{words_length, item_length, text_origins_long}
use Rattle.text.proofs.Good.{Good, code, byte, pad, start_good, small_word}
use Rattle.text.proofs.Words.{word_front}
use Rattle.text.proofs.Safe.{Safe, before, safe_at, slots_safe, Quiet}

-- a word that is written reads as its instruction, or as one that neither reads late nor writes
record Reads (i : Instruction) (w : ℕ) : Type 0 where
  other : Instruction
  reads : read_word w ≡ Ok other
  lates : (late other ≡ 0) ⊎ (late other ≡ late i)
  writes : (written other ≡ 0) ⊎ (written other ≡ written i)

word_reads : (i : Instruction) → Reads i (word_of i)
word_reads i = go (write_word i) (writes_back i)
  where
    go : (r : Result ℕ Refusal) → WritesBack i r → Reads i (unwrap_or (result_ok r) 0)
    go (Ok w) (s, e) = record { other = i; reads = e; lates = inr refl; writes = inr refl }
    go (Err e) n = record { other = word.Add 0 0 0; reads = refl; lates = inl refl; writes = inl refl }

low_same : (i : Instruction) (n : ℕ) → (late (with_immediate i n) ≡ late i) × (written (with_immediate i n) ≡ written i)
low_same (word.Addi d a m) n = (refl, refl)
low_same i n = (refl, refl)

filled_same : (v : ℤ) (at : ℕ) (s : Slot) → (late (filled v at s) ≡ slot_late s) × (written (filled v at s) ≡ slot_result s)
filled_same v at (slot.Low i) = low_same i (bits16 v % 16)
filled_same v at s = (refl, refl)

-- no word of a record is data
instruction_plain : (i : Instruction) → is_datum (slot_cause (slot.Word i)) ≡ false
instruction_plain (word.Imm m) = refl
instruction_plain i = refl

slot_plain : (s : Slot) → is_datum (slot_cause s) ≡ false
slot_plain (slot.Word i) = instruction_plain i
slot_plain s = refl

plain : (m : Mend) (k : ℕ) (s : Slot) → is_datum (word_cause m k s) ≡ false
plain mend.Nop k s = cond_both (eqb k 0) Inserted (slot_cause s) (λ x. is_datum x ≡ false) (λ _. refl) (λ _. slot_plain s)
plain m k s = slot_plain s

at_index_append : (n : ℕ) (xs ys : List Cause) → at_index n (xs ++ ys) ≡ at_index n xs ++ at_index n ys
at_index_append n [] ys = refl
at_index_append n (x ∷ xs) ys = ap (λ os. record { index = n; cause = x } ∷ os) (at_index_append n xs ys)

at_index_replicate : (n k : ℕ) (x : Cause) → at_index n (replicate k x) ≡ replicate k (record { index = n; cause = x })
at_index_replicate n zero x = refl
at_index_replicate n (suc k) x = ap (λ os. record { index = n; cause = x } ∷ os) (at_index_replicate n k x)

-- the words of a record
module _ {t : List ℕ} {o : List Origin} {result : ℕ} (g : Good t o result) (n : ℕ) (v : ℤ) (at : ℕ) (ss : List Slot) (m : Mend) (safe : Safe result ss)
    (even : length t % 2 ≡ 0) where
  many : (k : ℕ) → k ≤ length ss → Good (t ++ words v at ss k) (o ++ at_index n (word_causes m ss k)) (before result ss k)
  unfolding words word_causes before
  many zero h = subst (λ x. Good x (o ++ []) result) (sym (append-nil t)) (subst (λ x. Good t x result) (sym (append-nil o)) g)
  many (suc k) h =
      let s : Slot = get_or ss k nop in
      let i : Instruction = filled v (at + 2 * k) s in
      let w : ℕ = word_of i in
      let r : Reads i w = word_reads i in
      let f = filled_same v (at + 2 * k) s in
      let q : Quiet (before result ss k) s = safe_at result ss k safe (omega arith) in
      let ev : length (t ++ words v at ss k) % 2 ≡ 0 = omega (arith, length-append t (words v at ss k), words_length v at ss k) in
      let y : Cause = word_cause m k s in
      let x : Origin = record { index = n; cause = y } in
      let os = at_index n (word_causes m ss k) in
      let done = code (many k (omega arith)) w x r.other (slot_result s) (small_word w r.other r.reads) (plain m k s) ev r.reads
      (λ p e. ⊎_elim (λ z. omega arith) (λ z. q p (sym f.0 ∙ sym z ∙ e)) r.lates)
      (⊎_elim (λ z. inl z) (λ z. inr (z ∙ f.1)) r.writes) in
      let same' : (o ++ os) ++ (x ∷ x ∷ []) ≡ o ++ at_index n (word_causes m ss k ++ (y ∷ y ∷ [])) =
      append_assoc o os (x ∷ x ∷ []) ∙ ap (λ z. o ++ z) (sym (at_index_append n (word_causes m ss k) (y ∷ y ∷ []))) in
      subst (λ z. Good z (o ++ at_index n (word_causes m ss k ++ (y ∷ y ∷ []))) (slot_result s)) (append_assoc t (words v at ss k) (word_bytes w))
      (subst (λ z. Good ((t ++ words v at ss k) ++ word_bytes w) z (slot_result s)) same' done)

-- padding
pads : {t : List ℕ} {o : List Origin} {result : ℕ} (n : ℕ) (x : Origin) → Good t o result → Good (t ++ replicate n 0) (o ++ replicate n x) result
pads {t} {o} {result} zero x g = subst (λ y. Good y (o ++ []) result) (sym (append-nil t)) (subst (λ y. Good t y result) (sym (append-nil o)) g)
pads {t} {o} {result} (suc n) x g =
    subst (λ y. Good y (o ++ (x ∷ replicate n x)) result) (append_assoc t (0 ∷ []) (replicate n 0))
    (subst (λ y. Good ((t ++ (0 ∷ [])) ++ replicate n 0) y result) (append_assoc o (x ∷ []) (replicate n x)) (pads n x (pad g result x)))

padded : {t : List ℕ} {o : List Origin} {result : ℕ} (n : ℕ) (x : Origin) → Good t o result → Good (t ++ replicate n 0) (o ++ replicate n x) (cond (eqb n 0) result 0)
padded zero x g = pads zero x g
padded {t} {o} {result} (suc n) x g =
    subst (Good (t ++ replicate (suc n) 0) (o ++ replicate (suc n) x)) (sym (cond-false (eqb (suc n) 0) result 0 (ne_eqb (suc n) 0 (λ e. omega arith))))
    (subst (λ y. Good y (o ++ (x ∷ replicate n x)) 0) (append_assoc t (0 ∷ []) (replicate n 0))
    (subst (λ y. Good ((t ++ (0 ∷ [])) ++ replicate n 0) y 0) (append_assoc o (x ∷ []) (replicate n x)) (pads n x (pad g 0 x))))

before_last : (result : ℕ) (ss : List Slot) (n : ℕ) → before result ss n ≡ cond (eqb (2 * n) 0) result (slot_result (get_or ss (n - 1) nop))
unfolding before
before_last result ss zero = refl
before_last result ss (suc n) =
    let k : n ≡ suc n - 1 = omega arith in
    ap (λ j. slot_result (get_or ss j nop)) k
    ∙ sym (cond-false (eqb (2 * suc n) 0) result (slot_result (get_or ss (suc n - 1) nop)) (ne_eqb (2 * suc n) 0 (λ e. omega arith)))

even_at : (x : Bool) (n : ℕ) → not (x && eqb (n % 2) 0) ≡ false → n % 2 ≡ 0
even_at x n e = eqb-true (n % 2) 0 (and_parts x (eqb (n % 2) 0) (not-false _ e)).1

module _ (p : Place) (r : Record) (n : ℕ) (v : ℤ) where
  -- what a record in text adds
  item_good : (i : Item) {t : List ℕ} {o : List Origin} → Good t o p.result → length t ≡ p.text → misplaced i p ≡ false
      → Good (t ++ bytes_of i p r v) (o ++ at_index n (causes_of i p r)) (cond (eqb (size_of i p r) 0) p.result (result_of i p r))
  item_good (Words b) {t} {o} g e h =
      let ss : List Slot = slots p.result b r in
      let ev : length t % 2 ≡ 0 = ap (λ n. n % 2) e ∙ even_at (is_text p.section) p.text h in
      let z = number_of b.negated v in
      let m = body_mend p.result b r in
      subst (Good (t ++ words z p.text ss (length ss)) (o ++ at_index n (word_causes m ss (length ss)))) (before_last p.result ss (length ss))
      (many g n z p.text ss m (slots_safe p.result b r) ev (length ss) (omega arith))
  item_good Byte g e h = byte g (bits16 v % 256) 0 (record { index = n; cause = Datum }) refl
  item_good Word {t} {o} g e h =
      let x : Origin = record { index = n; cause = Datum } in
      subst (λ y. Good y (o ++ (x ∷ x ∷ [])) 0) (append_assoc t (bits16 v / 256 % 256 ∷ []) (bits16 v % 256 ∷ []))
      (subst (λ y. Good ((t ++ (bits16 v / 256 % 256 ∷ [])) ++ (bits16 v % 256 ∷ [])) y 0) (append_assoc o (x ∷ []) (x ∷ []))
      (byte (byte g (bits16 v / 256 % 256) 0 x refl) (bits16 v % 256) 0 x refl))
  item_good Align {t} {o} g e h =
      let k : ℕ = padding (here p) (bits16 r.constant) in
      let x : Origin = record { index = n; cause = Alignment } in
      subst (λ y. Good (t ++ replicate k 0) (o ++ y) (cond (eqb k 0) p.result 0)) (sym (at_index_replicate n k Alignment)) (padded k x g)
  item_good Label g e h = pads 0 nowhere g
  item_good (Turn s) g e h = pads 0 nowhere g

  section_good : (i : Item) (s : Section) {t : List ℕ} {o : List Origin} → Good t o p.result → length t ≡ p.text → misplaced i p ≡ false
      → Good (t ++ cond (same s section.Text) (bytes_of i p r v) []) (o ++ cond (same s section.Text) (at_index n (causes_of i p r)) [])
      (grown s p (size_of i p r) (result_of i p r) (section_after i p.section)).result
      × (length (t ++ cond (same s section.Text) (bytes_of i p r v) []) ≡ (grown s p (size_of i p r) (result_of i p r) (section_after i p.section)).text)
  section_good i section.Text {t} g e h = (item_good i g e h, length-append t (bytes_of i p r v) ∙ (λ j. e j + item_length p r v i j))
  section_good i section.Data {t} g e h = (pads 0 nowhere g, ap length (append-nil t) ∙ e)

module _ (base : ℕ) (labels : List (Option Mark)) (l : List ℕ) where
  text_good : (n : ℕ) → ((k : ℕ) → k < n → layout_refusal (laid l k) (record_at l k) k ≡ None)
      → Good (section_bytes section.Text base labels l n) (section_origins section.Text l n) (laid l n).place.result
      × (length (section_bytes section.Text base labels l n) ≡ (laid l n).place.text)
  unfolding section_bytes section_origins laid
  text_good zero h = (start_good, refl)
  text_good (suc n) h = go (record_at l n) (h n (omega arith)) (text_good n (λ k lt. h k (omega arith)))
    where
      t : List ℕ
      t = section_bytes section.Text base labels l n

      o : List Origin
      o = section_origins section.Text l n

      go : (x : Option Record) → layout_refusal (laid l n) x n ≡ None → Good t o (laid l n).place.result × (length t ≡ (laid l n).place.text)
          → Good (t ++ portion section.Text base labels (laid l n).place x) (o ++ portion_origins section.Text (laid l n).place x n) (laid_more
          (laid l n) x).place.result
          × (length (t ++ portion section.Text base labels (laid l n).place x) ≡ (laid_more (laid l n) x).place.text)
      go None e g = absurd cc
      go (Some r) e (g, long) =
          let p : Place = (laid l n).place in
          section_good p r n (unwrap_or (value base labels r) (pos 0)) (meaning r) p.section g long
          (fitting (laid l n) r (refused_none n (record_refusal (laid l n) r) e)).placed

pub no_hazard : (l : List ℕ) → layout_refused l (length l / 8) ≡ None → NoHazard l
no_hazard l h a ev lt c0 c1 c2 c3 i j p q =
    let n : ℕ = length l / 8 in
    let base : ℕ = text_length l n in
    let labels = (laid l n).labels in
    let all = accepted (λ k. layout_refusal (laid l k) (record_at l k) k) n h in
    let text = text_good base labels l n all in
    let t : List ℕ = section_bytes section.Text base labels l n in
    let k : ℕ = base - (laid l n).place.text in
    let whole : List ℕ = t ++ replicate k 0 in
    let g = pads k (record { index = n; cause = End }) text.0 in
    let long : length whole ≡ base = omega (arith, length-append t (replicate k 0), length-replicate {A = ℕ} k 0, text.1) in
    let more = section_bytes section.Data base labels l n in
    let first = ap read_word (sym (word_front whole more a (omega arith))) ∙ p in
    let second = ap read_word (sym (word_front whole more (a + 2) (omega arith))) ∙ q in
    let front : (b : ℕ) → b < base → Clean (image_origins l) b → Clean (text_origins l) b =
    λ b lt' c. ap (λ x. is_datum x.cause) (sym (get_or_append_left (text_origins l) (section_origins section.Data l n) nowhere b (omega
    (arith, text_origins_long l)))) ∙ c in
    g.calm a ev (omega arith) (front a (omega arith) c0) (front (a + 1) (omega arith) c1) (front (a + 2) (omega arith) c2) (front (a + 3)
    (omega arith) c3) i j first second

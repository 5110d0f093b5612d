-- Each word of an accepted record stands in the image at its address, and reads as what was meant.
use Rattle.std.proofs.Common.{◌≡◌, ℕ, zero, suc, ◌+◌, ◌*◌, ◌/◌, ◌%◌, ◌<◌, ◌≤◌, ◌⊎◌, List, [], ◌∷◌, ◌++◌, length, get_or, ℤ, pos, Some, None, Ok, unwrap_or, sym, refl, ap, ◌∙◌, subst, inl, inr, arith}
use Rattle.std.proofs.lemmas.Bool.{cases_eq}
use Rattle.isa.specs.Words.{read_word}
use Rattle.listing.specs.declared.items.Body.{Body}
use Rattle.listing.specs.declared.records.Record.{Record}
use Rattle.listing.specs.declared.items.Section.TheVariants as section
use Rattle.listing.specs.declared.items.Slot.{Slot}
use Rattle.listing.specs.declared.items.Item.TheVariants.{Words}
use Rattle.listing.specs.Reading.{record_at}
use Rattle.listing.specs.Meaning.{meaning}
use Rattle.listing.specs.Slots.{slots, number_of, nop}
use Rattle.text.specs.declared.places.Place.{Place}
use Rattle.text.specs.Layout.{laid, misplaced, layout_refused}
use Rattle.text.specs.Image.{address, filled, word_of, word_bytes, words, bytes_of, image, text_length, word_at}
use Rattle.text.specs.Immediates.{record_value, nothing, ImmediatesKept}
use Rattle.text.specs.Sizes.{address_of, own_bytes}
use Rattle.text.specs.Values.{value_refused}
use Rattle.text.proofs.Words.{word_front, word_past}
use Rattle.text.proofs.Good.{small_word}
use Rattle.text.proofs.Lengths.{words_length}
use Rattle.text.proofs.Accepted.{record_fits}
use Rattle.text.proofs.Records.{Part, part_at, own_part}
use Rattle.text.proofs.Valued.{Valued, valued, constant_value, in_text}
use Rattle.text.proofs.Lawful.{body_lawful}
use Rattle.text.proofs.InSize.{words_in_size}
use Rattle.text.proofs.Immediates.{fill, slots_kept}

words_at : (z : ℤ) (at : ℕ) (ss : List Slot) (m k : ℕ) → k < m → word_of (filled z (at + 2 * k) (get_or ss k nop)) < 65536
    → word_at (words z at ss m) (2 * k) ≡ word_of (filled z (at + 2 * k) (get_or ss k nop))
unfolding words
words_at z at ss zero k h small = absurd (omega arith)
words_at z at ss (suc m) k h small = go (cases_eq k m) (λ lt. words_at z at ss m k lt small)
  where
    long : length (words z at ss m) ≡ 2 * m
    long = words_length z at ss m

    last : List ℕ
    last = word_bytes (word_of (filled z (at + 2 * m) (get_or ss m nop)))

    go : (k ≡ m) ⊎ (k ≡ m → ⊥) → (k < m → word_at (words z at ss m) (2 * k) ≡ word_of (filled z (at + 2 * k) (get_or ss k nop)))
        → word_at (words z at ss m ++ last) (2 * k) ≡ word_of (filled z (at + 2 * k) (get_or ss k nop))
    go (inl e) back =
        let w : ℕ = word_of (filled z (at + 2 * k) (get_or ss k nop)) in
        let pos' : 2 * k ≡ length (words z at ss m) + 0 = omega (arith, long) in
        let whole : w / 256 % 256 * 256 + w % 256 ≡ w = omega arith in
        word_past (words z at ss m) last (2 * k) 0 pos' ∙ ap (λ j. word_at (word_bytes (word_of (filled z (at + 2 * j) (get_or ss j nop)))) 0) (sym e) ∙ whole
    go (inr ne) back = word_front (words z at ss m) last (2 * k) (omega (arith, long)) ∙ back (omega arith)

-- a word of a part
word_in : (whole part : List ℕ) (at k : ℕ) → Part whole part at → k + 2 ≤ length part → word_at whole (at + k) ≡ word_at part k
word_in whole part at k p h =
    let a = part_at whole part at k 0 p (omega arith) in
    let same' : at + k + 1 ≡ at + (k + 1) = omega arith in
    let b = ap (λ j. get_or whole j 0) same' ∙ part_at whole part at (k + 1) 0 p (omega arith) in
    λ j. a j * 256 + b j

-- what is known of a record of an accepted listing that makes words
pub record Known (l : List ℕ) (n : ℕ) (r : Record) (b : Body) : Type 0 where
  pub checks : Valued (laid l n).place r (record_value l r)
  pub even : (laid l n).place.text % 2 ≡ 0
  pub stand : (k : ℕ) → k < length (slots (laid l n).place.result b r)
      → read_word (word_at (image l) ((laid l n).place.text + 2 * k))
      ≡ Ok (filled (number_of b.negated checks.value) ((laid l n).place.text + 2 * k) (get_or (slots (laid l n).place.result b r) k nop))

module _ (l : List ℕ) (ok : layout_refused l (length l / 8) ≡ None)
    (values : value_refused l (length l / 8) (text_length l (length l / 8)) (laid l (length l / 8)).labels ≡ None) where
  pub known : (n : ℕ) (r : Record) (b : Body) → n < length l / 8 → record_at l n ≡ Some r → meaning r ≡ Words b → Known l n r b
  known n r b lt e m =
      let p : Place = (laid l n).place in
      let fit = record_fits l (length l / 8) ok n r lt e in
      let spot = in_text p b (ap (λ i. misplaced i p) (sym m) ∙ fit.placed) in
      let checks = valued l values n r lt e in
      let v : ℤ = checks.value in
      let z : ℤ = number_of b.negated v in
      let ss : List Slot = slots p.result b r in
      let own : own_bytes l n r ≡ words z p.text ss (length ss) = λ j. bytes_of (m j) p r (unwrap_or (checks.given j) (pos 0)) in
      let here' : address_of l n ≡ p.text =
      ap (λ s. address (text_length l (length l / 8)) (record { section = s; offset = elim s [ section.Text ↦ p.text | section.Data ↦ p.«data» ] })) spot.0 in
      let part : Part (image l) (words z p.text ss (length ss)) p.text = subst (Part (image l) (words z p.text ss (length ss))) here'
      (subst (λ y. Part (image l) y (address_of l n)) own (own_part l n r lt e)) in
      record {
        checks = checks;
        even = spot.1;
        stand = λ k h.
            let sized = words_in_size l n r b p.result (p.text + 2 * k) k z e m in
            let small = small_word _ _ sized.1 in
            ap read_word (word_in (image l) (words z p.text ss (length ss)) p.text (2 * k) part (omega (arith, words_length z p.text ss (length ss)))
            ∙ words_at z p.text ss (length ss) k h small) ∙ sized.1;
      }

fill_length : (z : ℤ) (at : ℕ) (ss : List Slot) → length (fill z at ss) ≡ length ss
fill_length z at [] = refl
fill_length z at (s ∷ ss) = ap suc (fill_length z (at + 2) ss)

fill_at : (z : ℤ) (at : ℕ) (ss : List Slot) (k : ℕ) → k < length ss → get_or (fill z at ss) k nothing ≡ filled z (at + 2 * k) (get_or ss k nop)
fill_at z at [] k h = absurd (omega arith)
fill_at z at (s ∷ ss) zero h = let e : at ≡ at + 2 * 0 = omega arith in ap (λ a. filled z a s) e
fill_at z at (s ∷ ss) (suc k) h =
    let e : at + 2 + 2 * k ≡ at + 2 * suc k = omega arith in
    fill_at z (at + 2) ss k (omega arith) ∙ ap (λ a. filled z a (get_or ss k nop)) e

pub immediates_kept : (l : List ℕ) → layout_refused l (length l / 8) ≡ None
    → value_refused l (length l / 8) (text_length l (length l / 8)) (laid l (length l / 8)).labels ≡ None → ImmediatesKept l
immediates_kept l ok values n r b lt e m =
    let p : Place = (laid l n).place in
    let ss : List Slot = slots p.result b r in
    let k = known l ok values n r b lt e m in
    let z : ℤ = number_of b.negated k.checks.value in
    let long = fill_length z p.text ss in
    record {
      value = k.checks.value;
      given = k.checks.given;
      words = fill z p.text ss;
      size = ap (λ n. 2 * n) long;
      stand = λ j h. let h' : j < length ss = omega (arith, long) in k.stand j h' ∙ ap Ok (sym (fill_at z p.text ss j h'));
      kept = slots_kept b r p.result p.text k.checks.value (body_lawful l n r b e m).0 (constant_value l r k.checks.value k.checks.given);
    }

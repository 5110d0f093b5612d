-- The bytes and origins of records, sections and the image are as many as the layout says.
use Rattle.std.proofs.Common.{◌≡◌, ℕ, zero, suc, ◌+◌, ◌-◌, ◌*◌, ◌/◌, cond, List, [], ◌∷◌, ◌++◌, length, get_or, replicate, ℤ, pos, Some, None, Option, unwrap_or, sym, refl, ap, ◌∙◌, arith, length-append}
use lib.ListN.{length-replicate}
use Rattle.listing.specs.declared.records.Record.{Record}
use Rattle.listing.specs.declared.items.Section.{Section}
use Rattle.listing.specs.declared.items.Section.TheVariants as section
use Rattle.listing.specs.declared.items.Slot.{Slot}
use Rattle.listing.specs.declared.items.Mend.{Mend}
use Rattle.listing.specs.declared.items.Item.{Item}
use Rattle.listing.specs.declared.items.Item.TheVariants.{Words, Align}
use Rattle.listing.specs.Numbers.{bits16}
use Rattle.listing.specs.Reading.{record_at}
use Rattle.listing.specs.Meaning.{meaning}
use Rattle.listing.specs.Slots.{slots, nop, number_of, body_mend}
use Rattle.text.specs.declared.places.Mark.{Mark}
use Rattle.text.specs.declared.places.Place.{Place}
use Rattle.text.specs.Layout.{here, padding, size_of, result_of, section_after, grown, after, laid, laid_more, start}
use Rattle.text.specs.Image.{filled, word_of, word_bytes, words, bytes_of, record_bytes, same, portion, section_bytes, value, text_length, image_length, image}
use Rattle.text.specs.Origins.{Cause, Alignment, End, Origin, word_cause, word_causes, causes_of, at_index, portion_origins, section_origins, text_origins, image_origins}

-- the place after one record more
pub place_more : (l : List ℕ) (n : ℕ) → (laid l (suc n)).place ≡ after (laid l n).place (record_at l n)
unfolding laid
place_more l n = go (record_at l n)
  where
    go : (o : Option Record) → (laid_more (laid l n) o).place ≡ after (laid l n).place o
    go None = refl
    go (Some r) = refl

pub words_length : (v : ℤ) (at : ℕ) (ss : List Slot) (k : ℕ) → length (words v at ss k) ≡ 2 * k
unfolding words
words_length v at ss zero = refl
words_length v at ss (suc k) =
    let w : ℕ = word_of (filled v (at + 2 * k) (get_or ss k nop)) in
    length-append (words v at ss k) (word_bytes w) ∙ omega (arith, words_length v at ss k)

causes_length : (m : Mend) (ss : List Slot) (k : ℕ) → length (word_causes m ss k) ≡ 2 * k
unfolding word_causes
causes_length m ss zero = refl
causes_length m ss (suc k) =
    let x : Cause = word_cause m k (get_or ss k nop) in
    length-append (word_causes m ss k) (x ∷ x ∷ []) ∙ omega (arith, causes_length m ss k)

pub at_index_length : (n : ℕ) (cs : List Cause) → length (at_index n cs) ≡ length cs
at_index_length n [] = refl
at_index_length n (c ∷ cs) = ap suc (at_index_length n cs)

module _ (p : Place) (r : Record) where
  pub item_length : (v : ℤ) (i : Item) → length (bytes_of i p r v) ≡ size_of i p r
  item_length v (Words b) = words_length (number_of b.negated v) p.text (slots p.result b r) _
  item_length v Align = length-replicate (padding (here p) (bits16 r.constant)) 0
  item_length v i = refl

  item_causes_length : (i : Item) → length (causes_of i p r) ≡ size_of i p r
  item_causes_length (Words b) = causes_length (body_mend p.result b r) (slots p.result b r) _
  item_causes_length Align = length-replicate (padding (here p) (bits16 r.constant)) Alignment
  item_causes_length i = refl

  pub item_origins_length : (n : ℕ) (i : Item) → length (at_index n (causes_of i p r)) ≡ size_of i p r
  item_origins_length n i = at_index_length n (causes_of i p r) ∙ item_causes_length i

-- a section's length
abbrev pub total : Section → Place → ℕ
total section.Text p = p.text
total section.Data p = p.«data»

grows : {A : Type 0} (p : Place) (bs : List A) (n result : ℕ) (q : Section) → length bs ≡ n → (s t : Section)
    → total t p + length (cond (same s t) bs []) ≡ total t (grown s p n result q)
grows p bs n result q e section.Text section.Text = ap (λ k. p.text + k) e
grows p bs n result q e section.Data section.Data = ap (λ k. p.«data» + k) e
grows p bs n result q e _ _ = omega arith

empty : (t : Section) → 0 ≡ total t start.place
empty section.Text = refl
empty section.Data = refl

module _ (base : ℕ) (labels : List (Option Mark)) where
  pub portion_total : (t : Section) (p : Place) (o : Option Record) → total t p + length (portion t base labels p o) ≡ total t (after p o)
  portion_total t p None = omega arith
  portion_total t p (Some r) =
      grows p (record_bytes base labels p r) (size_of (meaning r) p r) (result_of (meaning r) p r) (section_after (meaning r) p.section)
      (item_length p r (unwrap_or (value base labels r) (pos 0)) (meaning r)) p.section t

  pub section_length : (t : Section) (l : List ℕ) (n : ℕ) → length (section_bytes t base labels l n) ≡ total t (laid l n).place
  unfolding section_bytes laid
  section_length t l zero = empty t
  section_length t l (suc n) =
      length-append (section_bytes t base labels l n) (portion t base labels (laid l n).place (record_at l n))
      ∙ ap (λ k. k + length (portion t base labels (laid l n).place (record_at l n))) (section_length t l n)
      ∙ portion_total t (laid l n).place (record_at l n)
      ∙ ap (total t) (sym (place_more l n))

origins_total : (t : Section) (p : Place) (o : Option Record) (n : ℕ) → total t p + length (portion_origins t p o n) ≡ total t (after p o)
origins_total t p None n = omega arith
origins_total t p (Some r) n =
    grows p (at_index n (causes_of (meaning r) p r)) (size_of (meaning r) p r) (result_of (meaning r) p r) (section_after (meaning r) p.section)
    (item_origins_length p r n (meaning r)) p.section t

pub section_origins_length : (t : Section) (l : List ℕ) (n : ℕ) → length (section_origins t l n) ≡ total t (laid l n).place
unfolding section_origins laid
section_origins_length t l zero = empty t
section_origins_length t l (suc n) =
    length-append (section_origins t l n) (portion_origins t (laid l n).place (record_at l n) n)
    ∙ ap (λ k. k + length (portion_origins t (laid l n).place (record_at l n) n)) (section_origins_length t l n)
    ∙ origins_total t (laid l n).place (record_at l n) n
    ∙ ap (total t) (sym (place_more l n))

pub image_long : (l : List ℕ) → length (image l) ≡ image_length l (length l / 8)
image_long l =
    let n : ℕ = length l / 8 in
    let t = section_length (text_length l n) (laid l n).labels section.Text l n in
    let d = section_length (text_length l n) (laid l n).labels section.Data l n in
    let front = section_bytes section.Text (text_length l n) (laid l n).labels l n in
    let back = section_bytes section.Data (text_length l n) (laid l n).labels l n in
    let k = text_length l n - (laid l n).place.text in
    length-append (front ++ replicate k 0) back ∙ omega (arith, length-append front (replicate {A = ℕ} k 0), length-replicate {A = ℕ} k 0, t, d)

pub text_origins_long : (l : List ℕ) → length (text_origins l) ≡ text_length l (length l / 8)
text_origins_long l =
    let n : ℕ = length l / 8 in
    let t = section_origins_length section.Text l n in
    let k = text_length l n - (laid l n).place.text in
    let x : Origin = record { index = n; cause = End } in
    length-append (section_origins section.Text l n) (replicate k x) ∙ omega (arith, length-replicate k x, t)

pub origins_long : (l : List ℕ) → length (image_origins l) ≡ length (image l)
origins_long l =
    let n : ℕ = length l / 8 in
    let d = section_origins_length section.Data l n in
    length-append (text_origins l) (section_origins section.Data l n) ∙ omega (arith, text_origins_long l, d, image_long l)

-- From an image that load accepts to the memory that it leaves: what the premises say of the image they say of the memory.
use Rattle.std.proofs.Common.{◌≡◌, ℕ, zero, suc, ◌%◌, ◌<◌, ◌≤◌, Bool, true, false, cond, ◌&&◌, eqb, ltb, leb, List, length, get_or, Ok, Err, Result, refl, ap, ◌∙◌, inl, inr, arith}
use Rattle.std.proofs.lemmas.Bool.{and_parts, cases_eq}
use Rattle.std.proofs.lemmas.Bool.Decides.{nat_tests}
use Rattle.isa.specs.declared.refusals.Refusal.{Refusal}
use Rattle.isa.specs.declared.refusals.Refusal.TheVariants as refusal
use Rattle.memory.specs.Meaning.{Meaning}
use Rattle.memory.specs.Words.{stored_image}
use Rattle.machine.specs.declared.states.Layout.{Layout}
use Rattle.machine.specs.Loads.{range_fits, fits, open_below, loading}
use Rattle.histories.specs.Texts.{NoExtended, NoHazard, RunsWithin}
use Rattle.histories.specs.Laws.{Alike}
use Rattle.histories.proofs.Kept.{laid, unextended_kept, unhazardous_kept, runs_kept}

-- the bytes of an image
abbrev pub bytes_of : List ℕ → ℕ → ℕ
bytes_of image a = get_or image a 0

accepted : (p q : Bool) → ◌≡◌ {A = Result Unit Refusal} (cond p (cond q (Ok tt) (Err refusal.Closed)) (Err refusal.Plan)) (Ok tt) → (p ≡ true) × (q ≡ true)
accepted true true h = (refl, refl)
accepted true false h = cc
accepted false q h = cc

open_at : (o : ℕ → Bool) (n : ℕ) → open_below o n ≡ true → (a : ℕ) → a < n → o a ≡ true
open_at o zero h a k = absurd (omega arith)
open_at o (suc n) h a k =
    let x = and_parts (open_below o n) (o n) h in
    elim (cases_eq a n) [
      | inl e ↦ ap o e ∙ x.1
      | inr e ↦ open_at o n x.0 a (omega arith)
    ]

-- a load changes like memories alike
pub alike_loaded : (m n : Meaning) (image : List ℕ) → Alike m n → Alike (stored_image m image) (stored_image n image)
alike_loaded m n image h = record {
  bytes = λ a small.
      ap (λ q. cond (ltb a (length image) && q) (get_or image a 0) (m.byte a)) (h.marks a small)
      ∙ ap (λ v. cond (ltb a (length image) && n.mark a) (get_or image a 0) v) (h.bytes a small);
  marks = h.marks;
}

module _ (l : Layout) (image : List ℕ) (m : Meaning) (ok : loading l image m ≡ Ok tt) where
  -- what the laws ask of a layout
  pub loaded_fits : fits l (length image) ≡ true
  loaded_fits = (accepted (fits l (length image)) (open_below m.mark (length image)) ok).0

  -- the memory carries the text
  pub loaded_text : (a : ℕ) → a < l.text → (stored_image m image).byte a ≡ bytes_of image a
  loaded_text a h =
      let open_image = (accepted (fits l (length image)) (open_below m.mark (length image)) ok).1 in
      let x = and_parts (eqb (l.text % 16) 0) (leb l.text (length image) && (leb (length image) 65280 && range_fits l)) loaded_fits in
      let y = and_parts (leb l.text (length image)) (leb (length image) 65280 && range_fits l) x.1 in
      let z = y.0 in
      let far : l.text ≤ length image = grind (arith, nat_tests) in
      let p : ltb a (length image) ≡ true = grind (arith, nat_tests) in
      let q = open_at m.mark (length image) open_image a (omega arith) in
      ap (λ z. cond (z && m.mark a) (get_or image a 0) (m.byte a)) p ∙ ap (λ z. cond z (get_or image a 0) (m.byte a)) q

  pub unextended_loaded : NoExtended l (bytes_of image) → NoExtended l (stored_image m image).byte
  unextended_loaded = unextended_kept l (bytes_of image) (stored_image m image).byte (laid l (length image) loaded_fits) (λ a h k. loaded_text a h)

  pub unhazardous_loaded : NoHazard l (bytes_of image) → NoHazard l (stored_image m image).byte
  unhazardous_loaded = unhazardous_kept l (bytes_of image) (stored_image m image).byte (laid l (length image) loaded_fits) (λ a h k. loaded_text a h)

  pub runs_loaded : (longest : ℕ) → RunsWithin l.text (bytes_of image) longest → RunsWithin l.text (stored_image m image).byte longest
  runs_loaded longest =
      let x = laid l (length image) loaded_fits in
      let whole = x.whole in
      runs_kept l.text (bytes_of image) (stored_image m image).byte longest (omega arith) x.text loaded_text

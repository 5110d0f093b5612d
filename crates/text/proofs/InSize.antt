-- Each word of a record is in size.
use Rattle.std.proofs.Common.{◌≡◌, ℕ, zero, suc, ◌%◌, ◌<◌, eqb, List, [], ◌∷◌, ◌++◌, get_or, drop, replicate, ℤ, Some, None, Ok, Err, Option, Result, unwrap_or, refl, arith, lit<, rules}
use Rattle.std.proofs.lemmas.Bool.{cond_both}
use Rattle.std.specs.Result.{result_ok}
use Rattle.isa.specs.declared.instructions.Instruction.{Instruction}
use Rattle.isa.specs.declared.instructions.Instruction.TheVariants as word
use Rattle.isa.specs.declared.refusals.Refusal.{Refusal}
use Rattle.isa.specs.Words.{read_word, write_word}
use Rattle.isa.specs.Laws.{InSize, WritesBack}
use Rattle.listing.specs.Operands.{with_immediate}
use Rattle.isa.proofs.Back.{writes_back}
use Rattle.listing.specs.declared.items.Body.{Body}
use Rattle.isa.specs.declared.instructions.ImmediateForm.{ImmediateForm}
use Rattle.isa.specs.declared.instructions.ImmediateForm.TheVariants as form
use Rattle.listing.specs.declared.items.First.{First}
use Rattle.listing.specs.declared.items.First.TheVariants as first
use Rattle.listing.specs.declared.items.Rest.{Rest}
use Rattle.listing.specs.declared.items.Rest.TheVariants as rest
use Rattle.listing.specs.declared.records.Record.{Record}
use Rattle.listing.specs.declared.items.Slot.{Slot}
use Rattle.listing.specs.declared.items.Slot.TheVariants as slot
use Rattle.listing.specs.declared.items.Mend.TheVariants as mend
use Rattle.listing.specs.declared.items.Item.TheVariants.{Words}
use Rattle.listing.specs.Reading.{record_at}
use Rattle.listing.specs.Numbers.{bits16}
use Rattle.listing.specs.Meaning.{meaning}
use Rattle.listing.specs.Slots.{number, short, field_of, first_slots, rest_slots, template, nop, slot_swapped, clash, mend_by, mend_of, mended, slots}
use Rattle.text.specs.Image.{filled, word_of}
use Rattle.text.proofs.Swap.{swap_cases}
use Rattle.text.proofs.Lawful.{LawfulFirst, LawfulRest, body_lawful}

abbrev SizedSlot : Slot → Type 0
SizedSlot (slot.Word i) = InSize i
SizedSlot (slot.Low i) = InSize i
SizedSlot _ = Unit {0}

Sized : List Slot → Type 0
Sized [] = Unit {0}
Sized (s ∷ ss) = SizedSlot s × Sized ss

low_sized : (i : Instruction) (n : ℕ) → InSize i → n < 16 → InSize (with_immediate i n)
low_sized (word.Addi d a m) n (x, y, z) k = (x, y, k)
low_sized (word.Immediate f d m) n (x, z) k = (x, k)
low_sized (word.Lw d a m) n (x, y, z) k = (x, y, k)
low_sized (word.Lb d a m) n (x, y, z) k = (x, y, k)
low_sized (word.Sw d a m) n (x, y, z) k = (x, y, k)
low_sized (word.Sb d a m) n (x, y, z) k = (x, y, k)
low_sized (word.Jal d a m) n (x, y, z) k = (x, y, k)
low_sized i n h k = h

field_small : (g : ImmediateForm) (z : ℤ) → field_of g z < 16
field_small form.Signed z = omega arith
field_small _ z = omega arith

repeated : (s : Slot) (n : ℕ) → SizedSlot s → Sized (replicate n s)
unfolding Sized
repeated s zero h = tt
repeated s (suc n) h = (h, repeated s n h)

sized_append : (xs ys : List Slot) → Sized xs → Sized ys → Sized (xs ++ ys)
unfolding Sized
sized_append [] ys h k = k
sized_append (x ∷ xs) ys (h, hs) k = (h, sized_append xs ys hs k)

sized_first : (f : First) (r : Record) (z : ℤ) → LawfulFirst f → Sized (first_slots f r z)
unfolding Sized
sized_first (first.Word i) r z (h, e) = (h, tt)
sized_first (first.Field g i) r z (h, e) =
    cond_both (short g r z) _ _ Sized (λ _. (low_sized i (field_of g z) h (field_small g z), tt)) (λ _. (tt, (h, tt)))
sized_first (first.Repeat f d) r z h = repeated (slot.Word (word.Immediate f d 1)) (bits16 z) (h, lit< tt)
sized_first (first.Move d a) r z (x, y) = cond_both (eqb d a) _ _ Sized (λ _. tt) (λ _. ((x, y, lit< tt), tt))
sized_first (first.Branch c) r z h = (tt, tt)
sized_first first.Call r z h = (tt, tt)

sized_rest : (e : Rest) → LawfulRest e → Sized (rest_slots e)
unfolding Sized
sized_rest rest.Nothing h = tt
sized_rest (rest.Zero d) h = (lit< tt, ((h, lit< tt), tt))
sized_rest (rest.Sign d) h = (lit< tt, ((h, lit< tt), (lit< tt, ((h, h, lit< tt), tt))))
sized_rest (rest.Both d) h = (lit< tt, ((h, lit< tt), (lit< tt, ((h, lit< tt), (lit< tt, ((h, h, lit< tt), tt))))))

sized_at : (ss : List Slot) (k : ℕ) → Sized ss → SizedSlot (get_or ss k nop)
unfolding Sized
sized_at [] k h = (lit< tt, lit< tt)
sized_at (s ∷ ss) zero (h, hs) = h
sized_at (s ∷ ss) (suc k) (h, hs) = sized_at ss k hs

sized_drop : (ss : List Slot) → Sized ss → Sized (drop 1 ss)
unfolding Sized
sized_drop [] h = tt
sized_drop (s ∷ ss) (h, hs) = hs

Swapped : Slot → Option Instruction → Type 0
Swapped s None = Unit {0}
Swapped s (Some i) = SizedSlot s → InSize i

sized_swap : (s : Slot) → Swapped s (slot_swapped s)
unfolding Swapped
sized_swap = swap_cases Swapped (λ s. tt) (λ d a b differ (x, y, z). (x, z, y))

sized_mended : (result : ℕ) (ss : List Slot) → Sized ss → Sized (mended (mend_of result (get_or ss 0 nop)) ss)
unfolding Sized Swapped
sized_mended result ss h =
    cond_both (clash result s) (mend_by (slot_swapped s)) mend.Keep (λ m. Sized (mended m ss)) (λ _. hit (slot_swapped s) (sized_swap s)) (λ _. h)
  where
    s : Slot
    s = get_or ss 0 nop

    hit : (o : Option Instruction) → Swapped s o → Sized (mended (mend_by o) ss)
    hit None w = ((lit< tt, lit< tt), h)
    hit (Some i) w = (w (sized_at ss 0 h), sized_drop ss h)

pub bits16_small : (z : ℤ) → bits16 z < 65536
bits16_small z = search rules

filled_sized : (v : ℤ) (at : ℕ) (s : Slot) → SizedSlot s → InSize (filled v at s)
filled_sized v at (slot.Word i) h = h
filled_sized v at slot.Prefix h = let b = bits16_small v in omega arith
filled_sized v at (slot.Low i) h = low_sized i (bits16 v % 16) h (omega arith)
filled_sized v at (slot.Branch c) h = omega arith
filled_sized v at slot.Call h = let b = bits16_small v in omega arith

written_so : (i : Instruction) → InSize i → (write_word i ≡ Ok (word_of i)) × (read_word (word_of i) ≡ Ok i)
written_so i h = go (write_word i) (writes_back i)
  where
    go : (r : Result ℕ Refusal) → WritesBack i r → (r ≡ Ok (unwrap_or (result_ok r) 0)) × (read_word (unwrap_or (result_ok r) 0) ≡ Ok i)
    go (Ok w) (s, e) = (refl, e)
    go (Err e) (n, x) = absurd (n h)

-- each word of a record that reads, accepted or not, is in size, and its word reads as it
pub words_in_size : (l : List ℕ) (n : ℕ) (r : Record) (b : Body) (result at k : ℕ) (v : ℤ) → record_at l n ≡ Some r → meaning r ≡ Words b
    → let i : Instruction = filled v at (get_or (slots result b r) k nop) in (write_word i ≡ Ok (word_of i)) × (read_word (word_of i) ≡ Ok i)
words_in_size l n r b result at k v e m =
    let h = body_lawful l n r b e m in
    let ss = sized_append (first_slots b.first r (number b r)) (rest_slots b.rest) (sized_first b.first r (number b r) h.0) (sized_rest b.rest h.1) in
    written_so _ (filled_sized v at (get_or (slots result b r) k nop) (sized_at (slots result b r) k (sized_mended result (template b r) ss)))

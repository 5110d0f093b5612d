-- The words of a record form the immediates that it asks for.
use Rattle.std.proofs.Common.{◌≡◌, ℕ, zero, suc, ◌+◌, ◌*◌, ◌/◌, ◌%◌, ◌<◌, ◌≤◌, Bool, true, ◌&&◌, eqb, leb, List, [], ◌∷◌, ◌++◌, get_or, drop, replicate, ℤ, pos, negsuc, Some, None, Option, sym, refl, ap, ◌∙◌, arith}
use Rattle.std.proofs.lemmas.Bool.{cond_both, eqb-true, leb-true, and_parts, false≢true}
use Rattle.isa.specs.declared.instructions.Instruction.{Instruction}
use Rattle.isa.specs.declared.instructions.Instruction.TheVariants as word
use Rattle.listing.specs.Operands.{with_immediate}
use Rattle.listing.specs.declared.items.Body.{Body}
use Rattle.isa.specs.declared.instructions.ImmediateForm.{ImmediateForm}
use Rattle.isa.specs.declared.instructions.ImmediateForm.TheVariants as form
use Rattle.listing.specs.declared.items.First.{First}
use Rattle.listing.specs.declared.items.First.TheVariants as first
use Rattle.listing.specs.declared.items.Rest.{Rest}
use Rattle.listing.specs.declared.items.Rest.TheVariants as rest
use Rattle.listing.specs.declared.records.Record.{Record}
use Rattle.listing.specs.declared.items.Slot.{Slot}
use Rattle.listing.specs.declared.items.Slot.TheVariants as slot
use Rattle.listing.specs.declared.items.Mend.TheVariants as mend
use Rattle.listing.specs.Numbers.{bits16}
use Rattle.listing.specs.Slots.{number, number_of, fits, short, field_of, first_slots, rest_slots, template, nop, slot_swapped, clash, mend_by, mend_of, mended, slots}
use Rattle.listing.proofs.Below.{every, below}
use Rattle.text.specs.Image.{filled}
use Rattle.isa.specs.declared.instructions.ImmediateField.{ImmediateField}
use Rattle.isa.specs.Immediates.{immediate_field, extended}
use Rattle.text.specs.Immediates.{prefix_of, shown, immediates, first_asks, rest_asks}
use Rattle.text.proofs.Swap.{swap_cases}
use Rattle.text.proofs.Lawful.{LawfulFirst}
use Rattle.text.proofs.InSize.{bits16_small}

kept : ImmediateForm → ℤ → Bool
kept g z = eqb (extended g (field_of g z)) (bits16 z)

-- an immediate that stands in its word is formed as it was
stands_short : (g : ImmediateForm) (z : ℤ) → fits g z ≡ true → extended g (field_of g z) ≡ bits16 z
unfolding every kept
stands_short form.Signed (pos n) e = eqb-true _ _ (below (λ k. kept form.Signed (pos k)) 8 refl n (let h = leb-true n 7 (and_parts true (leb n 7) e).1 in omega arith))
stands_short form.Signed (negsuc n) e = eqb-true _ _ (below (λ k. kept form.Signed (negsuc k)) 8 refl n (let h =
    leb-true n 7 (and_parts (leb n 7) true e).0 in omega arith))
stands_short form.ByteOffset (pos n) e = eqb-true _ _ (below (λ k. kept form.ByteOffset (pos k)) 16 refl n (let h =
    leb-true n 15 (and_parts (leb 0 n) (leb n 15) e).1 in omega arith))
stands_short form.ByteOffset (negsuc n) e = absurd (false≢true e)
stands_short form.WordOffset (pos n) e =
    let range' = and_parts (leb 0 n && leb n 30) (eqb (n % 65536 % 2) 0) e in
    let even = eqb-true (n % 65536 % 2) 0 range'.1 in
    let h = leb-true n 30 (and_parts (leb 0 n) (leb n 30) range'.0).1 in
    eqb-true _ _ (twice (half n even h))
  where
    check : ℕ → Bool
    check k = kept form.WordOffset (pos (2 * k))

    half : (n : ℕ) → n % 65536 % 2 ≡ 0 → n ≤ 30 → (n ≡ 2 * (n / 2)) × (n / 2 < 16)
    half n e h = (omega arith, omega arith)

    twice : (n ≡ 2 * (n / 2)) × (n / 2 < 16) → kept form.WordOffset (pos n) ≡ true
    twice (e, h) = ap (λ m. kept form.WordOffset (pos m)) e ∙ below check 16 refl (n / 2) h
stands_short form.WordOffset (negsuc n) e = absurd (false≢true e)

-- a prefix and a field are the number
long : (n : ℕ) → n < 65536 → (n / 16 * 16 + n % 16) % 65536 ≡ n
long n h = omega arith

-- an instruction with an immediate leaves no prefix
no_prefix : (i : Instruction) (f : ImmediateField) → immediate_field i ≡ Some f → prefix_of i ≡ None
no_prefix (word.Imm n) f e = absurd cc
no_prefix i f e = refl

-- the instructions of a record's words
abbrev pub fill : ℤ → ℕ → List Slot → List Instruction
fill z at [] = []
fill z at (s ∷ ss) = filled z at s ∷ fill z (at + 2) ss

rest_kept : (e : Rest) (z : ℤ) (at : ℕ) → immediates None (fill z at (rest_slots e)) ≡ rest_asks e
rest_kept rest.Nothing z at = refl
rest_kept (rest.Zero d) z at = refl
rest_kept (rest.Sign d) z at = refl
rest_kept (rest.Both d) z at = refl

module _ (z : ℤ) (e : Rest) where
  after : First → ℤ → List ℕ
  after f k = first_asks f z k ++ rest_asks e

  -- one word that holds no prefix
  one : (i : Instruction) (p : Option ℕ) (at : ℕ) → prefix_of i ≡ None
      → shown p (immediate_field i) ++ immediates (prefix_of i) (fill z at (rest_slots e)) ≡ shown p (immediate_field i) ++ rest_asks e
  one i p at h = ap (λ q. shown p (immediate_field i) ++ immediates q (fill z at (rest_slots e))) h ∙ ap (λ ns. shown p (immediate_field i) ++ ns) (rest_kept e z at)

  repeats : (s : Slot) (n at : ℕ) → ((a : ℕ) (p : Option ℕ) → shown None (immediate_field (filled z a s)) ≡ 1 ∷ []) → ((a : ℕ) → prefix_of (filled z a s) ≡ None)
      → immediates None (fill z at (replicate n s ++ rest_slots e)) ≡ replicate n 1 ++ rest_asks e
  repeats s zero at h k = rest_kept e z at
  repeats s (suc n) at h k =
      (λ j. h at None j ++ immediates (k at j) (fill z (at + 2) (replicate n s ++ rest_slots e))) ∙ ap (λ ns. 1 ∷ ns) (repeats s n (at + 2) h k)

  first_kept : (f : First) (r : Record) (k : ℤ) (at : ℕ) → LawfulFirst f → (r.reference ≡ 0 → z ≡ k)
      → immediates None (fill z at (first_slots f r k ++ rest_slots e)) ≡ first_asks f z k ++ rest_asks e
  first_kept (first.Word i) r k at (h, e') same = one i None (at + 2) e'
  first_kept (first.Field g i) r k at (h, v) same =
      cond_both (short g r k) _ _ (λ ss. immediates None (fill z at (ss ++ rest_slots e)) ≡ bits16 z ∷ rest_asks e)
      (λ t. let both = and_parts (eqb r.reference 0) (fits g k) t in
      let is : extended g (field_of g k) ≡ bits16 z = stands_short g k both.1 ∙ ap bits16 (sym (same (eqb-true r.reference 0 both.0))) in
      let field : ImmediateField = record { form = g; bits = field_of g k } in
      one (with_immediate i (field_of g k)) None (at + 2) (no_prefix (with_immediate i (field_of g k)) field (v (field_of g k)))
      ∙ ap (λ w. shown None w ++ rest_asks e) (v (field_of g k)) ∙ ap (λ n. n ∷ rest_asks e) is)
      (λ t. let field : ImmediateField = record { form = g; bits = bits16 z % 16 } in
      one (with_immediate i (bits16 z % 16)) (Some (bits16 z / 16)) (at + 2 + 2) (no_prefix (with_immediate i (bits16 z % 16)) field (v (bits16 z % 16)))
      ∙ ap (λ w. shown (Some (bits16 z / 16)) w ++ rest_asks e) (v (bits16 z % 16)) ∙ ap (λ n. n ∷ rest_asks e) (long (bits16 z) (bits16_small z)))
  first_kept (first.Repeat f d) r k at h same = repeats (slot.Word (word.Immediate f d 1)) (bits16 k) at (λ a p. refl) (λ a. refl)
  first_kept (first.Move d a) r k at h same =
      cond_both (eqb d a) _ _ (λ ss. immediates None (fill z at (ss ++ rest_slots e)) ≡ rest_asks e) (λ _. rest_kept e z at) (λ _. rest_kept e z (at + 2))
  first_kept (first.Branch c) r k at h same = rest_kept e z (at + 2)
  first_kept first.Call r k at h same = rest_kept e z (at + 2)

Swapped : Slot → Option Instruction → Type 0
Swapped s None = Unit {0}
Swapped s (Some i) = (ss : List Slot) (z : ℤ) (at : ℕ) → immediates None (fill z at (slot.Word i ∷ drop 1 (s ∷ ss))) ≡ immediates None (fill z at (s ∷ ss))

swaps : (s : Slot) → Swapped s (slot_swapped s)
unfolding Swapped
swaps = swap_cases Swapped (λ s. tt) (λ d a b differ ss z at. refl)

-- a mend alters no immediate
mended_kept : (result : ℕ) (ss : List Slot) (z : ℤ) (ns : List ℕ) → ((at : ℕ) → immediates None (fill z at ss) ≡ ns) → (at : ℕ)
    → immediates None (fill z at (mended (mend_of result (get_or ss 0 nop)) ss)) ≡ ns
unfolding Swapped
mended_kept result ss z ns h at =
    cond_both (clash result (get_or ss 0 nop)) (mend_by (slot_swapped (get_or ss 0 nop))) mend.Keep (λ m. immediates None (fill z at (mended m ss)) ≡ ns)
    (λ _. hit ss h (slot_swapped (get_or ss 0 nop)) (swaps (get_or ss 0 nop))) (λ _. h at)
  where
    hit : (ss : List Slot) → ((at : ℕ) → immediates None (fill z at ss) ≡ ns) → (o : Option Instruction) → Swapped (get_or ss 0 nop) o
        → immediates None (fill z at (mended (mend_by o) ss)) ≡ ns
    hit ss h None w = h (at + 2)
    hit [] h (Some i) w = w [] z at ∙ h at
    hit (s ∷ ss) h (Some i) w = w ss z at ∙ h at

pub slots_kept : (b : Body) (r : Record) (result at : ℕ) (v : ℤ) → LawfulFirst b.first → (r.reference ≡ 0 → v ≡ r.constant)
    → immediates None (fill (number_of b.negated v) at (slots result b r)) ≡ first_asks b.first (number_of b.negated v) (number b r) ++ rest_asks b.rest
slots_kept b r result at v law same =
    let z = number_of b.negated v in
    mended_kept result (template b r) z _
    (λ a. first_kept z b.rest b.first r (number b r) a law (λ zero'. ap (number_of b.negated) (same zero'))) at

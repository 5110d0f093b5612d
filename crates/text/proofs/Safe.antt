-- Within the words of one record there is no hazard, and its first word is mended.
use Rattle.std.proofs.Common.{◌≡◌, ℕ, zero, suc, ◌<◌, true, false, cond, ◌&&◌, eqb, ltb, ◌⊎◌, List, [], ◌∷◌, ◌++◌, length, get_or, drop, replicate, ℤ, Some, None, Option, sym, refl, ◌∙◌, subst, inl, inr, ⊎_elim, arith}
use Rattle.std.proofs.lemmas.Bool.{cond_both, cases_Bool, false≢true, eqb-true, lt-ltb, eq-eqb, and_from, and_parts}
use Rattle.isa.specs.declared.instructions.Instruction.{Instruction}
use Rattle.isa.specs.declared.instructions.Instruction.TheVariants as word
use Rattle.isa.specs.Registers.{result as written, late}
use Rattle.listing.specs.declared.items.Body.{Body}
use Rattle.listing.specs.declared.records.Record.{Record}
use Rattle.listing.specs.declared.items.First.{First}
use Rattle.listing.specs.declared.items.First.TheVariants as first
use Rattle.listing.specs.declared.items.Rest.{Rest}
use Rattle.listing.specs.declared.items.Rest.TheVariants as rest
use Rattle.listing.specs.declared.items.Slot.{Slot}
use Rattle.listing.specs.declared.items.Slot.TheVariants as slot
use Rattle.listing.specs.declared.items.Mend.TheVariants as mend
use Rattle.listing.specs.Numbers.{bits16}
use Rattle.text.proofs.Swap.{swap_cases}
use Rattle.listing.specs.Slots.{number, fits, first_slots, rest_slots, template, nop, slot_late, slot_result, slot_swapped, clash, mend_by, mend_of, mended, slots}

-- no hazard after a word with that result
abbrev pub Quiet : ℕ → Slot → Type 0
Quiet result s = 0 < result → slot_late s ≡ result → ⊥

pub Safe : ℕ → List Slot → Type 0
Safe result [] = Unit {0}
Safe result (s ∷ ss) = Quiet result s × Safe (slot_result s) ss

-- a later word reads nothing late, or the one before writes nothing
abbrev Next : ℕ → List Slot → Type 0
Next w [] = Unit {0}
Next w (t ∷ ss) = (slot_late t ≡ 0) ⊎ (w ≡ 0)

Inner : List Slot → Type 0
Inner [] = Unit {0}
Inner (s ∷ ss) = Next (slot_result s) ss × Inner ss

safe_inner : (result : ℕ) (ss : List Slot) → Inner ss → (0 < length ss → Quiet result (get_or ss 0 nop)) → Safe result ss
unfolding Safe Inner
safe_inner result [] i q = tt
safe_inner result (s ∷ []) i q = (q (omega arith), tt)
safe_inner result (s ∷ t ∷ ss) (n, i) q =
    (q (omega arith), safe_inner (slot_result s) (t ∷ ss) i (λ h. ⊎_elim (λ z p e. omega arith) (λ z p e. omega arith) n))

repeated : (s : Slot) (n : ℕ) → slot_late s ≡ 0 → Inner (replicate n s)
unfolding Inner
repeated s zero e = tt
repeated s (suc zero) e = (tt, tt)
repeated s (suc (suc n)) e = (inl e, repeated s (suc n) e)

inner_first : (f : First) (r : Record) (z : ℤ) → Inner (first_slots f r z)
unfolding Inner
inner_first (first.Word i) r z = (tt, tt)
inner_first (first.Field g i) r z = cond_both (eqb r.reference 0 && fits g z) _ _ Inner (λ _. (tt, tt)) (λ _. (inr refl, (tt, tt)))
inner_first (first.Repeat f d) r z = repeated (slot.Word (word.Immediate f d 1)) (bits16 z) refl
inner_first (first.Move d a) r z = cond_both (eqb d a) _ _ Inner (λ _. tt) (λ _. (tt, tt))
inner_first (first.Branch c) r z = (tt, tt)
inner_first first.Call r z = (tt, tt)

inner_rest : (e : Rest) → Inner (rest_slots e)
unfolding Inner
inner_rest rest.Nothing = tt
inner_rest (rest.Zero d) = (inl refl, (tt, tt))
inner_rest (rest.Sign d) = (inl refl, (inl refl, (inl refl, (tt, tt))))
inner_rest (rest.Both d) = (inl refl, (inl refl, (inl refl, (inl refl, (inl refl, (tt, tt))))))

next_rest : (e : Rest) (w : ℕ) → Next w (rest_slots e)
next_rest rest.Nothing w = tt
next_rest (rest.Zero d) w = inl refl
next_rest (rest.Sign d) w = inl refl
next_rest (rest.Both d) w = inl refl

inner_append : (xs ys : List Slot) → Inner xs → Inner ys → ((w : ℕ) → Next w ys) → Inner (xs ++ ys)
unfolding Inner
inner_append [] ys i k n = k
inner_append (s ∷ []) ys i k n = (n (slot_result s), k)
inner_append (s ∷ t ∷ xs) ys (m, i) k n = (m, inner_append (t ∷ xs) ys i k n)

inner : (b : Body) (r : Record) → Inner (template b r)
inner b r = inner_append (first_slots b.first r (number b r)) (rest_slots b.rest) (inner_first b.first r (number b r)) (inner_rest b.rest)
    (next_rest b.rest)

-- a sum with its operands swapped writes the same register and reads another late
Swaps : Slot → Option Instruction → Type 0
Swaps s None = Unit {0}
Swaps s (Some i) = (written i ≡ slot_result s) × (late i ≡ slot_late s → ⊥)

swaps : (s : Slot) → Swaps s (slot_swapped s)
unfolding Swaps
swaps = swap_cases Swaps (λ s. tt) (λ d a b differ. (refl, differ))

inner_swap : (i : Instruction) (ss : List Slot) → Inner ss → written i ≡ slot_result (get_or ss 0 nop) → Inner (slot.Word i ∷ drop 1 ss)
unfolding Inner
inner_swap i [] n e = (tt, tt)
inner_swap i (s ∷ []) n e = (tt, tt)
inner_swap i (s ∷ t ∷ ss) (m, n) e = (⊎_elim (λ z. inl z) (λ z. inr (e ∙ z)) m, n)

quiet_not : (result : ℕ) (s : Slot) → clash result s ≡ false → Quiet result s
quiet_not result s e p q = false≢true (sym e ∙ and_from (ltb 0 result) (eqb (slot_late s) result) (lt-ltb 0 result p) (eq-eqb (slot_late s) result q))

mended_safe : (result : ℕ) (ss : List Slot) → Inner ss → Safe result (mended (mend_of result (get_or ss 0 nop)) ss)
unfolding Safe Inner Swaps
mended_safe result ss n = go (cases_Bool (clash result s))
  where
    s : Slot
    s = get_or ss 0 nop

    hit : (o : Option Instruction) → Swaps s o → slot_late s ≡ result → Safe result (mended (mend_by o) ss)
    hit None w l = safe_inner result (nop ∷ ss) (start' ss, n) (λ h p e. omega arith)
      where
        start' : (ss : List Slot) → Next 0 ss
        start' [] = tt
        start' (t ∷ ss) = inr refl
    hit (Some i) (w, d) l = safe_inner result (slot.Word i ∷ drop 1 ss) (inner_swap i ss n w) (λ h p e. d (e ∙ sym l))

    go : (clash result s ≡ true) ⊎ (clash result s ≡ false) → Safe result (mended (mend_of result s) ss)
    go (inl e) =
        subst (λ x. Safe result (mended (cond x (mend_by (slot_swapped s)) mend.Keep) ss)) (sym e)
        (hit (slot_swapped s) (swaps s) (eqb-true (slot_late s) result (and_parts (ltb 0 result) (eqb (slot_late s) result) e).1))
    go (inr e) = subst (λ x. Safe result (mended (cond x (mend_by (slot_swapped s)) mend.Keep) ss)) (sym e) (safe_inner result ss n (λ h. quiet_not result s e))

pub slots_safe : (result : ℕ) (b : Body) (r : Record) → Safe result (slots result b r)
slots_safe result b r = mended_safe result (template b r) (inner b r)

-- the result before the word at k
unfoldable pub before : ℕ → List Slot → ℕ → ℕ
before result ss zero = result
before result ss (suc k) = slot_result (get_or ss k nop)

pub safe_at : (result : ℕ) (ss : List Slot) (k : ℕ) → Safe result ss → k < length ss → Quiet (before result ss k) (get_or ss k nop)
unfolding Safe before
safe_at result [] k h lt = absurd (omega arith)
safe_at result (s ∷ ss) zero (q, h) lt = q
safe_at result (s ∷ ss) (suc zero) (q, h) lt = safe_at (slot_result s) ss zero h (omega arith)
safe_at result (s ∷ ss) (suc (suc k)) (q, h) lt = safe_at (slot_result s) ss (suc k) h (omega arith)

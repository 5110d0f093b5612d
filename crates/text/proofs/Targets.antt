-- The branches and calls of an accepted listing reach their targets.
use Rattle.std.proofs.Common.{◌≡◌, ℕ, ◌+◌, ◌-◌, ◌*◌, ◌/◌, ◌%◌, ◌<◌, ◌≤◌, true, false, not, eqb, ltb, leb, List, [], ◌∷◌, length, get_or, ℤ, pos, negsuc, ◌-ℤ◌, Some, None, Ok, sym, refl, ap, ◌∙◌, arith}
use Rattle.std.proofs.lemmas.Int.{ints}
use Rattle.std.proofs.lemmas.Bool.{cond_both, cond-true, cond-false, lt-ltb, le-ltb, leb-true, ltb-true, eqb-true, and_parts, not-false, false≢true}
use Rattle.isa.specs.declared.instructions.Condition.{Condition}
use Rattle.isa.specs.declared.instructions.Instruction.TheVariants as word
use Rattle.isa.specs.Words.{read_word}
use Rattle.isa.specs.Immediates.{branch_target}
use Rattle.listing.specs.declared.records.Operation.TheVariants as operation
use Rattle.listing.specs.declared.records.Record.{Record}
use Rattle.listing.specs.declared.items.Body.{Body}
use Rattle.listing.specs.declared.items.First.TheVariants as first
use Rattle.listing.specs.declared.items.Rest.TheVariants as rest
use Rattle.listing.specs.declared.items.Item.TheVariants.{Words}
use Rattle.listing.specs.declared.items.Slot.{Slot}
use Rattle.listing.specs.declared.items.Slot.TheVariants as slot
use Rattle.listing.specs.declared.items.Mend.TheVariants as mend
use Rattle.listing.specs.Numbers.{bits16, within}
use Rattle.listing.specs.Reading.{record_at}
use Rattle.listing.specs.Meaning.{meaning, meaning_of}
use Rattle.listing.specs.Slots.{slots, nop, slot_late, slot_swapped, clash, mend_by, mend_of, mended}
use Rattle.text.specs.declared.places.Place.{Place}
use Rattle.text.specs.Layout.{laid, layout_refused}
use Rattle.text.specs.Image.{distance, filled, image, text_length, word_at}
use Rattle.text.specs.Values.{outside, near, reaches, value_refused}
use Rattle.text.specs.Targets.{Branches, Calls, TargetsReached}
use Rattle.text.proofs.Stand.{known}

-- a sum of even numbers
odd_not : (a b c : ℕ) → a % 2 ≡ 0 → c % 2 ≡ 0 → b + (a + 4) ≡ c → b ≡ 2 * (b / 2)
odd_not a b c ea ec e = omega arith

ahead : (at n m : ℕ) → at % 2 ≡ 0 → n < 65536 → n % 2 ≡ 0 → m ≤ 254 → m + (at + 4) ≡ n → branch_target at (m % 65536 / 2 % 256) ≡ n
ahead at n m ea small en le e =
    let em : m ≡ 2 * (m / 2) = odd_not at m n ea en e in
    let d : m % 65536 / 2 % 256 ≡ m / 2 = omega arith in
    let lt : m / 2 < 128 = omega arith in
    let sum : at + 4 + m / 2 * 2 ≡ n = omega arith in
    let whole : n % 65536 ≡ n = omega arith in
    ap (branch_target at) d ∙ ap (λ k. (at + 4 + k * 2) % 65536) (cond-true (ltb (m / 2) 128) (m / 2) (m / 2 + 65280) (lt-ltb (m / 2) 128 lt))
    ∙ ap (λ k. k % 65536) sum ∙ whole

back : (at n m : ℕ) → at % 2 ≡ 0 → n < 65536 → n % 2 ≡ 0 → m ≤ 255 → n + (m + 1) ≡ at + 4 → branch_target at ((65535 - m % 65536) / 2 % 256) ≡ n
back at n m ea small en le e =
    let em : m ≡ 2 * (m / 2) + 1 = omega arith in
    let k : ℕ = m / 2 in
    let d : (65535 - m % 65536) / 2 % 256 ≡ 255 - k = omega arith in
    let ge : 128 ≤ 255 - k = omega arith in
    let sum : at + 4 + (255 - k + 65280) * 2 ≡ n + 131072 = omega arith in
    let whole : (n + 131072) % 65536 ≡ n = omega arith in
    ap (branch_target at) d ∙ ap (λ j. (at + 4 + j * 2) % 65536) (cond-false (ltb (255 - k) 128) (255 - k) (255 - k + 65280) (le-ltb (255 - k) 128 ge))
    ∙ ap (λ j. j % 65536) sum ∙ whole

-- the displacement of a branch that is near its target leads there
branch_kept : (at n : ℕ) → at % 2 ≡ 0 → n < 65536 → n % 2 ≡ 0 → within (negsuc 255) (pos 254) (distance at (pos n)) ≡ true
    → branch_target at (bits16 (distance at (pos n)) / 2 % 256) ≡ n
branch_kept at n ea small en h = go (distance at (pos n)) refl h
  where
    go : (z : ℤ) → z ≡ pos n -ℤ pos (at + 4) → within (negsuc 255) (pos 254) z ≡ true → branch_target at (bits16 z / 2 % 256) ≡ n
    go (pos m) e h = ahead at n m ea small en (leb-true m 254 (and_parts true (leb m 254) h).1) (omega (arith, ints))
    go (negsuc m) e h = back at n m ea small en (leb-true m 255 (and_parts (leb m 255) true h).0) (omega (arith, ints))

call_kept : (n : ℕ) → n < 65536 → bits16 (pos n) % 16 ≡ 0 → bits16 (pos n) / 16 * 16 ≡ n
call_kept n small e = omega arith

-- a word that reads no register late is never mended
unmended : (result : ℕ) (s : Slot) → slot_late s ≡ 0 → mended (mend_of result s) (s ∷ []) ≡ s ∷ []
unmended result s e =
    cond_both (clash result s) (mend_by (slot_swapped s)) mend.Keep (λ m. mended m (s ∷ []) ≡ s ∷ [])
    (λ h. let both = and_parts (ltb 0 result) (eqb (slot_late s) result) h in
    let more = ltb-true 0 result both.0 in
    let is = eqb-true (slot_late s) result both.1 in
    absurd (omega arith))
    (λ _. refl)

-- a target of sixteen bits
record Target (v : ℤ) : Type 0 where
  number : ℕ
  is : v ≡ pos number
  small : number < 65536

target : (v : ℤ) → not (within (pos 0) (pos 65535) v) ≡ false → Target v
target (pos n) h = record { number = n; is = refl; small = let le = leb-true n 65535 (and_parts (leb 0 n) (leb n 65535) (not-false _ h)).1 in omega arith }
target (negsuc n) h = absurd (false≢true (sym h))

module _ (l : List ℕ) (ok : layout_refused l (length l / 8) ≡ None)
    (values : value_refused l (length l / 8) (text_length l (length l / 8)) (laid l (length l / 8)).labels ≡ None) where
  branches : (n : ℕ) (r : Record) (c : Condition) → n < length l / 8 → record_at l n ≡ Some r → r.operation ≡ operation.Branch c → Branches l (laid l n).place.text r c
  branches n r c lt e o =
      let b : Body = record { first = first.Branch c; rest = rest.Nothing; negated = false } in
      let p : Place = (laid l n).place in
      let at : ℕ = p.text in
      let m : meaning r ≡ Words b = ap (λ x. meaning_of x r.rd r.ra r.rb) o in
      let k = known l ok values n r b lt e m in
      let v : ℤ = k.checks.value in
      let t = target v (ap (λ i. outside i v) (sym m) ∙ k.checks.inside) in
      let one : slots p.result b r ≡ slot.Branch c ∷ [] = unmended p.result (slot.Branch c) refl in
      let at_zero : at + 2 * 0 ≡ at = omega arith in
      let reads : read_word (word_at (image l) at) ≡ Ok (word.Branch c (bits16 (distance at v) / 2 % 256)) =
      ap (λ a. read_word (word_at (image l) a)) (sym at_zero) ∙ k.stand 0 (let long = ap length one in omega (arith, long))
      ∙ (λ j. Ok (filled v (at_zero j) (get_or (one j) 0 nop))) in
      let near' : near at (pos t.number) ≡ true = ap (near at) (sym t.is) ∙ ap (λ i. reaches i at v) (sym m) ∙ k.checks.reached in
      let both = and_parts (eqb (bits16 (pos t.number) % 2) 0) (within (negsuc 255) (pos 254) (distance at (pos t.number))) near' in
      let half = eqb-true (bits16 (pos t.number) % 2) 0 both.0 in
      let small = t.small in
      let even : t.number % 2 ≡ 0 = omega arith in
      record {
        target = t.number;
        given = k.checks.given ∙ ap Some t.is;
        displacement = bits16 (distance at (pos t.number)) / 2 % 256;
        stands = reads ∙ ap (λ z. Ok (word.Branch c (bits16 (distance at z) / 2 % 256))) t.is;
        reaches = branch_kept at t.number k.even t.small even both.1;
      }

  calls : (n : ℕ) (r : Record) → n < length l / 8 → record_at l n ≡ Some r → r.operation ≡ operation.Call → Calls l (laid l n).place.text r
  calls n r lt e o =
      let b : Body = record { first = first.Call; rest = rest.Nothing; negated = false } in
      let p : Place = (laid l n).place in
      let at : ℕ = p.text in
      let m : meaning r ≡ Words b = ap (λ x. meaning_of x r.rd r.ra r.rb) o in
      let k = known l ok values n r b lt e m in
      let v : ℤ = k.checks.value in
      let t = target v (ap (λ i. outside i v) (sym m) ∙ k.checks.inside) in
      let one : slots p.result b r ≡ slot.Call ∷ [] = unmended p.result slot.Call refl in
      let at_zero : at + 2 * 0 ≡ at = omega arith in
      let reads : read_word (word_at (image l) at) ≡ Ok (word.Call (bits16 v / 16)) =
      ap (λ a. read_word (word_at (image l) a)) (sym at_zero) ∙ k.stand 0 (let long = ap length one in omega (arith, long))
      ∙ (λ j. Ok (filled v (at_zero j) (get_or (one j) 0 nop))) in
      let whole : eqb (bits16 (pos t.number) % 16) 0 ≡ true =
      ap (λ z. eqb (bits16 z % 16) 0) (sym t.is) ∙ ap (λ i. reaches i at v) (sym m) ∙ k.checks.reached in
      record {
        target = t.number;
        given = k.checks.given ∙ ap Some t.is;
        held = bits16 (pos t.number) / 16;
        stands = reads ∙ ap (λ z. Ok (word.Call (bits16 z / 16))) t.is;
        reaches = call_kept t.number t.small (eqb-true (bits16 (pos t.number) % 16) 0 whole);
      }

  pub targets_reached : TargetsReached l
  targets_reached = (branches, calls)

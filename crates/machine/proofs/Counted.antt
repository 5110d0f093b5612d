-- What the core's chains of iterators count and test, as their definitions say it.
use Rattle.std.proofs.Common.{◌≡◌, ℕ, zero, suc, ◌+◌, ◌-◌, ◌<◌, ◌≤◌, Bool, true, false, cond, not, ◌&&◌, ◌==◌, List, [], ◌∷◌, take, drop, map, length, get_or, min, sym, refl, ap, ◌∙◌, arith}
use Rattle.std.specs.List.{count_by, list_all, range_with_len, zip}
use Rattle.std.proofs.Math.Bool.{and-true}
use Rattle.std.proofs.lemmas.List.{take_all, get_or-drop, length-drop}
use Rattle.std.proofs.lemmas.List.Folds.{list_all-append, list_all-map}
use Rattle.std.proofs.lemmas.List.FromFn.{map-range_with_len_more}
use Rattle.std.proofs.lemmas.List.Sums.{sum_by_more}
use Rattle.std.proofs.lemmas.Slice.Zip.{get_or-zip, length-zip}
use Rattle.machine.specs.Checks.{differing}
use Rattle.machine.specs.Loads.{open_below}

-- the first n addresses are open where each of the numbers below n is
pub open_range : (o : ℕ → Bool) (n : ℕ) → list_all o (range_with_len 0 n) ≡ open_below o n
open_range o zero = refl
open_range o (suc n) =
    let all : List Bool → Bool = list_all (λ q. q) in
    let one : suc n ≡ n + 1 = omega arith in
    ap (λ k. list_all o (range_with_len 0 k)) one
    ∙ sym (list_all-map (λ q. q) o (range_with_len 0 (n + 1)))
    ∙ ap all (map-range_with_len_more o 0 n n (omega arith))
    ∙ list_all-append (λ q. q) (map o (range_with_len 0 n)) (o n ∷ [])
    ∙ ap (λ q. q && (o n && true)) (list_all-map (λ q. q) o (range_with_len 0 n) ∙ open_range o n)
    ∙ ap (λ q. open_below o n && q) (and-true (o n))

-- a register that differs from its copy
abbrev pub unequal : ℕ × ℕ → Bool
unequal p = not (p.0 == p.1)

one_more : (q : Bool) → cond {A = ℕ} (not q) 1 0 ≡ cond q 0 1
one_more true = refl
one_more false = refl

module _ (xs ys : List ℕ) (long : length xs ≡ 16) (alike : length ys ≡ 16) where
  abbrev pairs : List (ℕ × ℕ)
  pairs = drop 1 (zip xs ys)

  fifteen : length pairs ≡ 15
  fifteen =
      length-drop 1 (zip xs ys)
      ∙ ap (λ k. k - 1) (length-zip xs ys ∙ ap (λ k. min k (length ys)) long ∙ ap (min 16) alike)

  pair_at : (n : ℕ) → n < 15 → get_or pairs n (0, 0) ≡ (get_or xs (n + 1) 0, get_or ys (n + 1) 0)
  pair_at n h =
      let e : 1 + n ≡ n + 1 = omega arith in
      get_or-drop 1 (zip xs ys) n (0, 0) ∙ ap (λ k. get_or (zip xs ys) k (0, 0)) e ∙ get_or-zip xs ys (n + 1) (0, 0) (omega arith) (omega arith)

  counted : (n : ℕ) → n ≤ 15 → count_by unequal (take n pairs) ≡ differing xs ys n
  counted zero h = refl
  counted (suc n) h =
      let before = counted n (omega arith) in
      let long = fifteen in
      let one : suc n ≡ n + 1 = omega arith in
      ap (λ k. count_by unequal (take k pairs)) one
      ∙ sum_by_more (λ p. cond (unequal p) 1 0) pairs n (0, 0) (omega arith)
      ∙ ap (λ k. k + cond {A = ℕ} (unequal (get_or pairs n (0, 0))) 1 0) before
      ∙ ap (λ (p : ℕ × ℕ). differing xs ys n + cond {A = ℕ} (unequal p) 1 0) (pair_at n (omega arith))
      ∙ ap (λ k. differing xs ys n + k) (one_more (get_or xs (n + 1) 0 == get_or ys (n + 1) 0))

  -- the pairs past the first that differ are the registers r1 to r15 that differ from their copies
  pub counted_pairs : count_by unequal pairs ≡ differing xs ys 15
  counted_pairs =
      let long = fifteen in
      ap (count_by unequal) (sym (take_all 15 pairs (omega arith))) ∙ counted 15 (omega arith)

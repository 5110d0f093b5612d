-- A store through a page table stays within the frames that it names.
use Rattle.std.proofs.Common.{◌≡◌, ℕ, zero, suc, ◌/◌, ◌<◌, true, cond, List, get_or, set, ap, ◌∙◌, inl, inr, arith, get_or-set_other}
use Rattle.std.proofs.lemmas.Bool.{cases_eq}
use Rattle.std.proofs.lemmas.Bool.Decides.{nat_tests}
use Rattle.memory.specs.Pages.{frame, named, named_below, place, word_of}

-- the frame of a page word is named
named_frame : (words : List ℕ) (n i : ℕ) → i < n → named_below words n (frame (get_or words i 0)) ≡ true
unfolding named_below
named_frame words zero i h = absurd (omega arith)
named_frame words (suc n) i h = elim (cases_eq i n) [
  | inl last ↦ rw last (grind (arith, nat_tests))
  | inr other ↦ let more : named_below words n (frame (get_or words i 0)) ≡ true = named_frame words n i (omega arith) in grind (arith, nat_tests)
]

-- the place of an address lies in a frame that is named
pub named_place : (words : List ℕ) (a : ℕ) → a < 65536 → named words (place words a / 4096) ≡ true
named_place words a h =
    let e : place words a / 4096 ≡ frame (word_of words a) = omega arith in
    ap (named words) e ∙ named_frame words 16 (a / 4096) (omega arith)

-- so a store at an address leaves the other frames as they are
pub apart_kept : (words buffer : List ℕ) (a v p : ℕ) → a < 65536
    → cond (named words (p / 4096)) 0 (get_or (set buffer (place words a) v) p 0) ≡ cond (named words (p / 4096)) 0 (get_or buffer p 0)
apart_kept words buffer a v p h = elim (cases_eq p (place words a)) [
  | inl same ↦ let e : named words (p / 4096) ≡ true = ap (λ q. named words (q / 4096)) same ∙ named_place words a h in rw e
  | inr other ↦ ap (cond (named words (p / 4096)) 0) (get_or-set_other buffer (place words a) p v 0 other)
]

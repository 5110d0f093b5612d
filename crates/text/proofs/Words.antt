-- Bytes and words of a text that has more before or behind.
use Rattle.std.proofs.Common.{◌≡◌, ℕ, ◌+◌, ◌*◌, ◌≤◌, List, ◌++◌, length, get_or, ap, ◌∙◌, arith}
use Rattle.std.proofs.lemmas.List.{get_or_append_left, get_or-append-add}
use Rattle.text.specs.Image.{word_at}

pub past : {A : Type 0} (xs ys : List A) (d : A) (a k : ℕ) → a ≡ length xs + k → get_or (xs ++ ys) a d ≡ get_or ys k d
past xs ys d a k e = ap (λ j. get_or (xs ++ ys) j d) e ∙ get_or-append-add xs ys k d

pub word_front : (t x : List ℕ) (a : ℕ) → a + 2 ≤ length t → word_at (t ++ x) a ≡ word_at t a
word_front t x a h =
    let p : get_or (t ++ x) a 0 ≡ get_or t a 0 = get_or_append_left t x 0 a (omega arith) in
    let q : get_or (t ++ x) (a + 1) 0 ≡ get_or t (a + 1) 0 = get_or_append_left t x 0 (a + 1) (omega arith) in
    λ j. p j * 256 + q j

pub word_past : (t x : List ℕ) (a k : ℕ) → a ≡ length t + k → word_at (t ++ x) a ≡ word_at x k
word_past t x a k e =
    let p = past t x 0 a k e in
    let q = past t x 0 (a + 1) (k + 1) (omega arith) in
    λ j. p j * 256 + q j

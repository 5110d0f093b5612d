-- What follows the words does not matter.
use Rattle.std.proofs.Common.{◌≡◌, ℕ, zero, suc, ◌+◌, ◌*◌, ◌≤◌, max, cond, List, ◌++◌, length, take, drop, sym, refl, ap, ◌∙◌, arith, take-append-drop, length-take-le}
use lib.Seq.{take-append-le}
use Rattle.isa.specs.Registers.{reads_interlocked}
use Rattle.text.specs.Runs.{locked, current, longest}
use Rattle.text.proofs.Words.{word_front}

locked_front : (xs ys : List ℕ) (n : ℕ) → 2 * n + 2 ≤ length xs → locked (xs ++ ys) n ≡ locked xs n
locked_front xs ys n h = ap reads_interlocked (word_front xs ys (2 * n) h)

current_front : (xs ys : List ℕ) (n : ℕ) → 2 * n ≤ length xs → current (xs ++ ys) n ≡ current xs n
unfolding current
current_front xs ys zero h = refl
current_front xs ys (suc n) h =
    let p = locked_front xs ys n (omega arith) in
    let q = current_front xs ys n (omega arith) in
    λ j. cond (p j) (q j + 1) 0

pub longest_front : (xs ys : List ℕ) (n : ℕ) → 2 * n ≤ length xs → longest (xs ++ ys) n ≡ longest xs n
unfolding longest
longest_front xs ys zero h = refl
longest_front xs ys (suc n) h =
    let p = longest_front xs ys n (omega arith) in
    let q = current_front xs ys (suc n) h in
    λ j. max (p j) (q j)

-- the words of a list do not depend on what follows them, nor on where it is cut
pub longest_take : (xs ys : List ℕ) (m n : ℕ) → 2 * n ≤ m → m ≤ length xs → longest (take m (xs ++ ys)) n ≡ longest xs n
longest_take xs ys m n h le =
    let zs : List ℕ = take m xs in
    let long : length zs ≡ m = length-take-le m xs le in
    ap (λ x. longest x n) (take-append-le m xs ys le)
    ∙ sym (longest_front zs (drop m xs) n (omega arith))
    ∙ ap (λ x. longest x n) (take-append-drop m xs)

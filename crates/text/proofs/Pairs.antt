-- The pairs of bytes of a text are its words.
use Rattle.std.proofs.Common.{◌≡◌, ℕ, zero, suc, ◌+◌, ◌*◌, ◌<◌, ◌≤◌, ◌/◌, List, [], ◌∷◌, length, get_or, take, ◌∙◌, arith, w16}
use Rattle.std.proofs.lemmas.List.{get_or-take, length-take}
use Rattle.std.specs.Int.{from_be_bytes}
use Rattle.std.specs.Simd.{first_chunks}
use Rattle.text.specs.Image.{word_at}

pub pair_word : (t : List ℕ) (m k : ℕ) → k < m → 2 * m ≤ length t → from_be_bytes w16 (get_or (first_chunks 2 m t) k []) ≡ word_at t (2 * k)
pair_word t zero k lt le = absurd (omega arith)
pair_word [] (suc m) k lt le = absurd (omega arith)
pair_word (x ∷ []) (suc m) k lt le = absurd (omega arith)
pair_word (x ∷ y ∷ t) (suc m) zero lt le = omega arith
pair_word (x ∷ y ∷ t) (suc m) (suc k) lt le =
    let at : suc (suc (2 * k)) ≡ 2 * suc k = omega arith in
    let next : suc (suc (2 * k + 1)) ≡ 2 * suc k + 1 = omega arith in
    pair_word t m k (omega arith) (omega arith) ∙ (λ j. get_or (x ∷ y ∷ t) (at j) 0 * 256 + get_or (x ∷ y ∷ t) (next j) 0)

-- the bytes of the front of a text are its bytes
pub front_byte : (n : ℕ) (t : List ℕ) (i : ℕ) → i < length (take n t) → get_or (take n t) i 0 ≡ get_or t i 0
front_byte n t i h = get_or-take n t i 0 (omega (arith, length-take n t))

-- so the pairs of a front of a text are its words too
pub front_word : (s t : List ℕ) (k : ℕ) → ((i : ℕ) → i < length s → get_or s i 0 ≡ get_or t i 0) → k < length s / 2
    → from_be_bytes w16 (get_or (first_chunks 2 (length s / 2) s) k []) ≡ word_at t (2 * k)
front_word s t k same lt =
    pair_word s (length s / 2) k lt (omega arith) ∙ (λ j. same (2 * k) (omega arith) j * 256 + same (2 * k + 1) (omega arith) j)

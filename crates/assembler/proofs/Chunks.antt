-- A listing cut into chunks of eight bytes.
use Rattle.std.proofs.Common.{◌≡◌, ℕ, zero, suc, ◌+◌, ◌*◌, ◌<◌, List, [], get_or, take, drop, refl, ap, ◌∙◌, arith}
use Rattle.std.specs.Simd.{first_chunks}
use Rattle.std.proofs.lemmas.Simd.{get_or-chunk}
use Rattle.std.proofs.lemmas.List.{drop-drop}
use lib.Lanes.{chunk}
use Rattle.listing.specs.Reading.{wide, record_of, read_record, record_at}

-- the chunk at an index
chunk_at : (l : List ℕ) (n i : ℕ) → i < n → get_or (first_chunks 8 n l) i [] ≡ chunk (8 * i) 8 l
chunk_at l zero i h = absurd (omega arith)
chunk_at l (suc n) zero h = refl
chunk_at l (suc n) (suc i) h =
    chunk_at (drop 8 l) n i (omega arith) ∙ ap (take 8) (drop-drop (8 * i) 8 l ∙ ap (λ k. drop k l) (omega arith))

-- four bytes of a chunk
wide_chunk : (l : List ℕ) (m k : ℕ) → k + 3 < 8 → wide (chunk m 8 l) k ≡ wide l (m + k)
wide_chunk l m k h =
    let at : (a b : ℕ) → a < 8 → m + a ≡ b → get_or (chunk m 8 l) a 0 ≡ get_or l b 0 =
    λ a b lt e. get_or-chunk m 8 l a 0 lt ∙ ap (λ n. get_or l n 0) e in
    let p = at k (m + k) (omega arith) (omega arith) in
    let q = at (k + 1) (m + k + 1) (omega arith) (omega arith) in
    let r = at (k + 2) (m + k + 2) (omega arith) (omega arith) in
    let s = at (k + 3) (m + k + 3) (omega arith) (omega arith) in
    λ j. p j * 16777216 + q j * 65536 + r j * 256 + s j

-- it reads as the record at its index
pub chunk_reads : (l : List ℕ) (n i : ℕ) → i < n → read_record (get_or (first_chunks 8 n l) i []) ≡ record_at l i
chunk_reads l n i h =
    let m : ℕ = 8 * i in
    let e : m + 0 ≡ m = omega arith in
    let head = wide_chunk l m 0 (omega arith) ∙ ap (wide l) e in
    let tail = wide_chunk l m 4 (omega arith) in
    ap read_record (chunk_at l n i h) ∙ (λ j. record_of (head j) (tail j))

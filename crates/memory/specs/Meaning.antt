-- What a memory means, and what it keeps of its buffer.
use Rattle.std.specs.Prelude.{◌≡◌, ℕ, ◌%◌, ◌<◌, ◌≤◌, Bool, false, cond, ◌&&◌, List, [], length, ◌==◌, nat_lt, slice_index}

-- for each address a byte and a mark, open (true) or closed
pub record Meaning : Type 0 where
  pub byte : ℕ → ℕ
  pub mark : ℕ → Bool

-- a byte is below 256; past the 65,536 addresses every meaning is 0xFF and closed, so that meanings are equal where they agree at every address
pub record Lawful (m : Meaning) : Type 0 where
  pub small : (a : ℕ) → m.byte a < 256
  pub beyond : (a : ℕ) → 65536 ≤ a → (m.byte a ≡ 255) × (m.mark a ≡ false)

-- two memories have the same byte and the same mark at an address
abbrev pub AgreeAt : Meaning → Meaning → ℕ → Type 0
AgreeAt m n a = (m.byte a ≡ n.byte a) × (m.mark a ≡ n.mark a)

-- a store at an open address sets that byte alone; at a closed one it alters nothing
abbrev pub stored : Meaning → ℕ → ℕ → Meaning
stored m a v = record { byte = λ k. cond (m.mark a && k == a) v (m.byte k); mark = m.mark }

-- what a memory keeps of its buffer and never alters: the ghost name of the loan, the page words,
-- the buffer's length, and the byte at each place that no address reaches (0 at the others)
pub record Loan : Type 0 where
  pub name : ℕ
  pub pages : List ℕ
  pub size : ℕ
  pub apart : ℕ → ℕ

-- the byte at a place of a buffer where the test says that it is reached, else 0xFF
abbrev pub held : Bool → List ℕ → ℕ → ℕ
held reached buffer place = cond reached (slice_index buffer place % 256) 255

-- flat memory: an address is open where it lies in the buffer
abbrev pub flat_mark : List ℕ → ℕ → Bool
flat_mark buffer a = nat_lt a 65536 && nat_lt a (length buffer)

-- flat memory: address by address; what lies beyond the buffer reads 0xFF and is closed
abbrev pub flat : List ℕ → Meaning
flat buffer = record { byte = λ a. held (flat_mark buffer a) buffer a; mark = flat_mark buffer }

-- flat memory reaches the first 65,536 places
abbrev pub flat_loan : ℕ → List ℕ → Loan
flat_loan name buffer = record { name = name; pages = []; size = length buffer; apart = λ p. cond (nat_lt p 65536) 0 (slice_index buffer p) }

-- Storing an image byte by byte.
use Rattle.std.proofs.Common.{◌≡◌, ℕ, ◌<◌, ◌≤◌, false, List, refl, inl, inr, arith}
use Rattle.std.proofs.lemmas.Bool.{cases_lt, lt-ltb}
use Rattle.std.proofs.lemmas.Bool.Decides.{nat_tests}
use Rattle.memory.specs.Meaning.{Lawful, Meaning}
use Rattle.memory.specs.Words.{stored_first}
use Rattle.memory.proofs.Extent.{meaning_ext}

-- past the last address an image stores nothing
pub stored_past : (m : Meaning) → Lawful m → (image : List ℕ) (n : ℕ) → 65536 ≤ n → stored_first m image 65536 ≡ stored_first m image n
stored_past m lawful image n h =
    meaning_ext _ _
    (λ a. elim (cases_lt a 65536) [
      | inl below ↦ let far : a < n = omega arith in rw (lt-ltb a 65536 below, lt-ltb a n far)
      | inr past ↦ let shut : m.mark a ≡ false = (lawful.beyond a past).1 in grind (arith, nat_tests)
    ])
    (λ a. refl)

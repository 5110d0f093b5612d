-- Memories on boards: what a board keeps of the one that it borrows, and where two are the same.
use Rattle.std.specs.Prelude.{◌≡◌, ℕ, false}
use Rattle.std.specs.Borrow.{MutBor}
use Rattle.memory.specs.Meaning.{Loan}
use Rattle.machine.specs.declared.states.Layout.{Layout}
use Rattle.machine.specs.Layouts.{inside}
use Rattle.rehearsal.specs.declared.pairs.Pair.{Pair}

-- the same reference, behind which the memory keeps the same of its own buffer
abbrev pub Holds : {M : Type 0} → (M → Loan) → MutBor M → MutBor M → Type 0
Holds loan before after = (after.ghost_name ≡ before.ghost_name) × (loan after.now ≡ loan before.now)

-- both boards of a pair hold what they held
abbrev pub HoldBoth : {M N : Type 0} → (M → Loan) → (N → Loan) → Pair M N → Pair M N → Type 0
HoldBoth loan twin_loan before after =
    Holds loan before.first.memory after.first.memory × Holds twin_loan before.twin.memory after.twin.memory

-- the byte at an address is the same, unless the address is in the service range
abbrev pub SameByte : Layout → (ℕ → ℕ) → (ℕ → ℕ) → ℕ → Type 0
SameByte l b c a = inside l a ≡ false → b a ≡ c a

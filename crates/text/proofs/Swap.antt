-- Only a sum is swapped.
use Rattle.std.proofs.Common.{◌≡◌, ℕ, eqb, Some, None, Option}
use Rattle.std.proofs.lemmas.Bool.{cond_both, eqb-false}
use Rattle.isa.specs.declared.instructions.Instruction.{Instruction}
use Rattle.isa.specs.declared.instructions.Instruction.TheVariants as word
use Rattle.listing.specs.declared.items.Slot.{Slot}
use Rattle.listing.specs.declared.items.Slot.TheVariants as slot
use Rattle.listing.specs.Slots.{slot_swapped}

-- what holds where nothing is swapped, and of each sum of two registers, holds
pub swap_cases : (P : Slot → Option Instruction → Type 0) → ((s : Slot) → P s None)
    → ((d a b : ℕ) → (a ≡ b → ⊥) → P (slot.Word (word.Add d a b)) (Some (word.Add d b a))) → (s : Slot) → P s (slot_swapped s)
swap_cases P n y (slot.Word (word.Add d a b)) =
    cond_both (eqb a b) None (Some (word.Add d b a)) (P (slot.Word (word.Add d a b))) (λ _. n (slot.Word (word.Add d a b))) (λ e. y d a b (eqb-false a b e))
swap_cases P n y s = n s

-- The word that closes a service goes back to the counter that was kept, and every register is as it was.
use Rattle.std.proofs.Common.{◌≡◌, ℕ, ◌+◌, ◌*◌, ◌/◌, ◌%◌, ◌<◌, ◌≤◌, true, List, length, get_or, sym, refl, ap, ◌∙◌, inl, inr, arith, Some}
use Rattle.std.proofs.lemmas.Grind.{same_number_lists}
use Rattle.std.proofs.lemmas.Bool.{cases_eq}
use Rattle.isa.specs.Words.{read_word}
use Rattle.machine.specs.declared.states.Side.TheVariants as side
use Rattle.machine.specs.declared.states.State.{State}
use Rattle.machine.specs.declared.states.Plan.{Plan}
use Rattle.machine.specs.Checks.{closes}
use Rattle.machine.specs.Steps.{after}
use Rattle.machine.proofs.Lawful.{Lawful}
use Rattle.machine.proofs.Closing.{keeps_all, closed_state}

-- lists of sixteen that agree at 0 and from 1 to 15 are the same
same_sixteen : (xs ys : List ℕ) → length xs ≡ 16 → length ys ≡ 16 → get_or xs 0 0 ≡ get_or ys 0 0
    → ((k : ℕ) → 1 ≤ k → k ≤ 15 → get_or xs k 0 ≡ get_or ys k 0) → xs ≡ ys
same_sixteen xs ys lx ly z h =
    same_number_lists xs ys (lx ∙ sym ly) (λ k l. elim (cases_eq k 0) [
      | inl e ↦ cc
      | inr e ↦ h k (omega arith) (omega arith)
    ])

back_again : (next r n : ℕ) → next ≡ (r + 0) % 65536 / 2 * 2 → r ≡ n → n % 2 ≡ 0 → n < 65536 → next ≡ n
back_again next r n a b c d = omega arith

module _ (s : State) (copies : List ℕ) (es : s.service ≡ Some copies) (w : ℕ) (p : Plan)
    (l : Lawful s side.Service (closes s side.Service w) (read_word w) p) (shut : p.closes ≡ true) where
  pub gives_all_back : length s.registers ≡ 16 → length copies ≡ 16 → get_or s.registers 0 0 ≡ get_or copies 0 0 → s.registers ≡ copies
  gives_all_back lx ly z = same_sixteen s.registers copies lx ly z (keeps_all s copies es w p l shut)

  pub home_again : get_or copies 14 0 % 2 ≡ 0 → get_or copies 14 0 < 65536 → (b : ℕ → ℕ) → (after s b side.Service p p.effect).counter ≡ get_or copies 14 0
  home_again even small b =
      ap (λ t. t.counter) (closed_state s copies es w p l shut b)
      ∙ back_again _ (get_or s.registers 14 0) (get_or copies 14 0) refl (keeps_all s copies es w p l shut 14 (omega arith) (omega arith)) even small

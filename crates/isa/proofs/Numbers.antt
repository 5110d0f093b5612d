-- No two refusals have one number.
use Rattle.std.proofs.Common.{◌≡◌, ◌-◌, get_or, sym, refl, ap, ◌∙◌}
use Rattle.isa.specs.declared.refusals.Refusal.{Refusal}
use Rattle.isa.specs.declared.refusals.Refusal.TheVariants.{Ragged, Long, Operation, Field, Constant, Misplaced, Twice, Parted, Big, Missing, Value, Reach, Short, Plan, Closed, Busy, Astray, Unknown, Reserved, Hazard, Bare, Count, Odd, Io, Trespass, Unkept, Register, Page}
use Rattle.isa.specs.Refusals.{refusal_number, refusals}

-- a refusal stands in the list at its number
pub listed : (e : Refusal) → get_or refusals (refusal_number e - 1) Page ≡ e
listed = elim [ Ragged ↦ refl | Long ↦ refl | Operation ↦ refl | Field ↦ refl | Constant ↦ refl | Misplaced ↦ refl | Twice ↦ refl | Parted ↦ refl | Big ↦ refl | Missing ↦ refl | Value ↦ refl | Reach ↦ refl | Short ↦ refl | Plan ↦ refl | Closed ↦ refl | Busy ↦ refl | Astray ↦ refl | Unknown ↦ refl | Reserved ↦ refl | Hazard ↦ refl | Bare ↦ refl | Count ↦ refl | Odd ↦ refl | Io ↦ refl | Trespass ↦ refl | Unkept ↦ refl | Register ↦ refl | Page ↦ refl ]

pub same_number : (e f : Refusal) → refusal_number e ≡ refusal_number f → e ≡ f
same_number e f h = sym (listed e) ∙ ap (λ n. get_or refusals (n - 1) Page) h ∙ listed f

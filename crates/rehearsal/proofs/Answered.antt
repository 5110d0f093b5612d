-- When two answers of a step are the same.
use Rattle.std.proofs.Common.{◌≡◌, Ok, Err, Result, ap}
use denote.Enum.Bare.{same_true, true_same}
use Rattle.std.specs.Bool.{Decides}
use Rattle.std.specs.Result.{result_eq}
use Rattle.std.proofs.lemmas.Bool.{and_from, and_parts}
use Rattle.std.proofs.lemmas.Bool.Decides.{Decides-eqb}
use Rattle.isa.specs.contracts.refusals.Refusal as reason
use Rattle.machine.specs.contracts.states.Side as side
use Rattle.machine.specs.contracts.answers.StepPartialEq.TheImpl as steps
use Rattle.machine.specs.contracts.answers.StepRefusalPartialEq.TheImpl as refusals
use Rattle.machine.specs.declared.answers.Step.{Step}
use Rattle.machine.specs.declared.answers.Step.TheVariants as step
use Rattle.machine.specs.declared.answers.StepRefusal.{StepRefusal}

same_steps : (a b : Step) → Decides ((steps.eq-value).it a b) (a ≡ b)
same_steps (step.Taken m) (step.Taken n) = (λ h. ap step.Taken ((Decides-eqb m n).0 h), λ h. (Decides-eqb m n).1 (cc))
same_steps (step.Taken m) (step.Made e) = (λ h. cc, λ h. cc)
same_steps (step.Made d) (step.Taken n) = (λ h. cc, λ h. cc)
same_steps (step.Made d) (step.Made e) = (λ h. ap step.Made (same_true side.the_type tt d e h), λ h. true_same side.the_type d e (cc))

same_refusals : (a b : StepRefusal) → Decides ((refusals.eq-value).it a b) (a ≡ b)
same_refusals a b = (
  λ h.
      let x = and_parts _ _ h in
      let y = and_parts _ _ x.1 in
      let r = same_true reason.the_type tt a.refusal b.refusal x.0 in
      let n = (Decides-eqb a.address b.address).0 y.0 in
      let s = same_true side.the_type tt a.side b.side y.1 in
      λ i. record { refusal = r i; address = n i; side = s i },
  λ h. and_from _ _ (true_same reason.the_type a.refusal b.refusal (ap (λ x. x.refusal) h))
      (and_from _ _ ((Decides-eqb a.address b.address).1 (ap (λ x. x.address) h)) (true_same side.the_type a.side b.side (ap (λ x. x.side) h))),
)

pub same_results : (a b : Result Step StepRefusal) → Decides (result_eq (steps.eq-value).it (refusals.eq-value).it a b) (a ≡ b)
same_results (Ok x) (Ok y) = (λ h. ap Ok ((same_steps x y).0 h), λ h. (same_steps x y).1 (cc))
same_results (Ok x) (Err f) = (λ h. cc, λ h. cc)
same_results (Err e) (Ok y) = (λ h. cc, λ h. cc)
same_results (Err e) (Err f) = (λ h. ap Err ((same_refusals e f).0 h), λ h. (same_refusals e f).1 (cc))

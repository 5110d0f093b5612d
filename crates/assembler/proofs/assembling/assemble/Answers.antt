use Rattle.std.proofs.Common.{◌≡◌, ℕ, ◌/◌, ◌≤◌, List, ◌++◌, length, take, drop, None, Ok, sym, ap, ◌∙◌, subst, arith, length-append, length-take-le}
use Rattle.std.proofs.lemmas.Result.{err_from_is_err_and}
use Rattle.text.specs.declared.outcomes.Answers.{Answers}
use Rattle.text.specs.Image.{text_length, image}
use Rattle.text.specs.Runs.{longest, Longest}
use Rattle.text.specs.Answer.{or_refused, failure, answers}
use Rattle.text.specs.Sizes.{SizesAgree}
use Rattle.text.proofs.Accepted.{acceptance}
use Rattle.text.proofs.Lengths.{image_long}
use Rattle.text.proofs.LongestRun.{longest_is}
use Rattle.text.proofs.Front.{longest_take}
use Rattle.text.proofs.Text.{no_hazard}
use Rattle.text.proofs.Stand.{immediates_kept}
use Rattle.text.proofs.Targets.{targets_reached}
use Rattle.text.proofs.Agree.{sizes_agree}
use Rattle.assembler.specs.Plans.{plan_of, planned}
use Rattle.assembler.proofs.Steps.{answered, refused}
use Rattle.assembler.proofs.assembling.assemble.Goals as goal

pub returns-in_err-plan-clause-value : goal.returns-in_err-plan-clause-value
returns-in_err-plan-clause-value c =
    let l = c.args.listing.now in
    let room = length c.args.image.now in
    let e = c.in_err-plan.field-0.0 in
    let p = err_from_is_err_and c.from_residual-in_err-plan.result c.from_residual-in_err-plan.ensures.1 in
    let told = c.in_err-plan.ensures.value ∙ ap (λ b. planned b room) c.in_ok-listing.ensures.ok in
    rw (p.1, p.2) (sym (ap (λ o. or_refused o (answers l)) (refused (failure l room) (plan_of l) e told)))

pub returns : goal.returns
returns c =
    let l = c.args.listing.now in
    let xs = c.args.image.now in
    let n : ℕ = length l / 8 in
    let bytes = c.in_ok-listing.ensures.ok in
    let told = c.in_ok-plan.ensures in
    let p = c.in_ok-plan.plan in
    let is : p ≡ plan_of l = told.plan ∙ ap plan_of bytes in
    let none : failure l (length xs) ≡ None = answered (failure l (length xs)) (plan_of l) p (told.value ∙ ap (λ b. planned b (length xs)) bytes) in
    let ok = acceptance l (length xs) none in
    let long = image_long l in
    let rest : List ℕ = drop (length (image l)) xs in
    let whole : List ℕ = image l ++ rest in
    let written : c.write_image.new.out ≡ image l = c.write_image.ensures ∙ ap image bytes in
    let after : c.write_image.new.out ++ drop p.image xs ≡ whole =
    λ j. written j ++ drop ((ap (λ q. q.image) is ∙ sym long) j) xs in
    let size : ℕ = text_length l n in
    let fits : size ≤ length (image l) = omega (arith, long) in
    let cut_long : length (take size whole) ≡ size = length-take-le size whole (omega (arith, length-append (image l) rest)) in
    let run : c.longest_run.result ≡ longest (image l) (size / 2) =
    c.longest_run.ensures.value ∙ (λ j. longest (take (is j).text (after j)) (length (take (is j).text (after j)) / 2))
    ∙ ap (λ m. longest (take size whole) (m / 2)) cut_long ∙ longest_take (image l) rest size (size / 2) (omega arith) fits in
    let given : Answers = record { text = p.text; image = p.image; run = c.longest_run.result } in
    let same : given ≡ answers l = λ j. record { text = (is j).text; image = (is j).image; run = run j } in
    record {
      value = ap Ok same ∙ sym (ap (λ o. or_refused o (answers l)) none);
      image = after;
      hazards = no_hazard l ok.laid_out;
      immediates = immediates_kept l ok.laid_out ok.valued;
      targets = targets_reached l ok.laid_out ok.valued;
      run = subst (λ a. Longest (image l) (a.text / 2) a.run) (sym same) (longest_is (image l) (size / 2));
      sizes = subst (SizesAgree l) (sym same) (sizes_agree l (length xs) ok);
    }

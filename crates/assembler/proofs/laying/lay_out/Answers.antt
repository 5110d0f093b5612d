use Rattle.std.proofs.Common.{◌≡◌, ℕ, ◌/◌, Some, None, Err, Option, length, sym, refl, ap, ◌∙◌, subst, add-one, arith}
use Rattle.std.specs.Option.{ok_or, IfSome}
use Rattle.std.proofs.lemmas.Result.{err_from_is_err_and}
use Rattle.isa.specs.declared.refusals.Refusal.TheVariants as refusal
use Rattle.text.specs.declared.outcomes.Refused.{Refused}
use Rattle.listing.specs.Reading.{record_at}
use Rattle.text.specs.Layout.{laid, laid_more, marked_by, layout_refusal, first_refused}
use Rattle.assembler.specs.Found.{record_in}
use Rattle.assembler.proofs.Steps.{refuses, passes}
use Rattle.assembler.proofs.Passes.{lays}
use Rattle.assembler.proofs.laying.lay_out.Goals as goal

pub loop-bytes-init : goal.loop-bytes-init
unfolding laid first_refused
loop-bytes-init c = record {
  index = c.start-walk.ensures.index;
  layout = λ j. record { place = c.start-walk.ensures.place j; labels = c.requires j };
  none = refl;
}

pub returns-in_err-standing-clause-err : goal.returns-in_err-standing-clause-err
returns-in_err-standing-clause-err c =
    let l = c.args.listing.bytes.now in
    let i = c.loop-bytes.bytes-index in
    let inv = c.loop-bytes.invariant in
    let f : ℕ → Option Refused = λ k. layout_refusal (laid l k) (record_at l k) k in
    let e = c.in_err-standing.field-0.0 in
    let p = err_from_is_err_and c.from_residual.result c.from_residual.ensures.1 in
    let none : c.read.result ≡ None = c.in_err-standing.ensures.ok_part in
    let known : record_at l i ≡ None =
    sym (c.records-bytes-items.ensures.records i (omega arith)) ∙ sym c.read.ensures.record ∙ ap record_in none in
    let told : Err e ≡ Err c.refused.result = c.in_err-standing.ensures.value ∙ ap (λ o. ok_or o c.refused.result) none in
    let here : f i ≡ Some e =
    ap (λ o. layout_refusal (laid l i) o i) known
    ∙ (λ j. Some (record { refusal = refusal.Operation; index = sym inv.index j })) ∙ ap Some (sym c.refused.ensures) ∙ cc in
    rw (p.1, p.2) (sym (refuses f e i (length l / 8) inv.none here (omega arith)))

pub returns-in_err-lay-clause-err : goal.returns-in_err-lay-clause-err
returns-in_err-lay-clause-err c =
    let l = c.args.listing.bytes.now in
    let i = c.loop-bytes.bytes-index in
    let inv = c.loop-bytes.invariant in
    let f : ℕ → Option Refused = λ k. layout_refusal (laid l k) (record_at l k) k in
    let s = c.in_ok-standing.standing in
    let got : c.read.result ≡ Some s = c.in_ok-standing.ensures.ok_part in
    let known : record_at l i ≡ Some s.«record» =
    sym (c.records-bytes-items.ensures.records i (omega arith)) ∙ sym c.read.ensures.record ∙ ap record_in got in
    let at : s.walk ≡ c.loop-bytes.walk = subst (λ o. IfSome o (λ s. s.walk ≡ c.loop-bytes.walk)) got c.read.ensures.walk in
    let layout : record { place = s.walk.place; labels = c.loop-bytes.labels.marks } ≡ laid l i =
    (λ j. record { place = (at j).place; labels = c.loop-bytes.labels.marks }) ∙ inv.layout in
    let told = lays l i s.walk.index s.walk.place c.loop-bytes.labels.marks s.«record» (ap (λ w. w.index) at ∙ inv.index) known layout in
    let e = c.in_err-lay.field-0.0 in
    let p = err_from_is_err_and c.from_residual-in_err-lay.result c.from_residual-in_err-lay.ensures.1 in
    let here : f i ≡ Some e = told ∙ sym c.in_err-lay.ensures.value in
    rw (p.1, p.2) (sym (refuses f e i (length l / 8) inv.none here (omega arith)))

pub loop-bytes-preserved : goal.loop-bytes-preserved
unfolding laid
loop-bytes-preserved c =
    let l = c.args.listing.bytes.now in
    let i = c.loop-bytes.bytes-index in
    let inv = c.loop-bytes.invariant in
    let f : ℕ → Option Refused = λ k. layout_refusal (laid l k) (record_at l k) k in
    let s = c.in_ok-standing.standing in
    let got : c.read.result ≡ Some s = c.in_ok-standing.ensures.ok_part in
    let known : record_at l i ≡ Some s.«record» =
    sym (c.records-bytes-items.ensures.records i (omega arith)) ∙ sym c.read.ensures.record ∙ ap record_in got in
    let at : s.walk ≡ c.loop-bytes.walk = subst (λ o. IfSome o (λ s. s.walk ≡ c.loop-bytes.walk)) got c.read.ensures.walk in
    let layout : record { place = s.walk.place; labels = c.loop-bytes.labels.marks } ≡ laid l i =
    (λ j. record { place = (at j).place; labels = c.loop-bytes.labels.marks }) ∙ inv.layout in
    let told = lays l i s.walk.index s.walk.place c.loop-bytes.labels.marks s.«record» (ap (λ w. w.index) at ∙ inv.index) known layout in
    let none : f i ≡ None = told ∙ sym c.in_ok-lay.ensures.value in
    let marks = c.in_ok-lay.ensures.after refl
    ∙ ap (λ m. marked_by m s.walk.place c.loop-bytes.labels.marks s.«record») s.means in
    record {
      index = omega (arith, c.next-walk.ensures.index, ap (λ w. w.index) at);
      layout = rw add-one ((λ j. record { place = c.next-walk.ensures.place j; labels = marks j }) ∙ (λ j. laid_more (layout j) (sym known j)));
      none = rw add-one (passes f i inv.none none);
    }

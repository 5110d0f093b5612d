use Rattle.std.proofs.Common.{◌≡◌, ℕ, ◌/◌, Some, None, Option, length, sym, refl, ap, ◌∙◌, add-one, arith}
use Rattle.std.proofs.lemmas.Result.{err_from_is_err_and}
use Rattle.text.specs.declared.outcomes.Refused.{Refused}
use Rattle.listing.specs.Reading.{record_at}
use Rattle.text.specs.Layout.{laid, after, first_refused}
use Rattle.text.specs.Values.{checked}
use Rattle.text.proofs.Lengths.{place_more}
use Rattle.assembler.proofs.Steps.{refuses, passes}
use Rattle.assembler.proofs.Passes.{checks}
use Rattle.assembler.proofs.checking.check_values.Goals as goal
use Rattle.assembler.proofs.checking.check_values.Goals.{in-Some+in_ok-check_value-in-Some, in-None}

pub loop-bytes-init : goal.loop-bytes-init
unfolding laid first_refused
loop-bytes-init c = record { index = c.start-walk.ensures.index; place = c.start-walk.ensures.place; none = refl }

pub returns-in_err-check_value-in-Some : goal.returns-in_err-check_value-in-Some
returns-in_err-check_value-in-Some c =
    let l = c.args.listing.bytes.now in
    let i = c.loop-bytes.bytes-index in
    let inv = c.loop-bytes.invariant in
    let base = c.args.addresses.base in
    let labels = c.args.addresses.labels.now.marks in
    let f : ℕ → Option Refused = λ k. checked base labels (laid l k).place (record_at l k) k in
    let s = c.in-Some.standing in
    let known = sym (c.records-bytes-items.ensures.records i (omega arith)) ∙ sym c.in-Some.ensures.«record» in
    let index = ap (λ w. w.index) c.in-Some.ensures.walk ∙ inv.index in
    let place = ap (λ w. w.place) c.in-Some.ensures.walk ∙ inv.place in
    let told = checks l i s.walk.index s.walk.place labels s.«record» index known base place in
    let e = c.in_err-check_value-in-Some.field-0.0 in
    let p = err_from_is_err_and c.from_residual.result c.from_residual.ensures.1 in
    let here : f i ≡ Some e = told ∙ sym c.in_err-check_value-in-Some.ensures in
    rw (p.1, p.2) (sym (refuses f e i (length l / 8) inv.none here (omega arith)))

pub loop-bytes-preserved : goal.loop-bytes-preserved
loop-bytes-preserved c =
    let l = c.args.listing.bytes.now in
    let i = c.loop-bytes.bytes-index in
    let inv = c.loop-bytes.invariant in
    let base = c.args.addresses.base in
    let labels = c.args.addresses.labels.now.marks in
    let f : ℕ → Option Refused = λ k. checked base labels (laid l k).place (record_at l k) k in
    let reads = sym (c.records-bytes-items.ensures.records i (omega arith)) in
    elim c.match-read.branch [
      | in-Some+in_ok-check_value-in-Some w ↦
          let s = w.in-Some.standing in
          let known = reads ∙ sym w.in-Some.ensures.«record» in
          let index = ap (λ w. w.index) w.in-Some.ensures.walk ∙ inv.index in
          let place = ap (λ w. w.place) w.in-Some.ensures.walk ∙ inv.place in
          let told = checks l i s.walk.index s.walk.place labels s.«record» index known base place in
          let none : f i ≡ None = told ∙ sym w.in_ok-check_value-in-Some.ensures in
          record {
            index = omega (arith, ap (λ w. w.index) w.walk-is, w.next-walk.ensures.index, ap (λ w. w.index) w.in-Some.ensures.walk);
            place = rw add-one (ap (λ w. w.place) w.walk-is ∙ w.next-walk.ensures.place ∙ (λ j. after (place j) (sym known j)) ∙ sym (place_more l i));
            none = rw add-one (passes f i inv.none none);
          }
      | in-None w ↦
          let known : record_at l i ≡ None = reads ∙ sym w.in-None.ensures.«record» in
          let none : f i ≡ None = ap (λ o. checked base labels (laid l i).place o i) known in
          record {
            index = omega (arith, ap (λ w. w.index) w.walk-is, w.skip-walk.ensures.index);
            place = rw add-one (ap (λ w. w.place) w.walk-is ∙ w.skip-walk.ensures.place ∙ inv.place ∙ ap (after (laid l i).place) (sym known) ∙ sym (place_more l i));
            none = rw add-one (passes f i inv.none none);
          }
    ]

use Rattle.std.proofs.Common.{◌≡◌, ◌+◌, ◌/◌, length, take, None, sym, refl, ap, ◌∙◌, add-one, arith}
use Rattle.listing.specs.declared.items.Section.TheVariants.{Text, Data}
use Rattle.listing.specs.Meaning.{meaning}
use Rattle.listing.specs.Reading.{record_at}
use Rattle.text.specs.Layout.{here, size_of, moved, after, laid}
use Rattle.text.specs.Image.{section_bytes}
use Rattle.text.proofs.Lengths.{place_more}
use Rattle.assembler.proofs.Sections.{room, filled_own, filled_other, one_more, none_more}
use Rattle.assembler.proofs.writing.write_sections.Goals as goal
use Rattle.assembler.proofs.writing.write_sections.Goals.{in-Some, in-Text, in-Data, in-None}

pub loop-bytes-init : goal.loop-bytes-init
unfolding laid section_bytes
loop-bytes-init c =
    let e = c.start-walk.ensures.place in
    record {
      index = c.start-walk.ensures.index;
      place = e;
      text = ap (λ p. take p.text c.args.text.now) e;
      stored = ap (λ p. take p.«data» c.args.«data».now) e;
    }

pub write-requires : goal.write-requires
write-requires c =
    let l = c.args.listing.bytes.now in
    let i = c.loop-bytes.bytes-index in
    let s = c.in-Some.standing in
    let known = sym (c.records-bytes-items.ensures.records i (omega arith)) ∙ sym c.in-Some.ensures.«record» in
    let at = c.in-Some.ensures.walk in
    let size = ap (λ m. m.size) s.adds ∙ ap (λ m. size_of m s.walk.place s.«record») s.means in
    let fits = room s.walk.place s.«record» l i (length l / 8) Text (ap (λ w. w.place) at ∙ c.loop-bytes.invariant.place) known (omega arith)
    (ap (λ w. w.place.section) at ∙ c.in-Text.is) in
    omega (arith, fits, size, c.requires.text)

pub write-requires-in-Data : goal.write-requires-in-Data
write-requires-in-Data c =
    let l = c.args.listing.bytes.now in
    let i = c.loop-bytes.bytes-index in
    let s = c.in-Some.standing in
    let known = sym (c.records-bytes-items.ensures.records i (omega arith)) ∙ sym c.in-Some.ensures.«record» in
    let at = c.in-Some.ensures.walk in
    let size = ap (λ m. m.size) s.adds ∙ ap (λ m. size_of m s.walk.place s.«record») s.means in
    let fits = room s.walk.place s.«record» l i (length l / 8) Data (ap (λ w. w.place) at ∙ c.loop-bytes.invariant.place) known (omega arith)
    (ap (λ w. w.place.section) at ∙ c.in-Data.is) in
    omega (arith, fits, size, c.requires.stored)

pub loop-bytes-preserved : goal.loop-bytes-preserved
loop-bytes-preserved c =
    let l = c.args.listing.bytes.now in
    let i = c.loop-bytes.bytes-index in
    let inv = c.loop-bytes.invariant in
    let base = c.args.addresses.base in
    let labels = c.args.addresses.labels.now.marks in
    let reads = sym (c.records-bytes-items.ensures.records i (omega arith)) in
    elim c.match-read.branch [
      | in-Some w ↦
          let s = w.in-Some.standing in
          let p = s.walk.place in
          let r = s.«record» in
          let known = reads ∙ sym w.in-Some.ensures.«record» in
          let at = ap (λ w. w.place) w.in-Some.ensures.walk in
          let size : s.measure.size ≡ size_of (meaning r) p r = ap (λ m. m.size) s.adds ∙ ap (λ m. size_of m p r) s.means in
          let next = ap (λ w. w.place) w.walk-is ∙ w.next-walk.ensures.place in
          let text = c.loop-bytes.text in
          let stored = c.loop-bytes.«data» in
          let text_before = ap (λ q. take q.text text) at ∙ inv.text in
          let stored_before = ap (λ q. take q.«data» stored) at ∙ inv.stored in
          let index : c.match-read.walk.index ≡ i + 1 =
          omega (arith, ap (λ w. w.index) w.walk-is, w.next-walk.ensures.index, ap (λ w. w.index) w.in-Some.ensures.walk) in
          let place = next ∙ (λ j. after ((at ∙ inv.place) j) (sym known j)) ∙ sym (place_more l i) in
          elim w.match-walk.branch [
            | in-Text w' ↦
                let e = ap (λ q. q.section) at ∙ w'.in-Text.is in
                let new = w'.write.new.section in
                let told = ap (λ n. take (here p + n) new) (sym size) ∙ w'.write.ensures in
                record {
                  index = index;
                  place = rw add-one place;
                  text = rw add-one ((λ j. take (next j).text ((w.text-is ∙ w'.text-is) j))
                      ∙ one_more base labels l i Text p (moved p r) r text new (at ∙ inv.place) known text_before (filled_own p r base labels text new Text e told));
                  stored = rw add-one ((λ j. take (next j).«data» ((w.data-is ∙ w'.data-is) j))
                      ∙ one_more base labels l i Data p (moved p r) r stored stored (at ∙ inv.place) known stored_before (filled_other p r base labels stored stored Text Data e refl refl));
                }
            | in-Data w' ↦
                let e = ap (λ q. q.section) at ∙ w'.in-Data.is in
                let new = w'.write-in-Data.new.section in
                let told = ap (λ n. take (here p + n) new) (sym size) ∙ w'.write-in-Data.ensures in
                record {
                  index = index;
                  place = rw add-one place;
                  text = rw add-one ((λ j. take (next j).text ((w.text-is ∙ w'.text-is) j))
                      ∙ one_more base labels l i Text p (moved p r) r text text (at ∙ inv.place) known text_before (filled_other p r base labels text text Data Text e refl refl));
                  stored = rw add-one ((λ j. take (next j).«data» ((w.data-is ∙ w'.data-is) j))
                      ∙ one_more base labels l i Data p (moved p r) r stored new (at ∙ inv.place) known stored_before (filled_own p r base labels stored new Data e told));
                }
          ]
      | in-None w ↦
          let known : record_at l i ≡ None = reads ∙ sym w.in-None.ensures.«record» in
          let place = ap (λ w. w.place) w.walk-is ∙ w.skip-walk.ensures.place in
          record {
            index = omega (arith, ap (λ w. w.index) w.walk-is, w.skip-walk.ensures.index);
            place = rw add-one (place ∙ inv.place ∙ ap (after (laid l i).place) (sym known) ∙ sym (place_more l i));
            text = rw add-one ((λ j. take (place j).text (w.text-is j)) ∙ inv.text ∙ none_more base labels l i Text known);
            stored = rw add-one ((λ j. take (place j).«data» (w.data-is j)) ∙ inv.stored ∙ none_more base labels l i Data known);
          }
    ]

-- A text in memory as it was loaded, and what the assembler promised of it.
use Rattle.std.proofs.Common.{◌≡◌, ℕ, zero, suc, ◌+◌, ◌*◌, ◌/◌, ◌%◌, ◌<◌, ◌≤◌, true, false, List, length, Ok, sym, ap, ◌∙◌, inl, inr, zero-le, arith}
use Rattle.std.proofs.lemmas.Bool.{cases_eq}
use Rattle.std.proofs.lemmas.Bool.Decides.{nat_tests}
use Rattle.isa.specs.Registers.{late, result, reads_interlocked}
use Rattle.isa.specs.Words.{read_word}
use Rattle.memory.specs.Meaning.{Meaning}
use Rattle.machine.specs.declared.states.ServiceRange.{ServiceRange}
use Rattle.memory.specs.Words.{word_at}
use Rattle.machine.specs.Checks.{hazard}
use Rattle.machine.specs.Layouts.{inside}
use Rattle.machine.specs.Loads.{fits, loading}
use Rattle.text.specs.Answer.{answers}
use Rattle.text.specs.Hazards.{Calm}
use Rattle.text.specs.Image as text
use Rattle.histories.proofs.Loaded.{loaded_fits, loaded_text}
use Rattle.histories.specs.Texts.{NoHazard, RunsWithin}
use Rattle.rehearsal.specs.Reports.{Accepted, layout_of, loaded}
use Rattle.rehearsal.specs.Laws.{CleanProgram}

-- the word of a text in memory
loaded_word : (l : List ℕ) (range : ServiceRange) (m : Meaning) → loading (layout_of l range) (text.image l) m ≡ Ok tt → (a : ℕ) → a + 1 < (answers l).text
    → (answers l).text ≤ 65280 → word_at (loaded l m).byte a ≡ text.word_at (text.image l) a
loaded_word l range m ok a h small =
    let next : (a + 1) % 65536 ≡ a + 1 = omega arith in
    let byte = loaded_text (layout_of l range) (text.image l) m ok in
    (λ i. byte a (omega arith) i * 256 + (ap (loaded l m).byte next ∙ byte (a + 1) h) i)

-- the longest run of the image bounds every run of the text in memory
pub runs_within : (l : List ℕ) (range : ServiceRange) (m : Meaning) → Accepted l → loading (layout_of l range) (text.image l) m ≡ Ok tt
    → RunsWithin (answers l).text (loaded l m).byte (answers l).run
runs_within l range m accepted ok a zero run = zero-le
runs_within l range m accepted ok a (suc n) run =
    let size : (answers l).text % 16 ≡ 0 = accepted.sizes.whole in
    let most : (answers l).image ≤ 65280 = accepted.sizes.most in
    let within : (answers l).text ≤ (answers l).image = accepted.sizes.within in
    let written : (answers l).image ≡ length (text.image l) = accepted.sizes.written in
    let even : a % 2 ≡ 0 = run.even in
    let end : a + 2 * n < (answers l).text = (run.each n (omega arith)).0 in
    accepted.run.most (a / 2) (suc n) (omega arith)
    (λ j h.
    let at : 2 * (a / 2 + j) ≡ a + 2 * j = omega arith in
    let low : a + 2 * j < (answers l).text = (run.each j h).0 in
    ap reads_interlocked (ap (text.word_at (text.image l)) at ∙ sym (loaded_word l range m ok (a + 2 * j) (omega arith) (omega arith)))
    ∙ (run.each j h).1)

-- no two neighbours of a clean program text are in hazard in memory
pub program_calm : (l : List ℕ) (range : ServiceRange) (m : Meaning) → Accepted l → loading (layout_of l range) (text.image l) m ≡ Ok tt → CleanProgram l range
    → NoHazard (layout_of l range) (loaded l m).byte
program_calm l range m accepted ok clean a here next i j first second =
    let size : (answers l).text % 16 ≡ 0 = accepted.sizes.whole in
    let most : (answers l).image ≤ 65280 = accepted.sizes.most in
    let within : (answers l).text ≤ (answers l).image = accepted.sizes.within in
    let written : (answers l).image ≡ length (text.image l) = accepted.sizes.written in
    let even : a % 2 ≡ 0 = here.even in
    let end : a + 2 < (answers l).text = next.text in
    let fit : fits (layout_of l range) (length (text.image l)) ≡ true = loaded_fits (layout_of l range) (text.image l) m ok in
    let low : range.low % 2 ≡ 0 = grind (arith, nat_tests) in
    let high : range.high % 2 ≡ 0 = grind (arith, nat_tests) in
    let apart : inside (layout_of l range) a ≡ false = here.apart in
    let apart' : inside (layout_of l range) (a + 2) ≡ false = next.apart in
    let between : inside (layout_of l range) (a + 1) ≡ false = grind (arith, nat_tests) in
    let behind : inside (layout_of l range) (a + 3) ≡ false = grind (arith, nat_tests) in
    let calm : Calm (text.image l) a =
    accepted.hazards a even (omega arith) (clean a (omega arith) apart) (clean (a + 1) (omega arith) between) (clean (a + 2) end apart')
    (clean (a + 3) (omega arith) behind) in
    let first' : read_word (text.word_at (text.image l) a) ≡ Ok i =
    ap read_word (sym (loaded_word l range m ok a (omega arith) (omega arith))) ∙ first in
    let second' : read_word (text.word_at (text.image l) (a + 2)) ≡ Ok j =
    ap read_word (sym (loaded_word l range m ok (a + 2) (omega arith) (omega arith))) ∙ second in
    safe (late j) (result i) (λ above e. calm i j first' second' above e)
  where
    safe : (x y : ℕ) → (0 < y → x ≡ y → ⊥) → hazard x y ≡ false
    safe x y never = elim (cases_eq x y) [
      | inl e ↦ elim (cases_eq x 0) [ inl z ↦ grind (arith, nat_tests) | inr above ↦ absurd (never (omega arith) e) ]
      | inr ne ↦ grind (arith, nat_tests)
    ]

use Rattle.std.proofs.Common.{◌≡◌, ◌+◌, ◌*◌, max, cond, [], get_or, ap, ◌∙◌, add-one, arith, rules, w16}
use Rattle.std.specs.Int.{from_be_bytes}
use Rattle.isa.specs.Registers.{reads_interlocked}
use Rattle.text.specs.Image.{word_at}
use Rattle.text.specs.Runs.{current, longest}
use Rattle.text.proofs.LongestRun.{longest_is}
use Rattle.text.proofs.Pairs.{front_byte, front_word}
use Rattle.text.proofs.runs.longest_run.Goals as goal

pub loop-pair-init : goal.loop-pair-init
unfolding current longest
loop-pair-init c = search rules

-- said of any front of the text, so that where not all of it is gone through, what falls is the answer and not this step
pub loop-pair-preserved : goal.loop-pair-preserved
unfolding current longest
loop-pair-preserved c =
    let t = c.args.text.now in
    let k = c.loop-pair.pair-index in
    let inv = c.loop-pair.invariant in
    let word : c.from_be_bytes.result ≡ word_at t (2 * k) =
    c.from_be_bytes.ensures ∙ ap (λ pairs. from_be_bytes w16 (get_or pairs k [])) c.as_chunks.ensures.front
    ∙ front_word _ t k (λ i h. search (rules, front_byte)) (omega arith) in
    let now' = c.lengthened-run.ensures.value ∙ (λ j. cond (reads_interlocked (word j)) (inv.run j + 1) 0) in
    let top : c.max-top.result ≡ max c.loop-pair.top c.lengthened-run.result = search rules in
    rw add-one (record { run = now'; top = top ∙ (λ j. max (inv.top j) (now' j)); short = omega arith })

pub returns-clause-longest : goal.returns-clause-longest
returns-clause-longest c = search (rules, longest_is)

use Rattle.std.proofs.Common.{◌≡◌, ◌+◌, [], ◌∷◌, drop, get_or, sym, ap, ◌∙◌, subst, map, add-one, drop-cons}
use Rattle.std.proofs.lemmas.List.{drop_all}
use Rattle.memory.specs.Meaning.{Meaning}
use Rattle.histories.specs.declared.actions.Action.{Action}
use Rattle.histories.specs.Histories.{Acts}
use Rattle.xr16.specs.Actions.{action_in, actions_of}
use Rattle.xr16.specs.Faults.{fault_in}
use Rattle.xr16.specs.Playing.{nothing}
use Rattle.xr16.proofs.Led.{Led, led, led_all, led_none, chunked, small_sum, turned}
use Rattle.xr16.proofs.playing.play.Goals as goal

pub loop-bytes-preserved : goal.loop-bytes-preserved
loop-bytes-preserved g c =
    let i = c.loop-bytes.bytes-index in
    let chunks = c.as_chunks.result.0.now in
    let bytes = get_or chunks i [] in
    let s = c.loop-bytes.core.state in
    let m = g.M.Memory.means c.loop-bytes.memory in
    let o = (g.M.Memory.means c.args.memory.now).mark in
    let s' = c.act.new.core.state in
    let m' = g.M.Memory.means c.act.new.memory in
    let deed = c.act.result in
    let inv = c.loop-bytes.invariant in
    let cut : drop i chunks ≡ bytes ∷ drop (i + 1) chunks = rw add-one (drop-cons chunks i [] c.loop-bytes-test.true) in
    let acts : Acts (action_in bytes) s m deed.tally s' m' =
    subst (λ (a : Action). Acts a s m deed.tally s' m') c.action_of.ensures c.act.ensures.exact in
    let refused = c.act.ensures.fault ∙ ap (fault_in m.mark s m.byte) c.action_of.ensures in (
      inv.0 ∙ turned o chunks i s m c.loop-bytes.totals deed.tally deed.fault s' m' c.added-totals.result
          bytes cut inv.1 acts refused c.added-totals.ensures,
      ap (λ (u : Meaning). u.mark) acts.memory ∙ inv.1,
      c.act.ensures.lent ∙ inv.2,
      small_sum c.loop-bytes.totals deed.tally deed.fault c.added-totals.result c.added-totals.ensures,
    )

pub returns : goal.returns
returns g c =
    let bytes = c.args.actions.now in
    let chunks = c.as_chunks.result.0.now in
    let s = c.loop-bytes.core.state in
    let t = c.loop-bytes.totals in
    let m = g.M.Memory.means c.loop-bytes.memory in
    let m₀ = g.M.Memory.means c.args.memory.now in
    let inv = c.loop-bytes.invariant in
    let all = ap (λ xs. map action_in xs) c.as_chunks.ensures.front ∙ chunked bytes in
    let over : led m₀.mark c.args.core.now.state m₀.byte nothing (actions_of bytes) ≡ record { totals = t; state = s; bytes = m.byte } =
    ap (led m₀.mark c.args.core.now.state m₀.byte nothing) (sym all)
    ∙ inv.0
    ∙ ap (λ xs. led m₀.mark s m.byte t (map action_in xs)) (drop_all c.loop-bytes.bytes-index chunks c.loop-bytes-test.false)
    ∙ led_none m₀.mark s m.byte t inv.3 in
    record {
      exact = record {
        totals = sym (ap (λ (x : Led). x.totals) over) ∙ led_all m₀.mark c.args.core.now.state m₀.byte (actions_of bytes);
        state = sym (ap (λ (x : Led). x.state) over);
        memory = λ j. record { byte = sym (ap (λ (x : Led). x.bytes) over) j; mark = inv.1 j };
      };
      lent = inv.2;
    }

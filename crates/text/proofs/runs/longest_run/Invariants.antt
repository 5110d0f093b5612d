use Rattle.std.proofs.Common.{◌≡◌, ◌≤◌}
use Rattle.text.specs.Runs.{current, longest}
use Rattle.text.proofs.runs.longest_run.Given as goal

abbrev pub invariant-loop-pair : goal.invariant-loop-pair
invariant-loop-pair l = record { run : l.run ≡ current l.text l.pair-index; top : l.top ≡ longest l.text l.pair-index; short : l.run ≤ l.pair-index }

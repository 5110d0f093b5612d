use Rattle.std.proofs.Common.{◌≡◌, ◌+◌, ◌-◌, ◌≤◌}
use Rattle.machine.specs.Runs.{ran, no_steps}
use Rattle.machine.proofs.body.Core.spend.Given as goal

abbrev pub invariant-loop : goal.invariant-loop
invariant-loop g l =
    let m = g.M.Memory in
    (l.tally.own + l.tally.service + l.tally.takings ≤ l.counter)
    × ((m.means l.memory).mark ≡ (m.means l.initial.memory).mark)
    × (m.loan l.memory ≡ m.loan l.initial.memory)
    × (ran l.budget l.initial.self.state (m.means l.initial.memory).byte (m.means l.initial.memory).mark no_steps
    ≡ ran (l.budget - l.counter) l.self.state (m.means l.memory).byte (m.means l.memory).mark l.tally)

use Rattle.std.proofs.Common.{◌≡◌, ℕ, ◌%◌, ◌<◌, get_or}
use Rattle.memory.specs.Pages.{frame}
use Rattle.memory.proofs.page_tables.PageTable.new.Given as goal

abbrev pub invariant-loop-page : goal.invariant-loop-page
invariant-loop-page l =
    ((k : ℕ) → k < l.page → get_or l.fn.words k 0 % 32768 < 32)
    × ((a b : ℕ) → a < b → b < l.page → frame (get_or l.fn.words a 0) ≡ frame (get_or l.fn.words b 0) → ⊥)

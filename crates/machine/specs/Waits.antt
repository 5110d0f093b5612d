-- The wait of a pending request, and whether a service is open.
use Rattle.std.specs.Prelude.{ℕ, Bool, true, false, Some, None, Option, List}

-- own steps that succeeded since the request was accepted; 0 where none is pending
abbrev pub wait_of : Option ℕ → ℕ
wait_of None = 0
wait_of (Some n) = n

-- no service is open
abbrev pub closed : Option (List ℕ) → Bool
closed None = true
closed (Some copies) = false

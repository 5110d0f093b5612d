-- Actions, three bytes each.
use Rattle.std.specs.Prelude.{ℕ, ◌+◌, ◌*◌, cond, List, [], ◌∷◌, ◌==◌, slice_index}
use Rattle.histories.specs.declared.actions.Action.{Action}
use Rattle.histories.specs.declared.actions.Action.TheVariants as action

-- kind 0 is a request, kind 1 a step, any other kind a run whose budget is the other two bytes, big-endian
abbrev pub action_of : ℕ → ℕ → ℕ → Action
action_of kind high low = cond (kind == 0) action.Request (cond (kind == 1) action.Step (action.Run (high * 256 + low)))

-- the action of three bytes
abbrev pub action_in : List ℕ → Action
action_in bytes = action_of (slice_index bytes 0) (slice_index bytes 1) (slice_index bytes 2)

-- the actions that bytes are read as; one or two bytes at the end are passed over
abbrev pub actions_of : List ℕ → List Action
actions_of [] = []
actions_of (kind ∷ []) = []
actions_of (kind ∷ high ∷ []) = []
actions_of (kind ∷ high ∷ low ∷ rest) = action_of kind high low ∷ actions_of rest

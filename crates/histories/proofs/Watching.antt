-- What an invariant of steps and requests gives of whole histories: a watcher goes along beside the core.
use Rattle.std.proofs.Common.{ℕ, zero, suc, Bool, not, List, [], ◌∷◌, ◌++◌, Ok, Err, Result}
use Rattle.machine.specs.declared.states.State.{State}
use Rattle.machine.specs.declared.answers.Step.{Step}
use Rattle.machine.specs.declared.answers.StepRefusal.{StepRefusal}
use Rattle.machine.specs.declared.answers.Tally.{Tally}
use Rattle.machine.specs.Steps.{stepped, busy, asked}
use Rattle.machine.specs.Runs.{ran, go_on, counted, no_steps}
use Rattle.histories.specs.declared.actions.Action.{Action}
use Rattle.histories.specs.declared.actions.Action.TheVariants as action
use Rattle.histories.specs.Histories.{acted, Event, request, step_of, unless_refused, run_events, events_of, history}

module _ (W : Type 0) (next : W → Event → W) (P : W → Event → Type 0) where
  abbrev pub over : W → List Event → W
  over w [] = w
  over w (e ∷ events) = over (next w e) events

  -- the claim holds of each event with the watcher there
  abbrev pub Watch : W → List Event → Type 0
  Watch w [] = Unit {0}
  Watch w (e ∷ events) = P w e × Watch (next w e) events

  watch_append : (w : W) (xs ys : List Event) → Watch w xs → Watch (over w xs) ys → Watch w (xs ++ ys)
  watch_append w [] ys h k = k
  watch_append w (x ∷ xs) ys h k = (h.0, watch_append (next w x) xs ys h.1 k)

  -- what is claimed of an event that stands anywhere
  pub watch_at : (w : W) (xs : List Event) (e : Event) (ys : List Event) → Watch w (xs ++ (e ∷ ys)) → P (over w xs) e
  watch_at w [] e ys h = h.0
  watch_at w (x ∷ xs) e ys h = watch_at (next w x) xs e ys h.1

  module _ (I : W → State → (ℕ → ℕ) → Type 0) (o : ℕ → Bool)
      (stepping : (w : W) (s : State) (b : ℕ → ℕ) → I w s b → P w (step_of s b o) × I (next w (step_of s b o)) (stepped s b o).state (stepped s b o).bytes)
      (asking : (w : W) (s : State) (b : ℕ → ℕ) → I w s b → P w (request (not (busy s))) × I (next w (request (not (busy s)))) (asked s) b) where
    watch_run : (n : ℕ) (w : W) (s : State) (b : ℕ → ℕ) (t : Tally) → I w s b
        → Watch w (run_events n s b o) × I (over w (run_events n s b o)) (ran n s b o t).state (ran n s b o t).bytes
    watch_run zero w s b t h = (tt, h)
    watch_run (suc n) w s b t h =
        let s' = (stepped s b o).state in
        let b' = (stepped s b o).bytes in
        let w' = next w (step_of s b o) in
        let x = stepping w s b h in
        let Goal : Result Step StepRefusal → Type 0 = λ r. Watch w' (unless_refused r (run_events n s' b' o))
        × I (over w' (unless_refused r (run_events n s' b' o))) (go_on r s' b' t (λ u. ran n s' b' o u)).state (go_on r s' b' t (λ u. ran n s' b' o u)).bytes in
        let on : (r : Result Step StepRefusal) → Goal r = λ r. elim r as (λ r. Goal r) [
          | Ok a ↦ watch_run n w' s' b' (counted t a) x.1
          | Err f ↦ (tt, x.1)
        ] in
        let y = on (stepped s b o).answer in
        ((x.0, y.0), y.1)

    watch_acted : (a : Action) (w : W) (s : State) (b : ℕ → ℕ) → I w s b
        → Watch w (events_of o s b a) × I (over w (events_of o s b a)) (acted o s b a).state (acted o s b a).bytes
    watch_acted (action.Request) w s b h = let x = asking w s b h in ((x.0, tt), x.1)
    watch_acted (action.Step) w s b h = let x = stepping w s b h in ((x.0, tt), x.1)
    watch_acted (action.Run n) w s b h = watch_run n w s b no_steps h

    -- what an invariant of steps and requests gives of whole histories
    pub watched : (actions : List Action) (w : W) (s : State) (b : ℕ → ℕ) → I w s b → Watch w (history o s b actions)
    watched [] w s b h = tt
    watched (a ∷ actions) w s b h =
        let x = watch_acted a w s b h in
        watch_append w (events_of o s b a) (history o (acted o s b a).state (acted o s b a).bytes actions) x.0
        (watched actions (over w (events_of o s b a)) (acted o s b a).state (acted o s b a).bytes x.1)

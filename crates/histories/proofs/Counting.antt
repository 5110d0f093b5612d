-- A run's steps count like single ones.
use Rattle.std.proofs.Common.{◌≡◌, ℕ, zero, suc, ◌+◌, ◌≤◌, Bool, ◌⊎◌, List, [], ◌∷◌, ◌++◌, Some, None, Ok, Err, Option, Result, sym, refl, ap, ◌∙◌, inl, inr, arith}
use Rattle.machine.specs.declared.states.Side.TheVariants as side
use Rattle.machine.specs.declared.states.State.{State}
use Rattle.machine.specs.declared.answers.Step.{Step}
use Rattle.machine.specs.declared.answers.Step.TheVariants as made
use Rattle.machine.specs.declared.answers.StepRefusal.{StepRefusal}
use Rattle.machine.specs.declared.answers.Tally.{Tally}
use Rattle.machine.specs.Steps.{waited, stepped}
use Rattle.machine.specs.Runs.{ran, go_on, counted, no_steps}
use Rattle.machine.proofs.Ways.{ways, settles}
use Rattle.histories.specs.declared.actions.Action.{Action}
use Rattle.histories.specs.declared.actions.Action.TheVariants as action
use Rattle.histories.specs.Histories.{tallied, joined, acted, played, Event, request, step, noted, unless_refused, run_events, events_of, history, tally_of}
use Rattle.histories.specs.Laws.{WaitsWithin, StepsAreCounted}

-- a tally grows by the own steps of an answer
pub counted_own : (t : Tally) (a : Step) → (counted t a).own ≡ t.own + (tallied (Ok a)).own
counted_own t (made.Taken wait) = omega arith
counted_own t (made.Made (side.Own)) = omega arith
counted_own t (made.Made (side.Service)) = omega arith

-- tallies with the same numbers are the same
same_tally : (t u : Tally) → t.own ≡ u.own → t.service ≡ u.service → t.takings ≡ u.takings → t.wait ≡ u.wait → t ≡ u
same_tally t u own service takings wait i = record { own = own i; service = service i; takings = takings i; wait = wait i }

joined_none : (t : Tally) → t ≡ joined t no_steps
joined_none t = same_tally _ _ (omega arith) (omega arith) (omega arith) (omega arith)

none_joined : (t : Tally) → t ≡ joined no_steps t
none_joined t = same_tally _ _ (omega arith) (omega arith) (omega arith) (omega arith)

joined_then : (t u v : Tally) → joined (joined t u) v ≡ joined t (joined u v)
joined_then t u v = same_tally _ _ (omega arith) (omega arith) (omega arith) (omega arith)

tally_append : (xs ys : List Event) → tally_of (xs ++ ys) ≡ joined (tally_of xs) (tally_of ys)
tally_append [] ys = none_joined (tally_of ys)
tally_append (x ∷ xs) ys = ap (joined (noted x)) (tally_append xs ys) ∙ sym (joined_then (noted x) (tally_of xs) (tally_of ys))

-- At most one request is taken in a run, so that the wait it answers is the longest

-- a taking ends what was pending, and no word makes a request pending
abbrev Pends : Option ℕ → Result Step StepRefusal → Option ℕ → Type 0
Pends before (Ok (made.Taken wait)) after = (before ≡ Some wait) × (after ≡ None)
Pends before (Ok (made.Made d)) after = before ≡ None → after ≡ None
Pends before (Err refusal) after = Unit {0}

pends : (s : State) (b : ℕ → ℕ) (o : ℕ → Bool) → Pends s.pending (stepped s b o).answer (stepped s b o).state.pending
pends s b o = ways s b o (λ x. Pends s.pending x.answer x.state.pending)
    (λ n shut waits ready. (waits, refl))
    (λ d p due stood e h. ap (λ x. x.pending) (settles s b d p p.effect).is ∙ ap (λ q. waited q d) h)
    (λ d f due why. tt)

-- nothing pends, or no wait was counted yet
abbrev Quiet : Option ℕ → Tally → Type 0
Quiet pending t = (pending ≡ None) ⊎ (t.wait ≡ 0)

counted_joined : (t u : Tally) (a : Step) (p q : Option ℕ) → Quiet p t → Pends p (Ok a) q → joined (counted t a) u ≡ joined t (joined (tallied (Ok a)) u)
counted_joined t u (made.Taken wait) p q (inl h) k = let e = k.0 in cc
counted_joined t u (made.Taken wait) p q (inr h) k = same_tally _ _ (omega arith) (omega arith) (omega arith) (omega arith)
counted_joined t u (made.Made (side.Own)) p q h k = same_tally _ _ (omega arith) (omega arith) (omega arith) (omega arith)
counted_joined t u (made.Made (side.Service)) p q h k = same_tally _ _ (omega arith) (omega arith) (omega arith) (omega arith)

quiet_after : (t : Tally) (a : Step) (p q : Option ℕ) → Quiet p t → Pends p (Ok a) q → Quiet q (counted t a)
quiet_after t (made.Taken wait) p q h k = inl k.1
quiet_after t (made.Made (side.Own)) p q (inl h) k = inl (k h)
quiet_after t (made.Made (side.Own)) p q (inr h) k = inr h
quiet_after t (made.Made (side.Service)) p q (inl h) k = inl (k h)
quiet_after t (made.Made (side.Service)) p q (inr h) k = inr h

tally_run : (n : ℕ) (s : State) (b : ℕ → ℕ) (o : ℕ → Bool) (t : Tally) → Quiet s.pending t
    → (ran n s b o t).answer.tally ≡ joined t (tally_of (run_events n s b o))
tally_run zero s b o t h = joined_none t
tally_run (suc n) s b o t h =
    let s' = (stepped s b o).state in
    let b' = (stepped s b o).bytes in
    elim (stepped s b o).answer as (λ r. Pends s.pending r s'.pending
    → (go_on r s' b' t (λ u. ran n s' b' o u)).answer.tally ≡ joined t (joined (tallied r) (tally_of (unless_refused r (run_events n s' b' o))))) [
      | Ok a ↦ λ k. tally_run n s' b' o (counted t a) (quiet_after t a s.pending s'.pending h k)
          ∙ counted_joined t (tally_of (run_events n s' b' o)) a s.pending s'.pending h k
      | Err f ↦ λ k. joined_none t ∙ ap (joined t) (none_joined no_steps)
    ] (pends s b o)

-- the tally of an action is that of its events
pub tally_acted : (o : ℕ → Bool) (s : State) (b : ℕ → ℕ) (a : Action) → (acted o s b a).tally ≡ tally_of (events_of o s b a)
tally_acted o s b (action.Request) = none_joined no_steps
tally_acted o s b (action.Step) = joined_none (tallied (stepped s b o).answer)
tally_acted o s b (action.Run n) = tally_run n s b o no_steps (inr refl) ∙ sym (none_joined (tally_of (run_events n s b o)))

pub steps_are_counted : StepsAreCounted
steps_are_counted o s b [] = refl
steps_are_counted o s b (a ∷ actions) =
    let p = acted o s b a in
    ap (λ t. joined t (played o p.state p.bytes actions).tally) (tally_acted o s b a)
    ∙ ap (joined (tally_of (events_of o s b a))) (steps_are_counted o p.state p.bytes actions)
    ∙ sym (tally_append (events_of o s b a) (history o p.state p.bytes actions))

-- Where each wait is within a bound, so is the longest

within_more : (most : ℕ) (e : Event) (events : List Event) → WaitsWithin most (e ∷ events) → WaitsWithin most events
within_more most e events h before after a w wait k = h (e ∷ before) after a w wait (ap (◌∷◌ e) k)

noted_within : (most : ℕ) (e : Event) (events : List Event) → WaitsWithin most (e ∷ events) → (noted e).wait ≤ most
noted_within most (request accepted) events h = omega arith
noted_within most (step a w (Ok (made.Taken wait))) events h = h [] events a w wait refl
noted_within most (step a w (Ok (made.Made (side.Own)))) events h = omega arith
noted_within most (step a w (Ok (made.Made (side.Service)))) events h = omega arith
noted_within most (step a w (Err refusal)) events h = omega arith

pub longest_within : (most : ℕ) (events : List Event) → WaitsWithin most events → (tally_of events).wait ≤ most
longest_within most [] h = omega arith
longest_within most (e ∷ events) h =
    let x = noted_within most e events h in
    let y = longest_within most events (within_more most e events h) in
    omega arith

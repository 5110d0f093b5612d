-- What is left of a list of actions leads where the whole list leads.
use Rattle.std.proofs.Common.{◌≡◌, ℕ, suc, ◌+◌, ◌/◌, ◌<◌, map, Bool, List, [], ◌∷◌, length, drop, Option, None, sym, refl, ap, ◌∙◌, arith}
use Rattle.std.specs.Simd.{first_chunks}
use Rattle.memory.specs.Meaning.{Meaning}
use Rattle.machine.specs.declared.answers.Tally.{Tally}
use Rattle.machine.specs.declared.states.State.{State}
use Rattle.histories.specs.declared.actions.Action.{Action}
use Rattle.histories.specs.Histories.{acted, played, Acts}
use Rattle.xr16.specs.declared.answers.Fault.{Fault}
use Rattle.xr16.specs.declared.answers.Totals.{Totals}
use Rattle.xr16.specs.Actions.{action_in, action_of, actions_of}
use Rattle.xr16.specs.Faults.{fault_in, last_fault}
use Rattle.xr16.specs.Playing.{added, count, nothing, totals_of}

-- the totals, the state and the bytes that a list leads to
pub record Led : Type 0 where
  pub totals : Totals
  pub state : State
  pub bytes : ℕ → ℕ

abbrev pub led : (ℕ → Bool) → State → (ℕ → ℕ) → Totals → List Action → Led
led o s b t actions =
    let q = played o s b actions in
    record { totals = added t q.tally (last_fault o s b t.last actions); state = q.state; bytes = q.bytes }

-- three bytes each are read as the actions of the whole
pub chunked : (bytes : List ℕ) → map action_in (first_chunks 3 (length bytes / 3) bytes) ≡ actions_of bytes
chunked [] = refl
chunked (kind ∷ []) = refl
chunked (kind ∷ high ∷ []) = refl
chunked (kind ∷ high ∷ low ∷ rest) =
    let more : length (kind ∷ high ∷ low ∷ rest) / 3 ≡ suc (length rest / 3) = omega arith in
    ap (λ k. map action_in (first_chunks 3 k (kind ∷ high ∷ low ∷ rest))) more ∙ ap (λ xs. action_of kind high low ∷ xs) (chunked rest)

-- the actions from an index on
abbrev pub left : List (List ℕ) → ℕ → List Action
left chunks i = map action_in (drop i chunks)

-- totals with the same numbers and the same fault are the same
same_totals : (t u : Totals) → t.own ≡ u.own → t.service ≡ u.service → t.takings ≡ u.takings → t.wait ≡ u.wait → t.last ≡ u.last → t ≡ u
same_totals t u own service takings wait last i = record { own = own i; service = service i; takings = takings i; wait = wait i; last = last i }

abbrev with_totals : Led → Totals → Led
with_totals l t = record { totals = t; state = l.state; bytes = l.bytes }

-- one action more
pub led_more : (o : ℕ → Bool) (s : State) (b : ℕ → ℕ) (t : Totals) (a : Action) (actions : List Action)
    → led o s b t (a ∷ actions) ≡ led o (acted o s b a).state (acted o s b a).bytes (added t (acted o s b a).tally (fault_in o s b a)) actions
led_more o s b t a actions =
    ap (with_totals (led o s b t (a ∷ actions))) (same_totals _ _ (omega arith) (omega arith) (omega arith) (omega arith) refl)

-- one turn of the list
pub turned : (o : ℕ → Bool) (chunks : List (List ℕ)) (i : ℕ) (s : State) (m : Meaning) (t : Totals) (tally : Tally) (fault : Option Fault) (s' : State) (m' : Meaning) (t' : Totals)
    → (bytes : List ℕ) → drop i chunks ≡ bytes ∷ drop (i + 1) chunks → m.mark ≡ o
    → Acts (action_in bytes) s m tally s' m' → fault ≡ fault_in m.mark s m.byte (action_in bytes) → t' ≡ added t tally fault
    → led o s m.byte t (left chunks i) ≡ led o s' m'.byte t' (left chunks (i + 1))
turned o chunks i s m t tally fault s' m' t' bytes cut oe acts fe te =
    let a = action_in bytes in
    let state : s' ≡ (acted o s m.byte a).state = acts.state ∙ ap (λ p. (acted p s m.byte a).state) oe in
    let byte : m'.byte ≡ (acted o s m.byte a).bytes = ap (λ (u : Meaning). u.byte) acts.memory ∙ ap (λ p. (acted p s m.byte a).bytes) oe in
    let tallied : tally ≡ (acted o s m.byte a).tally = acts.tallies ∙ ap (λ p. (acted p s m.byte a).tally) oe in
    let refused : fault ≡ fault_in o s m.byte a = fe ∙ ap (λ p. fault_in p s m.byte a) oe in
    let totals : t' ≡ added t (acted o s m.byte a).tally (fault_in o s m.byte a) = te ∙ (λ j. added t (tallied j) (refused j)) in
    ap (λ xs. led o s m.byte t (map action_in xs)) cut
    ∙ led_more o s m.byte t a (left chunks (i + 1))
    ∙ (λ j. led o (sym state j) (sym byte j) (sym totals j) (left chunks (i + 1)))

-- totals that are kept modulo 2^64
pub record Small (t : Totals) : Type 0 where
  pub own : t.own < 18446744073709551616
  pub service : t.service < 18446744073709551616
  pub takings : t.takings < 18446744073709551616

-- every sum is
pub small_sum : (t : Totals) (y : Tally) (fault : Option Fault) (r : Totals) → r ≡ added t y fault → Small r
small_sum t y fault r e =
    let own : r.own ≡ count (t.own + y.own) = ap (λ (x : Totals). x.own) e in
    let service : r.service ≡ count (t.service + y.service) = ap (λ (x : Totals). x.service) e in
    let takings : r.takings ≡ count (t.takings + y.takings) = ap (λ (x : Totals). x.takings) e in
    record { own = omega arith; service = omega arith; takings = omega arith }

-- the end of the list
pub led_none : (o : ℕ → Bool) (s : State) (b : ℕ → ℕ) (t : Totals) → Small t → led o s b t [] ≡ record { totals = t; state = s; bytes = b }
led_none o s b t small =
    ap (with_totals (led o s b t [])) (same_totals _ _ (omega arith) (omega arith) (omega arith) (omega arith) refl)

-- the whole list
pub led_all : (o : ℕ → Bool) (s : State) (b : ℕ → ℕ) (actions : List Action)
    → (led o s b nothing actions).totals ≡ totals_of (played o s b actions).tally (last_fault o s b None actions)
led_all o s b actions = same_totals _ _ (omega arith) (omega arith) (omega arith) (omega arith) refl

-- Whole lists of actions: the first core and its twin stay side by side.
use Rattle.std.proofs.Common.{◌≡◌, ℕ, zero, suc, ◌+◌, Bool, List, [], ◌∷◌, Ok, Err, Result, sym, refl, ap, ◌∙◌, subst, arith}
use Rattle.machine.specs.declared.states.Side.TheVariants as side
use Rattle.machine.specs.declared.states.Layout.{Layout}
use Rattle.machine.specs.declared.states.State.{State}
use Rattle.machine.specs.declared.answers.Step.{Step}
use Rattle.machine.specs.declared.answers.Step.TheVariants as made
use Rattle.machine.specs.declared.answers.StepRefusal.{StepRefusal}
use Rattle.machine.specs.declared.answers.Tally.{Tally}
use Rattle.machine.specs.Steps.{stepped, asked}
use Rattle.machine.specs.Runs.{Ran, ran, go_on, counted, no_steps}
use Rattle.machine.specs.Loads.{fresh}
use Rattle.histories.specs.declared.actions.Action.{Action}
use Rattle.histories.specs.declared.actions.Action.TheVariants as action
use Rattle.histories.specs.Texts.{NoExtended}
use Rattle.histories.specs.Histories.{tallied, acted, played}
use Rattle.histories.specs.Laws.{Alone, none, more, OwnStep, Undisturbed, RequestsLeaveNoMark}
use Rattle.histories.proofs.Counting.{counted_own}
use Rattle.histories.proofs.Kept.{Laid, laid}
use Rattle.histories.proofs.Sides.{Outside, SameMarks, Together, Standing, Sim, sim_asked, read_rest}
use Rattle.histories.proofs.OwnWords.{After}
use Rattle.histories.proofs.ServiceWords.{beside}

-- steps alone, and then more steps alone
pub alone_then : (o : ℕ → Bool) {m n : ℕ} {t u v : State} {c d e : ℕ → ℕ} → Alone o m t c u d → Alone o n u d v e → Alone o (m + n) t c v e
alone_then o {n = n} {t = t} {v = v} {c = c} {e = e} none y = subst (λ k. Alone o k t c v e) (omega arith) y
alone_then o {n = n} {t = t} {v = v} {c = c} {e = e} (more {n = m} h x) y =
    subst (λ k. Alone o k t c v e) (let q : suc (m + n) ≡ suc m + n = omega arith in q) (more h (alone_then o x y))

-- a run of as many steps is spent, and ends where the steps alone end
abbrev pub SpentAt : Ran → State → (ℕ → ℕ) → Type 0
SpentAt r u e = (r.answer.end ≡ Ok tt) × (r.state ≡ u) × (r.bytes ≡ e)

pub alone_ran : (o : ℕ → Bool) {n : ℕ} {t u : State} {c e : ℕ → ℕ} → Alone o n t c u e → (y : Tally) → SpentAt (ran n t c o y) u e
alone_ran o none y = (refl, refl, refl)
alone_ran o {u = u} {e = e} (more {n = n} {t = t} {c = c} h x) y =
    let t' = (stepped t c o).state in
    let c' = (stepped t c o).bytes in
    let P : Result Step StepRefusal → Type 0 = λ r. SpentAt (go_on r t' c' y (λ z. ran n t' c' o z)) u e in
    subst P (sym h) (alone_ran o x (counted y (made.Made side.Own)))

-- some twin that made n steps more stands beside the first
pub record Along (o : ℕ → Bool) (n : ℕ) (t : State) (c : ℕ → ℕ) (s : State) (b : ℕ → ℕ) : Type 0 where
  pub state : State
  pub bytes : ℕ → ℕ
  pub alone : Alone o n t c state bytes
  pub sim : Sim s b state bytes

still : (o : ℕ → Bool) (s : State) (b : ℕ → ℕ) (t : State) (c : ℕ → ℕ) → Sim s b t c → Along o 0 t c s b
still o s b t c m = record { state = t; bytes = c; alone = none; sim = m }

along_then : (o : ℕ → Bool) (m n : ℕ) (t : State) (c : ℕ → ℕ) (s : State) (b : ℕ → ℕ) (s' : State) (b' : ℕ → ℕ)
    → (x : Along o m t c s b) → Along o n x.state x.bytes s' b' → Along o (m + n) t c s' b'
along_then o m n t c s b s' b' x y = record { state = y.state; bytes = y.bytes; alone = alone_then o x.alone y.alone; sim = y.sim }

-- one step
along_step : (o : ℕ → Bool) (s' : State) (b' : ℕ → ℕ) (t : State) (c : ℕ → ℕ) (r : Result Step StepRefusal)
    → After s' b' t c (stepped t c o) r → Along o (tallied r).own t c s' b'
along_step o s' b' t c (Ok (made.Taken wait)) h = still o s' b' t c h
along_step o s' b' t c (Ok (made.Made (side.Own))) h =
    record { state = (stepped t c o).state; bytes = (stepped t c o).bytes; alone = more h.0 none; sim = h.1 }
along_step o s' b' t c (Ok (made.Made (side.Service))) h = still o s' b' t c h
along_step o s' b' t c (Err f) h = still o s' b' t c h.0

-- a run, on top of a tally
pub record Running (o : ℕ → Bool) (t : State) (c : ℕ → ℕ) (before : Tally) (out : Ran) : Type 0 where
  pub own : ℕ
  pub count : out.answer.tally.own ≡ before.own + own
  pub along : Along o own t c out.state out.bytes

module _ (o o' : ℕ → Bool) (marks : SameMarks o o') where
  along_ran : (n : ℕ) (s : State) (b : ℕ → ℕ) (t : State) (c : ℕ → ℕ) (y : Tally) → Sim s b t c → Running o' t c y (ran n s b o y)
  along_ran zero s b t c y m = record { own = 0; count = omega arith; along = still o' s b t c m }
  along_ran (suc n) s b t c y m =
      let s' = (stepped s b o).state in
      let b' = (stepped s b o).bytes in
      elim (stepped s b o).answer as (λ r. After s' b' t c (stepped t c o') r → Running o' t c y (go_on r s' b' y (λ u. ran n s' b' o u))) [
        | Ok a ↦ λ h.
            let x = along_step o' s' b' t c (Ok a) h in
            let z = along_ran n s' b' x.state x.bytes (counted y a) x.sim in
            let grown : y.own + (tallied (Ok a)).own + z.own ≡ y.own + ((tallied (Ok a)).own + z.own) = omega arith in
            record {
              own = (tallied (Ok a)).own + z.own;
              count = z.count ∙ ap (λ k. k + z.own) (counted_own y a) ∙ grown;
              along = along_then o' (tallied (Ok a)).own z.own t c s' b' (ran n s' b' o (counted y a)).state (ran n s' b' o (counted y a)).bytes x z.along;
            }
        | Err f ↦ λ h. record { own = 0; count = omega arith; along = still o' s' b' t c h.0 }
      ] (beside s b t c o o' marks m)

  -- one action
  pub along_acted : (s : State) (b : ℕ → ℕ) (t : State) (c : ℕ → ℕ) (a : Action) → Sim s b t c
      → Along o' (acted o s b a).tally.own t c (acted o s b a).state (acted o s b a).bytes
  along_acted s b t c (action.Request) m = still o' (asked s) b t c (sim_asked s b t c m)
  along_acted s b t c (action.Step) m =
      along_step o' (stepped s b o).state (stepped s b o).bytes t c (stepped s b o).answer (beside s b t c o o' marks m)
  along_acted s b t c (action.Run n) m =
      let x = along_ran n s b t c no_steps m in
      let none_before : 0 + x.own ≡ x.own = omega arith in
      subst (λ k. Along o' k t c (ran n s b o no_steps).state (ran n s b o no_steps).bytes) (sym (x.count ∙ none_before)) x.along

  -- a list of actions
  pub along_played : (s : State) (b : ℕ → ℕ) (t : State) (c : ℕ → ℕ) (actions : List Action) → Sim s b t c
      → Along o' (played o s b actions).tally.own t c (played o s b actions).state (played o s b actions).bytes
  along_played s b t c [] m = still o' s b t c m
  along_played s b t c (a ∷ actions) m =
      let p = acted o s b a in
      let x = along_acted s b t c a m in
      along_then o' p.tally.own (played o p.state p.bytes actions).tally.own t c p.state p.bytes _ _ x
      (along_played p.state p.bytes x.state x.bytes actions x.sim)

  -- what two cores that stand side by side show
  alike : (s : State) (b : ℕ → ℕ) (t : State) (c : ℕ → ℕ) (r : Result Step StepRefusal)
      → After (stepped s b o).state (stepped s b o).bytes t c (stepped t c o') r → OwnStep r → (stepped t c o').answer ≡ r
  alike s b t c (Ok (made.Taken wait)) h k = absurd k
  alike s b t c (Ok (made.Made (side.Own))) h k = h.0
  alike s b t c (Ok (made.Made (side.Service))) h k = cc
  alike s b t c (Err f) h k = h.1 k

  pub undisturbed : (s : State) (b : ℕ → ℕ) (t : State) (c : ℕ → ℕ) → Sim s b t c → Undisturbed o s b o' t c
  undisturbed s b t c m = record {
    same = λ e.
        let st : Together s t = subst (λ v. Standing s v t) e m.standing in
        record { counter = st.counter; registers = λ k small ne. read_rest s.registers t.registers k st.registers ne; memory = m.outside };
    alike = alike s b t c (stepped s b o).answer (beside s b t c o o' marks m);
  }

-- two newly loaded cores stand side by side
pub sim_fresh : (l : Layout) (b c : ℕ → ℕ) → Laid l → Outside l b c → NoExtended l b → Sim (fresh l) b (fresh l) c
sim_fresh l b c laid out plain = record {
  layout = refl;
  laid = laid;
  alone = refl;
  quiet = refl;
  outside = out;
  plain = plain;
  made = refl;
  even = refl;
  bound = omega arith;
  long = refl;
  zero = refl;
  standing = record { counter = refl; prefix = refl; registers = refl; fore = refl; bare = λ _. refl; clear = λ _. refl };
}

pub requests_leave_no_mark : RequestsLeaveNoMark
requests_leave_no_mark l size fit m n agree plain actions =
    let start = sim_fresh l m.byte n.byte (laid l size fit) (λ a small _. agree.bytes a small) plain in
    let x = along_played m.mark n.mark agree.marks (fresh l) m.byte (fresh l) n.byte actions start in
    (x.state, x.bytes, x.alone, undisturbed m.mark n.mark agree.marks _ _ x.state x.bytes x.sim)

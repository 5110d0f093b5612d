-- What a rehearsed list leads to: the first core as the list leads it, the twin as its own steps lead it.
use Rattle.std.proofs.Common.{◌≡◌, ℕ, ◌+◌, ◌<◌, Bool, ◌&&◌, List, [], ◌∷◌, length, get_or, drop, sym, ap, ◌∙◌, add-one, arith, drop-cons}
use Rattle.std.proofs.Math.Bool.{and_assoc, and-true}
use Rattle.memory.specs.Meaning.{Meaning}
use Rattle.machine.specs.declared.answers.Tally.{Tally}
use Rattle.machine.specs.declared.states.State.{State}
use Rattle.machine.specs.Runs.{no_steps}
use Rattle.machine.specs.Steps.{memory_of}
use Rattle.machine.specs.Laws.{repeated}
use Rattle.histories.specs.declared.actions.Action.{Action}
use Rattle.histories.specs.declared.actions.Action.TheVariants as action
use Rattle.histories.specs.Histories.{acted, played, joined, Acts}
use Rattle.rehearsal.specs.declared.reports.Totals.{Totals}
use Rattle.rehearsal.specs.Twins.{all_own}
use Rattle.rehearsal.specs.Stages.{Stage, added, staged, rehearsed}
use Rattle.rehearsal.specs.Reports.{stage_of}
use Rattle.rehearsal.proofs.Twinned.{all_own_then, repeated_then}

-- totals with the same numbers are the same
same_totals : (t u : Totals) → t.own ≡ u.own → t.service ≡ u.service → t.takings ≡ u.takings → t.wait ≡ u.wait → t ≡ u
same_totals t u own service takings wait i = record { own = own i; service = service i; takings = takings i; wait = wait i }

-- totals are added in any grouping
pub added_joined : (t : Totals) (y z : Tally) → added (added t y) z ≡ added t (joined y z)
added_joined t y z = same_totals _ _ (omega arith) (omega arith) (omega arith) (omega arith)

-- nothing is added by no steps
pub added_none : (t : Totals) → added t no_steps ≡ t
added_none t = same_totals _ _ (omega arith) (omega arith) (omega arith) (omega arith)

-- the stage that a list leads to
abbrev pub led : (ℕ → Bool) → (ℕ → Bool) → Stage → List Action → Stage
led o p g actions =
    let q = played o g.first.state g.first.bytes actions in
    record {
      first = record { state = q.state; bytes = q.bytes };
      twin = repeated q.tally.own g.twin.state g.twin.bytes p;
      totals = added g.totals q.tally;
      kept = g.kept && all_own q.tally.own g.twin.state g.twin.bytes p;
    }

pub rehearsed_led : (o p : ℕ → Bool) (actions : List Action) (g : Stage) → rehearsed o p g actions ≡ led o p g actions
rehearsed_led o p [] g = λ i. record { first = g.first; twin = g.twin; totals = sym (added_none g.totals) i; kept = sym (and-true g.kept) i }
rehearsed_led o p (a ∷ actions) g =
    rehearsed_led o p actions (staged o p g a) ∙ (λ i. record {
      first = record { state = (played o g.first.state g.first.bytes (a ∷ actions)).state; bytes = (played o g.first.state g.first.bytes (a ∷ actions)).bytes };
      twin = sym (repeated_then n k g.twin.state g.twin.bytes p) i;
      totals = added_joined g.totals (acted o s b a).tally (played o (acted o s b a).state (acted o s b a).bytes actions).tally i;
      kept = (and_assoc g.kept (all_own n g.twin.state g.twin.bytes p) _ ∙ ap (λ rest. g.kept && rest) (sym (all_own_then n k g.twin.state g.twin.bytes p))) i;
    })
  where
    s : State
    s = g.first.state

    b : ℕ → ℕ
    b = g.first.bytes

    n : ℕ
    n = (acted o s b a).tally.own

    k : ℕ
    k = (played o (acted o s b a).state (acted o s b a).bytes actions).tally.own

-- one action of a list
pub rehearsed_more : (o p : ℕ → Bool) (g : Stage) (actions : List Action) (i : ℕ) → i < length actions
    → rehearsed o p g (drop i actions) ≡ rehearsed o p (staged o p g (get_or actions i action.Request)) (drop (i + 1) actions)
rehearsed_more o p g actions i h =
    let cut : drop i actions ≡ get_or actions i action.Request ∷ drop (i + 1) actions = rw (add-one, drop-cons actions i action.Request) in
    ap (rehearsed o p g) cut

-- the calls of one turn lead to the next stage
pub staged_so : (o p : ℕ → Bool) (s : State) (m : Meaning) (t : State) (n : Meaning) (totals : Totals) (all : Bool) (a : Action)
    (tally : Tally) (s' : State) (m' : Meaning) (t' : State) (n' : Meaning) (totals' : Totals) (whole : Bool)
    → m.mark ≡ o → n.mark ≡ p → Acts a s m tally s' m'
    → whole ≡ all_own tally.own t n.byte n.mark
    → t' ≡ (repeated tally.own t n.byte n.mark).state
    → n' ≡ memory_of (repeated tally.own t n.byte n.mark).bytes n.mark
    → totals' ≡ added totals tally
    → staged o p (stage_of s m t n totals all) a ≡ stage_of s' m' t' n' totals' (all && whole)
staged_so o p s m t n totals all a tally s' m' t' n' totals' whole oe pe acts every state memory sum =
    (λ i. staged (sym oe i) (sym pe i) (stage_of s m t n totals all) a)
    ∙ (λ i. record {
      first = record { state = sym acts.state i; bytes = (sym acts.memory i).byte };
      twin = repeated (sym acts.tallies i).own t n.byte n.mark;
      totals = added totals (sym acts.tallies i);
      kept = all && all_own (sym acts.tallies i).own t n.byte n.mark;
    })
    ∙ (λ i. record {
      first = record { state = s'; bytes = m'.byte };
      twin = record { state = sym state i; bytes = (sym memory i).byte };
      totals = sym sum i;
      kept = all && sym every i;
    })

-- one turn of the list
pub turned : (o p : ℕ → Bool) (end : Stage) (actions : List Action) (i : ℕ) (s : State) (m : Meaning) (t : State) (n : Meaning) (totals : Totals) (all : Bool)
    (tally : Tally) (s' : State) (m' : Meaning) (t' : State) (n' : Meaning) (totals' : Totals) (whole : Bool)
    → i < length actions → m.mark ≡ o → n.mark ≡ p → end ≡ rehearsed o p (stage_of s m t n totals all) (drop i actions)
    → Acts (get_or actions i action.Request) s m tally s' m'
    → whole ≡ all_own tally.own t n.byte n.mark
    → t' ≡ (repeated tally.own t n.byte n.mark).state
    → n' ≡ memory_of (repeated tally.own t n.byte n.mark).bytes n.mark
    → totals' ≡ added totals tally
    → end ≡ rehearsed o p (stage_of s' m' t' n' totals' (all && whole)) (drop (i + 1) actions)
turned o p end actions i s m t n totals all tally s' m' t' n' totals' whole h oe pe before acts every state memory sum =
    before
    ∙ rehearsed_more o p (stage_of s m t n totals all) actions i h
    ∙ ap (λ g. rehearsed o p g (drop (i + 1) actions))
    (staged_so o p s m t n totals all (get_or actions i action.Request) tally s' m' t' n' totals' whole oe pe acts every state memory sum)

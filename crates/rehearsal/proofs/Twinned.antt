-- Single steps made in two parts, and steps that are all own steps.
use Rattle.std.proofs.Common.{◌≡◌, ℕ, zero, suc, ◌+◌, Bool, true, ◌&&◌, Result, sym, refl, ap, ◌∙◌, suc-add, zero-add}
use Rattle.std.proofs.Math.Bool.{and_assoc}
use Rattle.machine.specs.declared.answers.Step.{Step}
use Rattle.machine.specs.declared.answers.StepRefusal.{StepRefusal}
use Rattle.machine.specs.declared.states.State.{State}
use Rattle.memory.specs.Meaning.{Meaning}
use Rattle.machine.specs.Steps.{stepped, Steps}
use Rattle.machine.specs.Laws.{repeated}
use Rattle.histories.specs.Laws.{Alone, none, more}
use Rattle.rehearsal.specs.Twins.{made_own, all_own}

-- m steps and then n
pub repeated_then : (m n : ℕ) (s : State) (b : ℕ → ℕ) (o : ℕ → Bool)
    → repeated (m + n) s b o ≡ repeated n (repeated m s b o).state (repeated m s b o).bytes o
repeated_then zero n s b o = ap (λ k. repeated k s b o) (zero-add n)
repeated_then (suc m) n s b o = ap (λ k. repeated k s b o) (suc-add m n) ∙ repeated_then m n (stepped s b o).state (stepped s b o).bytes o

-- all of m + n steps are own steps where the first m and the next n are
pub all_own_then : (m n : ℕ) (s : State) (b : ℕ → ℕ) (o : ℕ → Bool)
    → all_own (m + n) s b o ≡ all_own m s b o && all_own n (repeated m s b o).state (repeated m s b o).bytes o
all_own_then zero n s b o = ap (λ k. all_own k s b o) (zero-add n)
all_own_then (suc m) n s b o =
    ap (λ k. all_own k s b o) (suc-add m n)
    ∙ ap (λ rest. made_own (stepped s b o).answer && rest) (all_own_then m n (stepped s b o).state (stepped s b o).bytes o)
    ∙ sym (and_assoc (made_own (stepped s b o).answer) (all_own m (stepped s b o).state (stepped s b o).bytes o) _)

-- steps that are all own lead where so many single steps lead
pub alone_repeated : (o : ℕ → Bool) {n : ℕ} {s t : State} {b c : ℕ → ℕ} → Alone o n s b t c → repeated n s b o ≡ record { state = t; bytes = c }
alone_repeated o none = refl
alone_repeated o (more e rest) = alone_repeated o rest

-- and are all own
pub alone_all_own : (o : ℕ → Bool) {n : ℕ} {s t : State} {b c : ℕ → ℕ} → Alone o n s b t c → all_own n s b o ≡ true
alone_all_own o none = refl
alone_all_own o (more {n = n} {t = t} {c = c} step rest) =
    ap (λ r. made_own r && all_own n (stepped t c o).state (stepped t c o).bytes o) step ∙ alone_all_own o rest

-- one single step more of the twin, as the step's contract tells it
pub followed : (k : ℕ) (s : State) (m : Meaning) (answer : Result Step StepRefusal) (t : State) (u : Meaning) → Steps s m answer t u
    → (own all whole : Bool) → own ≡ made_own answer → whole ≡ all && all_own (suc k) s m.byte m.mark
    → whole ≡ (all && own) && all_own k t u.byte u.mark
followed k s m answer t u made own all whole same before =
    before
    ∙ sym (and_assoc all (made_own (stepped s m.byte m.mark).answer) _)
    ∙ (λ i. (all && sym (same ∙ ap made_own made.answers) i) && all_own k (sym made.state i) (sym made.memory i).byte (sym made.memory i).mark)

pub repeats : (k : ℕ) (s : State) (m : Meaning) (answer : Result Step StepRefusal) (t : State) (u : Meaning) → Steps s m answer t u
    → repeated (suc k) s m.byte m.mark ≡ repeated k t u.byte u.mark
repeats k s m answer t u made i = repeated k (sym made.state i) (sym made.memory i).byte (sym made.memory i).mark

-- From the contracts of the calls to the report.
use Rattle.std.proofs.Common.{◌≡◌, ℕ, ◌+◌, Bool, true, List, sym, ap, ◌∙◌, subst}
use Rattle.memory.specs.Meaning.{Meaning}
use Rattle.machine.specs.declared.states.ServiceRange.{ServiceRange}
use Rattle.machine.specs.declared.states.State.{State}
use Rattle.machine.specs.Laws.{Standing}
use Rattle.machine.specs.Loads.{fresh}
use Rattle.machine.specs.Steps.{stepped, memory_of}
use Rattle.text.specs.Answer.{answers}
use Rattle.histories.specs.declared.actions.Action.{Action}
use Rattle.rehearsal.specs.declared.reports.Report.{Report}
use Rattle.rehearsal.specs.declared.reports.Totals.{Totals}
use Rattle.rehearsal.specs.Reports.{Compared, layout_of, loaded, Reported, stage, stage_of, standing}
use Rattle.rehearsal.specs.Stages.{Stage, nothing, rehearsed}

-- the two cores as the list leaves them
pub staged_list : (l : List ℕ) (range : ServiceRange) (m n : Meaning) (actions : List Action) (s : State) (m₁ : Meaning) (t : State) (n₁ : Meaning) (end : Stage)
    → s ≡ fresh (layout_of l range) → m₁ ≡ loaded l m → t ≡ fresh (layout_of l range) → n₁ ≡ loaded l n
    → rehearsed m₁.mark n₁.mark (stage_of s m₁ t n₁ nothing true) actions ≡ end → stage l range m n actions ≡ end
staged_list l range m n actions s m₁ t n₁ end es em et en played =
    (λ i. rehearsed (sym em i).mark (sym en i).mark (stage_of (sym es i) (sym em i) (sym et i) (sym en i) nothing true) actions) ∙ played

-- the report of the comparison and the one step more
pub reported_so : (l : List ℕ) (range : ServiceRange) (m n : Meaning) (actions : List Action) (r : Report) (s : State) (m₂ : Meaning) (t : State) (n₂ : Meaning)
    (totals : Totals) (kept : Bool) (limit : ℕ) (m₃ n₃ : Meaning)
    → stage l range m n actions ≡ stage_of s m₂ t n₂ totals kept → m₂.mark ≡ m.mark → n₂.mark ≡ n.mark → limit ≡ (answers l).run + 1
    → r.totals ≡ totals → r.kept ≡ kept → r.limit ≡ limit → Compared (standing s m₂) (standing t n₂) r.program
    → r.next ≡ (stepped s m₂.byte m₂.mark).answer → r.twin_next ≡ (stepped t n₂.byte n₂.mark).answer
    → m₃ ≡ memory_of (stepped s m₂.byte m₂.mark).bytes m₂.mark → n₃ ≡ memory_of (stepped t n₂.byte n₂.mark).bytes n₂.mark
    → Reported l range m n actions r m₃ n₃
reported_so l range m n actions r s m₂ t n₂ totals kept limit m₃ n₃ e em en el rt rk rl rp rn rw mm nn =
    let first : standing s m₂ ≡ (stage l range m n actions).first = sym (ap (λ (x : Stage). x.first) e) in
    let twin : standing t n₂ ≡ (stage l range m n actions).twin = sym (ap (λ (x : Stage). x.twin) e) in
    record {
      totals = rt ∙ sym (ap (λ (x : Stage). x.totals) e);
      kept = rk ∙ sym (ap (λ (x : Stage). x.kept) e);
      limit = rl ∙ el;
      program = subst (λ (x : Standing). Compared x (stage l range m n actions).twin r.program) first
          (subst (λ (x : Standing). Compared (standing s m₂) x r.program) twin rp);
      next = rn ∙ (λ i. (stepped (first i).state (first i).bytes (em i)).answer);
      twin_next = rw ∙ (λ i. (stepped (twin i).state (twin i).bytes (en i)).answer);
      memory = mm ∙ (λ i. memory_of (stepped (first i).state (first i).bytes (em i)).bytes (em i));
      twin_memory = nn ∙ (λ i. memory_of (stepped (twin i).state (twin i).bytes (en i)).bytes (en i));
    }

-- the same of memories that are the same
pub reported_at : (l : List ℕ) (range : ServiceRange) (m n : Meaning) (actions : List Action) (r : Report) (m₃ m₄ n₃ n₄ : Meaning)
    → m₃ ≡ m₄ → n₃ ≡ n₄ → Reported l range m n actions r m₃ n₃ → Reported l range m n actions r m₄ n₄
reported_at l range m n actions r m₃ m₄ n₃ n₄ first twin reported =
    subst (λ x. Reported l range m n actions r x n₄) first (subst (λ x. Reported l range m n actions r m₃ x) twin reported)

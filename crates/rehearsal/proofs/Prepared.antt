-- From the assembler's and the loader's answers to two newly loaded cores.
use Rattle.std.proofs.Common.{◌≡◌, ℕ, ◌/◌, cond, List, ◌++◌, length, take, drop, is_ok, Some, None, Ok, Err, Option, Result, sym, ap, ◌∙◌, subst}
use lib.Seq.{take-append_seam}
use Rattle.std.specs.Result.{IfOk, OnOk, IsErrAnd, MatchResult}
use Rattle.memory.specs.Meaning.{Meaning}
use Rattle.machine.specs.declared.states.ServiceRange.{ServiceRange}
use Rattle.machine.specs.declared.states.State.{State}
use Rattle.machine.specs.declared.states.Layout.{Layout}
use Rattle.text.specs.declared.outcomes.Answers.{Answers}
use Rattle.text.specs.declared.outcomes.Refused.{Refused}
use Rattle.text.specs.Answer.{answers, assembled, failure, or_refused}
use Rattle.text.specs.Image.{image}
use Rattle.text.specs.Hazards.{NoHazard}
use Rattle.text.specs.Runs.{Longest}
use Rattle.text.specs.Sizes.{SizesAgree}
use Rattle.rehearsal.specs.declared.reports.Obstacle.{Obstacle}
use Rattle.rehearsal.specs.declared.reports.Obstacle.TheVariants as obstacle
use Rattle.rehearsal.specs.Reports.{layout_of, buffer_after, Accepted, BothLoaded, Prepared}

unrefused : (f : Option Refused) (a b : Answers) → Ok a ≡ or_refused f b → a ≡ b
unrefused (Some e) a b h = cc
unrefused None a b h = cc

-- what the buffer of an accepted listing holds: the defined answers, the image in front, and past it what was there; and what is promised of it
pub record Written (l before after : List ℕ) (a : Answers) : Type 0 where
  pub same : a ≡ answers l
  pub accepted : assembled l (length before) ≡ Ok (answers l)
  pub front : take a.image after ≡ image l
  pub buffer : after ≡ buffer_after l before
  pub facts : Accepted l

-- the contract of the assembly of an accepted listing says so
pub written_so : (l before after : List ℕ) (r : Result Answers Refused) → r ≡ assembled l (length before)
    → after ≡ cond (is_ok r) (image l ++ drop (length (image l)) before) before → OnOk r (NoHazard l)
    → IfOk r (λ a. Longest (image l) (a.text / 2) a.run) → IfOk r (λ a. SizesAgree l a) → IfOk r (Written l before after)
written_so l before after (Err e) value bytes hazards run sizes = tt
written_so l before after (Ok a) value bytes hazards run sizes =
    let same = unrefused (failure l (length before)) a (answers l) value in
    let size = sizes.written in
    record {
      same = same;
      accepted = sym value ∙ ap Ok same;
      front = ap (λ k. take k after) size ∙ ap (take (length (image l))) bytes ∙ take-append_seam (image l) (drop (length (image l)) before);
      buffer = bytes ∙ ap (λ r. cond (is_ok r) (image l ++ drop (length (image l)) before) before) value;
      facts = record {
        hazards = hazards;
        run = subst (λ (b : Answers). Longest (image l) (b.text / 2) b.run) same run;
        sizes = subst (λ (b : Answers). SizesAgree l b) same sizes;
      };
    }

-- a value that came through `map_err`
answered : {T E D : Type 0} (r : Result T E) (q : Result T D) (P : E → D → Type 0) (a : T)
    → MatchResult r (λ x. q ≡ Ok x) (λ e. IsErrAnd q (P e)) → q ≡ Ok a → r ≡ Ok a
answered (Ok x) q P a h e = cc
answered (Err x) q P a h e = absurd (subst (λ q. IsErrAnd q (P x)) e h)

pub written_by : (l before after : List ℕ) (r : Result Answers Refused) (q : Result Answers Obstacle) (P : Refused → Obstacle → Type 0) (a : Answers)
    → MatchResult r (λ x. q ≡ Ok x) (λ e. IsErrAnd q (P e)) → q ≡ Ok a → IfOk r (Written l before after) → Written l before after a
written_by l before after r q P a cases is written = subst (λ r. IfOk r (Written l before after)) (answered r q P a cases is) written

-- a text length beside a service range
abbrev pub with_text : ServiceRange → ℕ → Layout
with_text range text = record { text = text; service = range }

-- loads of the front of that buffer are loads of the image
module _ (l before after : List ℕ) (a : Answers) (written : Written l before after a) (range : ServiceRange) (m n : Meaning) (s : State) (m' : Meaning) (t : State) (n' : Meaning) where
  of_image : (r : Result Unit Obstacle) → BothLoaded (with_text range a.text) (take a.image after) m n r s m' t n'
      → BothLoaded (layout_of l range) (image l) m n r s m' t n'
  of_image r loads =
      subst (λ (b : Answers). BothLoaded (with_text range b.text) (image l) m n r s m' t n') written.same
      (subst (λ (xs : List ℕ). BothLoaded (with_text range a.text) xs m n r s m' t n') written.front loads)

  refused_by : (o : Obstacle) → BothLoaded (layout_of l range) (image l) m n (Err o) s m' t n' → Prepared l (length before) range m n (Err o) s m' t n'
  refused_by (obstacle.Assembly e) x = absurd x
  refused_by (obstacle.Loading e) x = (written.accepted, x.0, x.1, x.2)
  refused_by (obstacle.TwinLoading e) x = (written.accepted, x.0, x.1, x.2, x.3)

  pub prepared_refused : (r : Result Answers Obstacle) (o : Obstacle) → IsErrAnd r (λ e. e ≡ o)
      → BothLoaded (with_text range a.text) (take a.image after) m n (Err o) s m' t n' → Prepared l (length before) range m n r s m' t n'
  prepared_refused (Ok b) o is loads = absurd is
  prepared_refused (Err e) o is loads = subst (λ e. Prepared l (length before) range m n (Err e) s m' t n') (sym is) (refused_by o (of_image (Err o) loads))

  pub prepared_so : BothLoaded (with_text range a.text) (take a.image after) m n (Ok tt) s m' t n' → Prepared l (length before) range m n (Ok a) s m' t n'
  prepared_so loads = let x = of_image (Ok tt) loads in (written.same, written.accepted, x.0, x.1, x.2, x.3, x.4, x.5)

-- the same over memories that are the same
pub prepared_at : (l : List ℕ) (room : ℕ) (range : ServiceRange) (m m₀ n n₀ : Meaning) (a : Answers) (s : State) (m' : Meaning) (t : State) (n' : Meaning) → m ≡ m₀ → n ≡ n₀
    → Prepared l room range m n (Ok a) s m' t n' → Prepared l room range m₀ n₀ (Ok a) s m' t n'
prepared_at l room range m m₀ n n₀ a s m' t n' em en prepared =
    subst (λ x. Prepared l room range x n₀ (Ok a) s m' t n') em (subst (λ x. Prepared l room range m x (Ok a) s m' t n') en prepared)

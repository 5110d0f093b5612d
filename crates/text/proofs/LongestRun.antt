-- The longest run is one, and none is longer.
use Rattle.std.proofs.Common.{◌≡◌, ℕ, zero, suc, ◌+◌, ◌-◌, ◌≤◌, max, true, false, List, sym, ap, ◌∙◌, subst, ⊎_elim, arith}
use Rattle.std.proofs.lemmas.Bool.{cond_both, cases_eq, cases_lt, false≢true}
use Rattle.text.specs.Runs.{locked, current, longest, Run, Longest}

-- the run that ends at n
record Ends (l : List ℕ) (n r : ℕ) : Type 0 where
  within : r ≤ n
  run : Run l (n - r) r
  most : (k m : ℕ) → k + m ≡ n → Run l k m → m ≤ r

ends : (l : List ℕ) (n : ℕ) → Ends l n (current l n)
unfolding current
ends l zero = record { within = omega arith; run = λ j h. absurd (omega arith); most = λ k m e h. omega arith }
ends l (suc n) = cond_both (locked l n) (current l n + 1) 0 (Ends l (suc n)) (λ e. yes' (ends l n) e) none
  where
    yes' : Ends l n (current l n) → locked l n ≡ true → Ends l (suc n) (current l n + 1)
    yes' p e = record {
      within = omega (arith, p.within);
      run = λ j h. ⊎_elim
          (λ is. let at : suc n - (current l n + 1) + j ≡ n = omega (arith, p.within) in ap (locked l) at ∙ e)
          (λ ne. let at : suc n - (current l n + 1) + j ≡ n - current l n + j = omega (arith, p.within) in ap (locked l) at ∙ p.run j (omega arith))
          (cases_eq j (current l n));
      most = λ k m s h. short p k m s h;
    }
      where
        short : Ends l n (current l n) → (k m : ℕ) → k + m ≡ suc n → Run l k m → m ≤ current l n + 1
        short p k zero s h = omega arith
        short p k (suc m) s h = let le : m ≤ current l n = p.most k m (omega arith) (λ j lt. h j (omega arith)) in omega arith

    none : locked l n ≡ false → Ends l (suc n) 0
    none e = record {
      within = omega arith;
      run = λ j h. absurd (omega arith);
      most = λ k m s h. empty k m s h;
    }
      where
        empty : (k m : ℕ) → k + m ≡ suc n → Run l k m → m ≤ 0
        empty k zero s h = omega arith
        empty k (suc m) s h = let at : k + m ≡ n = omega arith in absurd (false≢true (sym e ∙ ap (locked l) (sym at) ∙ h m (omega arith)))

pub longest_is : (l : List ℕ) (n : ℕ) → Longest l n (longest l n)
unfolding longest
longest_is l zero = record { from = 0; within = omega arith; run = λ j h. absurd (omega arith); most = λ k m le h. omega arith }
longest_is l (suc n) = go (longest l n) (current l (suc n)) (longest_is l n) (ends l (suc n))
  where
    go : (a b : ℕ) → Longest l n a → Ends l (suc n) b → Longest l (suc n) (max a b)
    go a b p q = ⊎_elim
        (λ lt. let is : b ≡ max a b = omega arith in subst (Longest l (suc n)) is (record {
          from = suc n - b;
          within = omega (arith, q.within);
          run = q.run;
          most = λ k m le h. ⊎_elim (λ e. q.most k m e h) (λ ne. let x : m ≤ a = p.most k m (omega arith) h in omega arith) (cases_eq (k + m) (suc n));
        }))
        (λ le. let is : a ≡ max a b = omega arith in subst (Longest l (suc n)) is (record {
          from = p.from;
          within = omega (arith, p.within);
          run = p.run;
          most = λ k m s h. ⊎_elim (λ e. let x : m ≤ b = q.most k m e h in omega arith) (λ ne. p.most k m (omega arith) h) (cases_eq (k + m) (suc n));
        }))
        (cases_lt a b)

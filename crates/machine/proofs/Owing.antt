-- What a service owes, register by register.
use Rattle.std.proofs.Common.{◌≡◌, ℕ, zero, suc, ◌+◌, ◌≤◌, Bool, true, false, cond, eqb, List, get_or, sym, refl, ap, ◌∙◌, arith, Option, Some, None}
use Rattle.std.proofs.lemmas.Bool.Decides.{nat_tests}
use Rattle.machine.specs.declared.states.State.{State}
use Rattle.machine.specs.Checks as check
use Rattle.machine.specs.Laws.{OwingLaws}
use Rattle.machine.proofs.Closing.{undiffering}

-- none differs where all are equal
none_differs : (xs ys : List ℕ) (n : ℕ) → ((k : ℕ) → 1 ≤ k → k ≤ n → get_or xs k 0 ≡ get_or ys k 0) → check.differing xs ys n ≡ 0
none_differs xs ys zero h = refl
none_differs xs ys (suc n) h =
    let e = none_differs xs ys n (λ k one l. h k one (omega arith)) in
    let here = h (n + 1) (omega arith) (omega arith) in
    let f : cond {A = ℕ} (eqb (get_or xs (n + 1) 0) (get_or ys (n + 1) 0)) 0 1 ≡ 0 = grind (arith, nat_tests) in
    omega arith

one_more : (b : Bool) → cond {A = ℕ} b 0 1 ≤ 1
one_more true = omega arith
one_more false = omega arith

-- at most so many differ
few_differ : (xs ys : List ℕ) (n : ℕ) → check.differing xs ys n ≤ n
few_differ xs ys zero = omega arith
few_differ xs ys (suc n) =
    let e = few_differ xs ys n in
    let f = one_more (eqb (get_or xs (n + 1) 0) (get_or ys (n + 1) 0)) in
    omega arith

few_owed : (xs : List ℕ) (v : Option (List ℕ)) → check.owed xs v ≤ 15
few_owed xs None = omega arith
few_owed xs (Some copies) = few_differ xs copies 15

pub owing_laws : (s : State) (count : ℕ) → count ≡ check.owing s → OwingLaws s count
owing_laws s count e =
    let few = few_owed s.registers s.service in
    record {
      shut = λ h. e ∙ ap (check.owed s.registers) h;
      kept = λ copies h z k one small. undiffering s.registers copies 15 (sym (ap (check.owed s.registers) h) ∙ sym e ∙ z) k one (omega arith);
      free = λ copies h all. e ∙ ap (check.owed s.registers) h ∙ none_differs s.registers copies 15 (λ k one l. all k one (omega arith));
      most = omega arith;
    }

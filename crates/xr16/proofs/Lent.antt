-- What the owner of a lent buffer knows of its bytes, from the flat memory's meaning and its loan.
use Rattle.std.proofs.Common.{◌≡◌, ℕ, ◌<◌, true, false, ◌&&◌, ltb, List, length, get_or, ap, inl, inr, arith}
use Rattle.std.proofs.lemmas.Bool.{cases_lt, lt-ltb, le-ltb}
use Rattle.std.proofs.lemmas.Bool.Decides.{nat_tests}
use Rattle.memory.specs.Meaning.{Loan, Meaning, flat, flat_loan, held}
use Rattle.xr16.specs.Lent.{LentBytes}

pub lent_bytes : (m : Meaning) (before after : List ℕ) (n k : ℕ) → flat after ≡ m → flat_loan n after ≡ flat_loan k before
    → ((p : ℕ) → get_or after p 0 < 256) → LentBytes m.byte before after
lent_bytes m before after n k meaning lent small =
    let size : length after ≡ length before = ap (λ (l : Loan). l.size) lent in
    record {
      size = size;
      bytes = λ p h. elim (cases_lt p 65536) [
        | inl low ↦
            let u : ltb p 65536 ≡ true = lt-ltb p 65536 low in
            let w : ltb p (length after) ≡ true = lt-ltb p (length after) (omega arith) in
            let both : ltb p 65536 && ltb p (length after) ≡ true = rw (u, w) in
            let is : held (ltb p 65536 && ltb p (length after)) after p ≡ get_or after p 0 = rw both (let b = small p in omega arith) in
            let byte = ap (λ (x : Meaning). x.byte p) meaning in
            grind (arith, nat_tests)
        | inr high ↦
            let u : ltb p 65536 ≡ false = le-ltb p 65536 high in
            let apart = ap (λ (l : Loan). l.apart p) lent in
            grind (arith, nat_tests)
      ];
    }

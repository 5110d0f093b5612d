-- What the owner of a lent buffer knows of its bytes, from the meaning and the loan after.
use Rattle.std.proofs.Common.{◌≡◌, ℕ, ◌<◌, Bool, true, false, ◌&&◌, ltb, List, length, get_or, sym, ap, ◌∙◌, inl, inr, arith}
use Rattle.std.proofs.lemmas.Bool.{cases_lt, lt-ltb, le-ltb}
use Rattle.std.proofs.lemmas.Bool.Decides.{nat_tests}
use Rattle.memory.specs.Meaning.{flat, flat_loan, held}
use Rattle.memory.specs.Pages.{mapped, mapped_loan, place}
use Rattle.memory.specs.Words.{stored_image}
use Rattle.memory.specs.Lending.{FlatBytes, MappedBytes}

-- a byte that is held where it is reached
held_byte : (reached : Bool) (xs : List ℕ) (p : ℕ) → reached ≡ true → get_or xs p 0 < 256 → held reached xs p ≡ get_or xs p 0
held_byte reached xs p e h = rw e (omega arith)

pub flat_bytes : (image before after : List ℕ) (n k : ℕ)
    → flat after ≡ stored_image (flat before) image → flat_loan n after ≡ flat_loan k before
    → ((p : ℕ) → get_or before p 0 < 256) → ((p : ℕ) → get_or after p 0 < 256) → FlatBytes image before after
flat_bytes image before after n k meaning lent small small' =
    let size : length after ≡ length before = ap (λ l. l.size) lent in
    record {
      size = size;
      bytes = λ p h. elim (cases_lt p 65536) [
        | inl low ↦
            let u : ltb p 65536 ≡ true = lt-ltb p 65536 low in
            let v : ltb p (length before) ≡ true = lt-ltb p (length before) h in
            let w : ltb p (length after) ≡ true = rw size v in
            let was : held (ltb p 65536 && ltb p (length before)) before p ≡ get_or before p 0 = held_byte _ before p (grind (arith, nat_tests)) (small p) in
            let is : held (ltb p 65536 && ltb p (length after)) after p ≡ get_or after p 0 = held_byte _ after p (grind (arith, nat_tests)) (small' p) in
            let byte = ap (λ m. m.byte p) meaning in
            grind (arith, nat_tests)
        | inr high ↦
            let u : ltb p 65536 ≡ false = le-ltb p 65536 high in
            let apart = ap (λ l. l.apart p) lent in
            grind (arith, nat_tests)
      ];
    }

pub mapped_bytes : (words words' image before after : List ℕ) (n k : ℕ) → words' ≡ words
    → mapped words' after ≡ stored_image (mapped words before) image → mapped_loan n words' after ≡ mapped_loan k words before
    → ((p : ℕ) → get_or before p 0 < 256) → ((p : ℕ) → get_or after p 0 < 256) → MappedBytes words image before after
mapped_bytes words words' image before after n k same meaning lent small small' =
    let size : length after ≡ length before = ap (λ l. l.size) lent in
    let meaning' : mapped words after ≡ stored_image (mapped words before) image = ap (λ ws. mapped ws after) (sym same) ∙ meaning in
    let lent' : mapped_loan n words after ≡ mapped_loan k words before = ap (λ ws. mapped_loan n ws after) (sym same) ∙ lent in
    record {
      size = size;
      bytes = λ a low h.
          let p = place words a in
          let u : ltb a 65536 ≡ true = lt-ltb a 65536 low in
          let v : ltb p (length before) ≡ true = lt-ltb p (length before) h in
          let w : ltb p (length after) ≡ true = rw size v in
          let was : held (ltb a 65536 && ltb p (length before)) before p ≡ get_or before p 0 = held_byte _ before p (grind (arith, nat_tests)) (small p) in
          let is : held (ltb a 65536 && ltb p (length after)) after p ≡ get_or after p 0 = held_byte _ after p (grind (arith, nat_tests)) (small' p) in
          let byte = ap (λ m. m.byte a) meaning' in
          grind (arith, nat_tests);
      apart = λ p free. let apart = ap (λ l. l.apart p) lent' in grind (arith, nat_tests);
    }

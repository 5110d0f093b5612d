-- The proofs that each memory gives with its meaning.
use Rattle.std.specs.Prelude.{ℕ, ◌<◌, Bool, true, false, List}
use Rattle.std.proofs.Common.{arith}
use Rattle.std.proofs.lemmas.Bool.{le-ltb}
use Rattle.memory.specs.Meaning.{Lawful, held, flat, flat_mark}
use Rattle.memory.specs.Pages.{mapped, reached, place}

-- a held byte is below 256
pub held_small : (b : Bool) (buffer : List ℕ) (p : ℕ) → held b buffer p < 256
held_small true buffer p = omega arith
held_small false buffer p = omega arith

-- flat memory is lawful
pub flat_lawful : (buffer : List ℕ) → Lawful (flat buffer)
flat_lawful buffer =
    record {
      small = λ a. held_small (flat_mark buffer a) buffer a;
      beyond = λ a h. (rw (le-ltb a 65536 h), rw (le-ltb a 65536 h));
    }

-- mapped memory is lawful
pub mapped_lawful : (words buffer : List ℕ) → Lawful (mapped words buffer)
mapped_lawful words buffer =
    record {
      small = λ a. held_small (reached words buffer a) buffer (place words a);
      beyond = λ a h. (rw (le-ltb a 65536 h), rw (le-ltb a 65536 h));
    }

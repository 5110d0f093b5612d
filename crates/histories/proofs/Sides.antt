-- The first core beside its twin: what holds of the two at every moment.
use Rattle.std.proofs.Common.{◌≡◌, ℕ, zero, suc, ◌+◌, ◌/◌, ◌%◌, ◌<◌, Bool, true, false, cond, ◌&&◌, eqb, ◌≢◌, List, length, get_or, set, None, sym, refl, ap, ◌∙◌, arith, Some, Option}
use Rattle.std.proofs.lemmas.List.{get_or-set_other, set_comm}
use Rattle.std.proofs.lemmas.Bool.Decides.{nat_tests}
use Rattle.memory.specs.Meaning.{stored}
use Rattle.memory.specs.Words.{word_at}
use Rattle.operations.specs.declared.values.Width.{Width}
use Rattle.operations.specs.declared.values.Width.TheVariants as width
use Rattle.operations.specs.Forerunners.{is_sum}
use Rattle.machine.specs.declared.states.Layout.{Layout}
use Rattle.machine.specs.declared.states.State.{State}
use Rattle.machine.specs.Layouts.{inside, is_word}
use Rattle.machine.specs.Steps.{memory_of, loaded, stored_as, written, asked}
use Rattle.histories.specs.Texts.{NoExtended}
use Rattle.histories.proofs.Kept.{Laid, inside_word, same_pair, word_even}
use Rattle.histories.proofs.Words.{Fore}

-- the same bytes outside the service range
abbrev pub Outside : Layout → (ℕ → ℕ) → (ℕ → ℕ) → Type 0
Outside l b c = (a : ℕ) → a < 65536 → inside l a ≡ false → b a ≡ c a

-- the same marks
abbrev pub SameMarks : (ℕ → Bool) → (ℕ → Bool) → Type 0
SameMarks o o' = (a : ℕ) → a < 65536 → o a ≡ o' a

-- the registers but r14
abbrev pub rest : List ℕ → List ℕ
rest xs = set xs 14 0

-- no service is open in the first: the two run the same word
pub record Together (s t : State) : Type 0 where
  pub counter : s.counter ≡ t.counter
  pub prefix : s.prefix ≡ t.prefix
  pub registers : rest s.registers ≡ rest t.registers
  pub fore : Fore s.forerunner t.forerunner
  pub bare : s.interruptible ≡ true → s.prefix ≡ None
  pub clear : s.interruptible ≡ true → is_sum s.forerunner ≡ false

-- a service is open in the first: its copies stand for the twin's registers, copy 14 for the twin's counter
pub record Away (copies : List ℕ) (t : State) : Type 0 where
  pub counter : get_or copies 14 0 ≡ t.counter
  pub prefix : t.prefix ≡ None
  pub registers : rest copies ≡ rest t.registers
  pub full : length copies ≡ 16
  pub zero : get_or copies 0 0 ≡ 0
  pub clear : is_sum t.forerunner ≡ false

abbrev pub Standing : State → Option (List ℕ) → State → Type 0
Standing s None t = Together s t
Standing s (Some copies) t = Away copies t

pub record Sim (s : State) (b : ℕ → ℕ) (t : State) (c : ℕ → ℕ) : Type 0 where
  pub layout : s.layout ≡ t.layout
  pub laid : Laid s.layout
  pub alone : t.service ≡ None
  pub quiet : t.pending ≡ None
  pub outside : Outside s.layout b c
  pub plain : NoExtended s.layout b
  pub made : s.made ≡ t.made
  pub even : t.counter % 2 ≡ 0
  pub bound : t.counter < 65536
  pub long : length s.registers ≡ 16
  pub zero : get_or s.registers 0 0 ≡ 0
  pub standing : Standing s s.service t

-- A request changes nothing of it

standing_asked : (s t : State) (v : Option (List ℕ)) → Standing s v t → Standing (asked s) v t
standing_asked s t None h =
    record { counter = h.counter; prefix = h.prefix; registers = h.registers; fore = h.fore; bare = h.bare; clear = h.clear }
standing_asked s t (Some copies) h = h

pub sim_asked : (s : State) (b : ℕ → ℕ) (t : State) (c : ℕ → ℕ) → Sim s b t c → Sim (asked s) b t c
sim_asked s b t c m = record {
  layout = m.layout;
  laid = m.laid;
  alone = m.alone;
  quiet = m.quiet;
  outside = m.outside;
  plain = m.plain;
  made = m.made;
  even = m.even;
  bound = m.bound;
  long = m.long;
  zero = m.zero;
  standing = standing_asked s t s.service m.standing;
}

-- Memory

pub same_word : (l : Layout) (b c : ℕ → ℕ) (a : ℕ) → Laid l → Outside l b c → a % 2 ≡ 0 → a < 65536 → inside l a ≡ false → word_at b a ≡ word_at c a
same_word l b c a laid out even small h =
    same_pair b c a (omega arith) (out a small h) (out (a + 1) (omega arith) (inside_word l a false laid even h))

-- what is loaded from outside the range is the same
pub same_loaded : (l : Layout) (b c : ℕ → ℕ) (w : Width) (a : ℕ) → Laid l → Outside l b c → (is_word w && eqb (a % 2) 1) ≡ false → a < 65536 → inside l a ≡ false
    → loaded b w a ≡ loaded c w a
same_loaded l b c (width.Byte) a laid out even small h = out a small h
same_loaded l b c (width.Word) a laid out even small h = same_word l b c a laid out (word_even width.Word a even refl) small h

same_stored : (b c : ℕ → ℕ) (o o' : ℕ → Bool) (a v x : ℕ) → o a ≡ o' a → b x ≡ c x → (stored (memory_of b o) a v).byte x ≡ (stored (memory_of c o') a v).byte x
same_stored b c o o' a v x e f = ap (λ q. cond (q && eqb x a) v (b x)) e ∙ ap (λ y. cond (o' a && eqb x a) v y) f

-- the same store in both
pub outside_stored : (l : Layout) (b c : ℕ → ℕ) (o o' : ℕ → Bool) (w : Width) (a v : ℕ) → SameMarks o o' → a < 65280 → Outside l b c
    → Outside l (stored_as b o w a v) (stored_as c o' w a v)
outside_stored l b c o o' (width.Byte) a v marks low out x small h = same_stored b c o o' a (v % 256) x (marks a (omega arith)) (out x small h)
outside_stored l b c o o' (width.Word) a v marks low out x small h =
    same_stored (stored (memory_of b o) a (v / 256)).byte (stored (memory_of c o') a (v / 256)).byte o o' ((a + 1) % 65536) (v % 256) x
    (marks ((a + 1) % 65536) (omega arith)) (same_stored b c o o' a (v / 256) x (marks a (omega arith)) (out x small h))

-- Registers

pub read_rest : (xs ys : List ℕ) (k : ℕ) → rest xs ≡ rest ys → (k ≡ 14 → ⊥) → get_or xs k 0 ≡ get_or ys k 0
read_rest xs ys k e ne = sym (get_or-set_other xs 14 k 0 0 ne) ∙ ap (λ l. get_or l k 0) e ∙ get_or-set_other ys 14 k 0 0 ne

pub write_rest : (xs ys : List ℕ) (k v : ℕ) → rest xs ≡ rest ys → eqb k 14 ≡ false → rest (written xs k v) ≡ rest (written ys k v)
write_rest xs ys k v e h =
    let ne : k ≢ 14 = grind (arith, nat_tests) in
    elim (eqb k 0) as (λ q. rest (cond q xs (set xs k v)) ≡ rest (cond q ys (set ys k v))) [
      | true ↦ e
      | false ↦ set_comm xs k 14 v 0 ne ∙ ap (λ l. set l k v) e ∙ sym (set_comm ys k 14 v 0 ne)
    ]

-- r0 stays 0
pub zero_written : (xs : List ℕ) (r v : ℕ) → get_or xs 0 0 ≡ 0 → get_or (written xs r v) 0 0 ≡ 0
zero_written xs zero v h = h
zero_written xs (suc n) v h =
    let e : eqb (suc n) 0 ≡ false = grind (arith, nat_tests) in
    let ne : 0 ≢ suc n = omega arith in
    simp (e, get_or-set_other) h

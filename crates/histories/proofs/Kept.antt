-- The program text never changes, so what was asked of it as loaded holds always.
use Rattle.std.proofs.Common.{◌≡◌, ℕ, ◌+◌, ◌*◌, ◌%◌, ◌<◌, ◌≤◌, Bool, true, false, ◌&&◌, eqb, leb, Result, sym, refl, ap, ◌∙◌, subst, arith}
use Rattle.std.proofs.lemmas.Bool.{and_parts}
use Rattle.std.proofs.lemmas.Bool.Decides.{nat_tests}
use Rattle.isa.specs.declared.refusals.Refusal.{Refusal}
use Rattle.isa.specs.declared.instructions.Instruction.{Instruction}
use Rattle.isa.specs.Registers.{reads_interlocked}
use Rattle.isa.specs.Words.{read_word}
use Rattle.memory.specs.Words.{word_at}
use Rattle.operations.specs.declared.values.Effect.{Effect}
use Rattle.operations.specs.declared.values.Width.{Width}
use Rattle.operations.specs.declared.values.Width.TheVariants as width
use Rattle.machine.specs.declared.states.Side.{Side}
use Rattle.machine.specs.declared.states.Side.TheVariants as side
use Rattle.machine.specs.declared.states.Layout.{Layout}
use Rattle.machine.specs.declared.states.State.{State}
use Rattle.machine.specs.declared.states.Plan.{Plan}
use Rattle.machine.specs.Layouts.{inside, is_word}
use Rattle.machine.specs.Steps.{bytes_after}
use Rattle.machine.specs.Loads.{fits}
use Rattle.machine.proofs.Lawful.{Lawful}
use Rattle.machine.proofs.Stores.{own_text, service_range}
use Rattle.histories.specs.Texts.{reads_extended, InProgram, NoExtended, NoHazard, RunsWithin}

-- the range has even ends, and text is whole and ends below the devices
pub record Laid (l : Layout) : Type 0 where
  pub low : l.service.low % 2 ≡ 0
  pub high : l.service.high % 2 ≡ 0
  pub whole : l.text % 16 ≡ 0
  pub text : l.text ≤ 65280

-- a layout that fits is laid
pub laid : (l : Layout) (size : ℕ) → fits l size ≡ true → Laid l
laid l size h =
    let a = and_parts (eqb (l.text % 16) 0) _ h in
    let b = and_parts (leb l.text size) _ a.1 in
    let c = and_parts (leb size 65280) _ b.1 in
    let d = and_parts (eqb (l.service.low % 2) 0) _ c.1 in
    let e = and_parts (eqb (l.service.high % 2) 0) _ d.1 in
    let x = a.0 in
    let y = b.0 in
    let z = c.0 in
    let u = d.0 in
    let v = e.0 in
    let p : l.text ≤ size = grind (arith, nat_tests) in
    let q : size ≤ 65280 = grind (arith, nat_tests) in
    record { low = grind (arith, nat_tests); high = grind (arith, nat_tests); whole = grind (arith, nat_tests); text = omega arith }

-- a word that passed the check of odd addresses stands at an even one
pub word_even : (w : Width) (a : ℕ) → (is_word w && eqb (a % 2) 1) ≡ false → is_word w ≡ true → a % 2 ≡ 0
word_even (width.Byte) a h k = cc
word_even (width.Word) a h k = grind (arith, nat_tests)

-- an address below the devices
pub below_devices : (a : ℕ) → leb 65280 a ≡ false → a < 65280
below_devices a h = grind (arith, nat_tests)

-- a word at an address inside the range lies inside it whole, and the same outside
pub inside_word : (l : Layout) (a : ℕ) (q : Bool) → Laid l → a % 2 ≡ 0 → inside l a ≡ q → inside l (a + 1) ≡ q
inside_word l a true laid even h =
    let low = laid.low in
    let high = laid.high in
    grind (arith, nat_tests)
inside_word l a false laid even h =
    let low = laid.low in
    let high = laid.high in
    grind (arith, nat_tests)

-- every byte of the program text is as it was
abbrev pub TextKept : Layout → (ℕ → ℕ) → (ℕ → ℕ) → Type 0
TextKept l b c = (a : ℕ) → a < l.text → inside l a ≡ false → c a ≡ b a

pub text_refl : (l : Layout) (b : ℕ → ℕ) → TextKept l b b
text_refl l b a h k = refl

pub text_then : (l : Layout) (b c d : ℕ → ℕ) → TextKept l b c → TextKept l c d → TextKept l b d
text_then l b c d p q a h k = q a h k ∙ p a h k

-- the same two bytes make the same word
pub same_pair : (b c : ℕ → ℕ) (a : ℕ) → a < 65535 → b a ≡ c a → b (a + 1) ≡ c (a + 1) → word_at b a ≡ word_at c a
same_pair b c a small high low = let next : (a + 1) % 65536 ≡ a + 1 = omega arith in rw next (cc)

pub word_kept : (l : Layout) (b c : ℕ → ℕ) (a : ℕ) → Laid l → TextKept l b c → InProgram l a → word_at c a ≡ word_at b a
word_kept l b c a laid kept h =
    let whole = laid.whole in
    let top = laid.text in
    let even = h.even in
    let text = h.text in
    same_pair c b a (omega arith) (kept a text h.apart) (kept (a + 1) (omega arith) (inside_word l a false laid even h.apart))

-- what the premises say of one text they say of any that has the same program text
pub unextended_kept : (l : Layout) (b c : ℕ → ℕ) → Laid l → TextKept l b c → NoExtended l b → NoExtended l c
unextended_kept l b c laid kept h a k = ap reads_extended (word_kept l b c a laid kept k) ∙ h a k

pub unhazardous_kept : (l : Layout) (b c : ℕ → ℕ) → Laid l → TextKept l b c → NoHazard l b → NoHazard l c
unhazardous_kept l b c laid kept h a p q i j ei ej =
    h a p q i j (sym (ap read_word (word_kept l b c a laid kept p)) ∙ ei) (sym (ap read_word (word_kept l b c (a + 2) laid kept q)) ∙ ej)

-- and of the runs of any with the same text
pub runs_kept : (size : ℕ) (b c : ℕ → ℕ) (longest : ℕ) → size % 2 ≡ 0 → size ≤ 65280 → ((a : ℕ) → a < size → c a ≡ b a) → RunsWithin size b longest → RunsWithin size c longest
runs_kept size b c longest even small same h a n run =
    h a n (record {
      even = run.even;
      each = λ k j.
          let x = run.each k j in
          let top = x.0 in
          let from = run.even in
          let at : ℕ = a + 2 * k in
          (top, ap reads_interlocked (sym (same_pair c b at (omega arith) (same at top) (same (at + 1) (omega arith)))) ∙ x.1);
    })

-- no word that is made changes the program text
pub text_after : (s : State) (b : ℕ → ℕ) (o : ℕ → Bool) (d : Side) (q : Bool) (r : Result Instruction Refusal) (p : Plan) → Laid s.layout → Lawful s d q r p
    → TextKept s.layout b (bytes_after b o p.effect)
text_after s b o (side.Own) q r p laid l x t k = own_text b o s.layout p.effect l.memory l.allowed x t
text_after s b o (side.Service) q r p laid l x t k = service_range b o s.layout laid.high p.effect l.even l.memory l.allowed x k

-- so a plain text stays plain
pub unextended_after : (s : State) (b : ℕ → ℕ) (o : ℕ → Bool) (d : Side) (q : Bool) (r : Result Instruction Refusal) (p : Plan) → Laid s.layout → Lawful s d q r p
    → NoExtended s.layout b → (e : Effect) → p.effect ≡ e → NoExtended s.layout (bytes_after b o e)
unextended_after s b o d q r p laid l plain e ee = subst (λ x. NoExtended s.layout (bytes_after b o x)) ee
    (unextended_kept s.layout b (bytes_after b o p.effect) laid (text_after s b o d q r p laid l) plain)

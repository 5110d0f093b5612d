-- Writing and reading records are one another's inverse.
use Rattle.std.proofs.Common.{◌≡◌, ℕ, ◌+◌, ◌*◌, ◌/◌, ◌%◌, ◌<◌, Bool, true, eqb, List, [], ◌∷◌, ◌++◌, length, get_or, Some, None, Ok, Err, Option, refl, ap, ◌∙◌, subst, arith, lit<, to_z-of_z, w32, SFits, to_z, of_z}
use mir.Facts.{Fits-of_z, of_z-to_z}
use Rattle.std.proofs.lemmas.Bool.{cond-true, eqb-true}
use Rattle.isa.specs.declared.refusals.Refusal.TheVariants as refusal
use Rattle.listing.proofs.Below.{every, below}
use Rattle.isa.specs.declared.instructions.RegisterFunction.TheVariants.{And}
use Rattle.isa.specs.declared.instructions.ImmediateFunction.TheVariants.{Andi}
use Rattle.isa.specs.declared.instructions.Condition.TheVariants.{Br}
use Rattle.listing.specs.declared.records.Operation.{Operation}
use Rattle.listing.specs.declared.records.Operation.TheVariants.{Register, Immediate, Branch}
use Rattle.listing.specs.declared.records.Record.{Record}
use Rattle.listing.specs.Reading.{wide, operation_of, record_with, record_of, read_record}
use Rattle.listing.specs.Packing.{operation_number, head_of, wide_bytes, record_bytes, in_size, InSize, ReadsBack}

-- an operation's number is of seven bits, and names that operation
abbrev Numbered : Operation → Type 0
Numbered o = (operation_number o < 128) × (operation_of (operation_number o) ≡ Some o)

numbered : (o : Operation) → Numbered o
numbered (Register And) = (lit< tt, refl)
numbered (Register _) = (lit< tt, refl)
numbered (Immediate Andi) = (lit< tt, refl)
numbered (Immediate _) = (lit< tt, refl)
numbered (Branch Br) = (lit< tt, refl)
numbered (Branch _) = (lit< tt, refl)
numbered _ = (lit< tt, refl)

-- the test of the sizes tells
sized : (r : Record) → InSize r → in_size r ≡ true
sized r h = grind (arith, h.rd, h.ra, h.rb, h.reference, h.label)

-- the four bytes of a number make it
whole : (n : ℕ) → n < 4294967296 → n / 16777216 % 256 * 16777216 + n / 65536 % 256 * 65536 + n / 256 % 256 * 256 + n % 256 ≡ n
whole n h =
    let a : n / 65536 ≡ n / 256 / 256 = omega arith in
    let b : n / 16777216 ≡ n / 65536 / 256 = omega arith in
    let c : n / 16777216 % 256 ≡ n / 16777216 = omega arith in
    omega arith

-- the fields stand in the head
pub reads_bytes : (r : Record) → InSize r → SFits w32 r.constant → read_record (record_bytes r) ≡ Some r
reads_bytes r h f =
    let n : ℕ = head_of r in
    let m : ℕ = of_z w32 r.constant in
    let small : operation_number r.operation < 128 = (numbered r.operation).0 in
    let fits : n < 4294967296 = omega arith in
    let eo : n / 0x200_0000 ≡ operation_number r.operation = omega arith in
    let ed : n / 0x20_0000 % 16 ≡ r.rd = omega arith in
    let ea : n / 0x2_0000 % 16 ≡ r.ra = omega arith in
    let eb : n / 0x2000 % 16 ≡ r.rb = omega arith in
    let er : n / 0x1000 % 2 ≡ r.reference = omega arith in
    let el : n % 0x1000 ≡ r.label = omega arith in
    let ec : to_z w32 m ≡ r.constant = to_z-of_z f in
    (λ i. record_of (whole n fits i) (whole m (Fits-of_z f).fits i))
    ∙ (λ i. record_with (operation_of (eo i)) n m)
    ∙ (λ i. record_with ((numbered r.operation).1 i) n m)
    ∙ (λ i. Some (record { operation = r.operation; rd = ed i; ra = ea i; rb = eb i; reference = er i; label = el i; constant = ec i }))

-- a number of seven bits is the number of the operation that it names, where it names one: as a test, which antt computes at every number
names : Option Operation → ℕ → Bool
names (Some o) n = eqb (operation_number o) n
names None n = true

same_number : (n : ℕ) → n < 128 → (o : Operation) → operation_of n ≡ Some o → operation_number o ≡ n
unfolding every names
same_number n h o e =
    eqb-true (operation_number o) n (subst (λ x. names x n ≡ true) e (below (λ v. names (operation_of v) v) 128 refl n h))

-- the fields of a head make it
joined : (n o : ℕ) → o ≡ n / 0x200_0000
    → o * 0x200_0000 + n / 0x20_0000 % 16 * 0x20_0000 + n / 0x2_0000 % 16 * 0x2_0000 + n / 0x2000 % 16 * 0x2000 + n / 0x1000 % 2 * 0x1000 + n % 0x1000 ≡ n
joined n o e =
    let a : n / 0x2000 ≡ n / 0x1000 / 2 = omega arith in
    let b : n / 0x2_0000 ≡ n / 0x2000 / 16 = omega arith in
    let c : n / 0x20_0000 ≡ n / 0x2_0000 / 16 = omega arith in
    let d : n / 0x200_0000 ≡ n / 0x20_0000 / 16 = omega arith in
    omega arith

-- what is read of two numbers of 32 bits is written as their bytes
numbers_back : (l : List ℕ) (n m : ℕ) → wide l 0 ≡ n → wide_bytes n ++ wide_bytes m ≡ l → n < 4294967296 → m < 4294967296
    → (found : Option Operation) → operation_of (n / 0x200_0000) ≡ found → ReadsBack l (record_with found n m)
numbers_back l n m w e hn hm (Some o) q =
    let seven : n / 0x200_0000 < 128 = omega arith in
    let k : operation_number o ≡ n / 0x200_0000 = same_number (n / 0x200_0000) seven o q in
    let r : Record = record {
      operation = o;
      rd = n / 0x20_0000 % 16;
      ra = n / 0x2_0000 % 16;
      rb = n / 0x2000 % 16;
      reference = n / 0x1000 % 2;
      label = n % 0x1000;
      constant = to_z w32 m;
    } in
    let h : InSize r = record { rd = omega arith; ra = omega arith; rb = omega arith; reference = omega arith; label = omega arith } in
    let a : head_of r ≡ n = joined n (operation_number o) k in
    cond-true (in_size r) (Ok (record_bytes r)) (Err refusal.Field) (sized r h)
    ∙ (λ i. Ok (wide_bytes (a i) ++ wide_bytes (of_z-to_z {w = w32} {n = m} (record { fits = hm }) i)))
    ∙ ap Ok e
numbers_back l n m w e hn hm None q =
    λ o z. let y = (numbered o).1 in let x : operation_number o ≡ n / 0x200_0000 = z ∙ ap (λ v. v / 0x200_0000) w in absurd cc

-- a list of eight
eight : (l : List ℕ) → length l ≡ 8
    → get_or l 0 0 ∷ get_or l 1 0 ∷ get_or l 2 0 ∷ get_or l 3 0 ∷ get_or l 4 0 ∷ get_or l 5 0 ∷ get_or l 6 0 ∷ get_or l 7 0 ∷ [] ≡ l
eight (a ∷ b ∷ c ∷ d ∷ f ∷ g ∷ h ∷ k ∷ []) e = refl
eight l e = absurd (omega arith)

-- the bytes of the number that four bytes make
parts : (a b c d : ℕ) → a < 256 → b < 256 → c < 256 → d < 256
    → wide_bytes (a * 16777216 + b * 65536 + c * 256 + d) ≡ a ∷ b ∷ c ∷ d ∷ []
parts a b c d ha hb hc hd =
    let n : ℕ = a * 16777216 + b * 65536 + c * 256 + d in
    let ea : n / 16777216 % 256 ≡ a = omega arith in
    let eb : n / 65536 % 256 ≡ b = omega arith in
    let ec : n / 256 % 256 ≡ c = omega arith in
    let ed : n % 256 ≡ d = omega arith in
    λ i. ea i ∷ eb i ∷ ec i ∷ ed i ∷ []

pub reads_back : (l : List ℕ) → length l ≡ 8 → ((k : ℕ) → get_or l k 0 < 256) → ReadsBack l (read_record l)
reads_back l long h =
    let first = parts (get_or l 0 0) (get_or l 1 0) (get_or l 2 0) (get_or l 3 0) (h 0) (h 1) (h 2) (h 3) in
    let last = parts (get_or l 4 0) (get_or l 5 0) (get_or l 6 0) (get_or l 7 0) (h 4) (h 5) (h 6) (h 7) in
    let n : wide l 0 < 4294967296 = omega (arith, h 0, h 1, h 2, h 3) in
    let m : wide l 4 < 4294967296 = omega (arith, h 4, h 5, h 6, h 7) in
    numbers_back l (wide l 0) (wide l 4) refl ((λ i. first i ++ last i) ∙ eight l long) n m (operation_of (wide l 0 / 0x200_0000)) refl

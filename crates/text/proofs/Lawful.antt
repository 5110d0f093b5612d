-- What the meaning of a record keeps to: registers in size, no prefix of its own, immediates of the right kind.
use Rattle.std.proofs.Common.{◌≡◌, ℕ, ◌+◌, ◌*◌, ◌/◌, ◌<◌, ltb, List, Some, None, Option, refl, subst, arith, lit<}
use Rattle.std.proofs.lemmas.Bool.{cond_both}
use Rattle.isa.specs.Words.{immediate_number}
use Rattle.isa.specs.Laws.{InSize}
use Rattle.listing.specs.Operands.{with_immediate}
use Rattle.listing.specs.declared.records.Operation.{Operation}
use Rattle.listing.specs.declared.records.Operation.TheVariants.{Add, Sub, Addi, Register, Immediate, Lw, Lb, Sw, Sb, Jal, Call, Branch, Cmp, Cmpi, J}
use Rattle.listing.specs.declared.records.Operation.TheVariants.{Lea, Lbs, Nop, Mov, Ret, Reti, Sxt, Subi, Zext}
use Rattle.listing.specs.declared.items.Body.{Body}
use Rattle.listing.specs.declared.items.First.{First}
use Rattle.listing.specs.declared.items.First.TheVariants as first
use Rattle.listing.specs.declared.items.Rest.{Rest}
use Rattle.listing.specs.declared.items.Rest.TheVariants as rest
use Rattle.listing.specs.declared.records.Record.{Record}
use Rattle.listing.specs.declared.items.Item.{Item}
use Rattle.listing.specs.declared.items.Item.TheVariants as item
use Rattle.listing.specs.Reading.{wide, operation_of, record_at, record_with}
use Rattle.listing.specs.Meaning.{meaning, meaning_of}
use Rattle.isa.specs.Immediates.{immediate_field}
use Rattle.text.specs.Immediates.{prefix_of}

abbrev pub LawfulFirst : First → Type 0
LawfulFirst (first.Word i) = InSize i × (prefix_of i ≡ None)
LawfulFirst (first.Field g i) = InSize i × ((n : ℕ) → immediate_field (with_immediate i n) ≡ Some (record { form = g; bits = n }))
LawfulFirst (first.Repeat f d) = d < 16
LawfulFirst (first.Move d a) = (d < 16) × (a < 16)
LawfulFirst _ = Unit {0}

abbrev pub LawfulRest : Rest → Type 0
LawfulRest rest.Nothing = Unit {0}
LawfulRest (rest.Zero d) = d < 16
LawfulRest (rest.Sign d) = d < 16
LawfulRest (rest.Both d) = d < 16

abbrev pub Lawful : Item → Type 0
Lawful (item.Words b) = LawfulFirst b.first × LawfulRest b.rest
Lawful _ = Unit {0}

lawful : (o : Operation) (d a b : ℕ) → d < 16 → a < 16 → b < 16 → Lawful (meaning_of o d a b)
lawful Add d a b x y z = (((x, y, z), refl), tt)
lawful Sub d a b x y z = (((x, y, z), refl), tt)
lawful Addi d a b x y z = (((x, y, lit< tt), λ n. refl), tt)
lawful (Register f) d a b x y z = (((x, z), refl), tt)
lawful (Immediate f) d a b x y z = cond_both (ltb (immediate_number f) 6) _ _ Lawful (λ _. (((x, lit< tt), λ n. refl), tt)) (λ _. (x, tt))
lawful Lw d a b x y z = (((x, y, lit< tt), λ n. refl), tt)
lawful Lb d a b x y z = (((x, y, lit< tt), λ n. refl), tt)
lawful Sw d a b x y z = (((x, y, lit< tt), λ n. refl), tt)
lawful Sb d a b x y z = (((x, y, lit< tt), λ n. refl), tt)
lawful Jal d a b x y z = (((x, y, lit< tt), λ n. refl), tt)
lawful Call d a b x y z = (tt, tt)
lawful (Branch c) d a b x y z = (tt, tt)
lawful Cmp d a b x y z = (((lit< tt, y, z), refl), tt)
lawful Cmpi d a b x y z = (((lit< tt, y, lit< tt), λ n. refl), tt)
lawful J d a b x y z = (((lit< tt, y, lit< tt), λ n. refl), tt)
lawful Lea d a b x y z = (((x, y, lit< tt), λ n. refl), tt)
lawful Lbs d a b x y z = (((x, y, lit< tt), λ n. refl), x)
lawful Nop d a b x y z = (((lit< tt, lit< tt), refl), tt)
lawful Mov d a b x y z = (((x, y, lit< tt), refl), tt)
lawful Ret d a b x y z = (((lit< tt, lit< tt, lit< tt), refl), tt)
lawful Reti d a b x y z = (((lit< tt, lit< tt, lit< tt), refl), tt)
lawful Sxt d a b x y z = ((x, y), x)
lawful Subi d a b x y z = (((x, y, lit< tt), λ n. refl), tt)
lawful Zext d a b x y z = ((x, y), x)
lawful _ d a b x y z = tt

-- a record of the listing
Fields : Option Record → Type 0
Fields None = Unit {0}
Fields (Some r) = (r.rd < 16) × (r.ra < 16) × (r.rb < 16)

fields : (o : Option Operation) (h t : ℕ) → Fields (record_with o h t)
unfolding Fields
fields None h t = tt
fields (Some op) h t = (omega arith, omega arith, omega arith)

pub body_lawful : (l : List ℕ) (n : ℕ) (r : Record) (b : Body) → record_at l n ≡ Some r → meaning r ≡ item.Words b → LawfulFirst b.first × LawfulRest b.rest
unfolding Fields
body_lawful l n r b e m =
    let f : Fields (Some r) = subst Fields e (fields (operation_of (wide l (8 * n) / 0x200_0000)) (wide l (8 * n)) (wide l (8 * n + 4))) in
    subst Lawful m (lawful r.operation r.rd r.ra r.rb f.0 f.1 f.2)

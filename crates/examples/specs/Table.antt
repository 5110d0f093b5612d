-- The worked examples.
use Rattle.std.specs.Prelude.{ℕ, List, [], ◌∷◌, ℤ, pos}
use Rattle.isa.specs.declared.instructions.Condition.TheVariants.{Br, Blt}
use Rattle.listing.specs.declared.records.Operation.{Operation}
use Rattle.listing.specs.declared.records.Operation.TheVariants.{Add, Sub, Addi, Lw, Lb, Branch, Cmpi, J, Reti, Align, Label}
use Rattle.listing.specs.declared.records.Record.{Record}
use Rattle.histories.specs.declared.actions.Action.TheVariants.{Request, Run}
use Rattle.examples.specs.Examples.{Example, packs, makes, plays}

-- an operation with rd, ra and a constant
abbrev pub with_constant : Operation → ℕ → ℕ → ℤ → Record
with_constant o d a k = record { operation = o; rd = d; ra = a; rb = 0; reference = 0; label = 0; constant = k }

-- an operation with rd, ra and rb
abbrev pub of_registers : Operation → ℕ → ℕ → ℕ → Record
of_registers o d a b = record { operation = o; rd = d; ra = a; rb = b; reference = 0; label = 0; constant = pos 0 }

-- a jump or a branch to a label
abbrev pub to_label : Operation → ℕ → Record
to_label o n = record { operation = o; rd = 0; ra = 0; rb = 0; reference = 1; label = n; constant = pos 0 }

-- the definition of a label
abbrev pub label : ℕ → Record
label n = record { operation = Label; rd = 0; ra = 0; rb = 0; reference = 0; label = n; constant = pos 0 }

-- a program behind a service that only returns: j L0; align 16; reti; L0: and then its own records
abbrev pub program : List Record → List Record
program records = to_label J 0 ∷ with_constant Align 0 0 (pos 16) ∷ of_registers Reti 0 0 0 ∷ label 0 ∷ records

-- addi r1,r1,0x1234; add r2,r3,r1; sub r2,r3,r2; L1: br L1
abbrev pub sums : List Record
sums =
    program (
    with_constant Addi 1 1 (pos 0x1234)
    ∷ of_registers Add 2 3 1
    ∷ of_registers Sub 2 3 2
    ∷ label 1
    ∷ to_label (Branch Br) 1
    ∷ [])

-- addi r1,r0,0x8000; addi r2,r0,0x7FFF; sub r3,r1,r2; blt L1; br L2; L1: addi r4,r0,7; L2: br L2
abbrev pub comparison : List Record
comparison =
    program (
    with_constant Addi 1 0 (pos 0x8000)
    ∷ with_constant Addi 2 0 (pos 0x7FFF)
    ∷ of_registers Sub 3 1 2
    ∷ to_label (Branch Blt) 1
    ∷ to_label (Branch Br) 2
    ∷ label 1
    ∷ with_constant Addi 4 0 (pos 7)
    ∷ label 2
    ∷ to_label (Branch Br) 2
    ∷ [])

-- one record that makes these words in a text of sixteen bytes
abbrev pub single : Record → List ℕ → ℕ → Example
single r words run = makes (r ∷ []) words 16 run

-- a record's bytes; immediates with and without a prefix; a whole program, with a jump over a padded entry, a swap and a nop; its run to
-- r2, and a request after its third step, which waits for the two sums and the nop; a run in which blt goes to its target
unfoldable pub examples : List Example
examples =
    packs (with_constant Addi 1 1 (pos 0x1234)) (0x04 ∷ 0x22 ∷ 0 ∷ 0 ∷ 0 ∷ 0 ∷ 0x12 ∷ 0x34 ∷ [])
    ∷ single (with_constant Addi 1 1 (pos 0x1234)) (0xD123 ∷ 0x2114 ∷ []) 8
    ∷ single (with_constant Addi 1 1 (pos 7)) (0x2117 ∷ []) 8
    ∷ single (with_constant Addi 1 1 (pos 8)) (0xD000 ∷ 0x2118 ∷ []) 8
    ∷ single (with_constant Lw 2 1 (pos 30)) (0x521F ∷ []) 7
    ∷ single (with_constant Lw 2 1 (pos 16)) (0x5211 ∷ []) 7
    ∷ single (with_constant Lw 2 1 (pos 0x24)) (0xD002 ∷ 0x5214 ∷ []) 6
    ∷ single (with_constant Lw 2 1 (pos 5)) (0xD000 ∷ 0x5215 ∷ []) 6
    ∷ single (with_constant Lb 2 1 (pos 15)) (0x621F ∷ []) 7
    ∷ single (with_constant Cmpi 0 5 (pos 1)) (0x205F ∷ []) 8
    ∷ makes sums
    (0xD001 ∷ 0xA002 ∷ 0 ∷ 0 ∷ 0 ∷ 0 ∷ 0 ∷ 0 ∷ 0xA0E0 ∷ 0xD123 ∷ 0x2114 ∷ 0x0213 ∷ 0x3000 ∷ 0x1232 ∷ 0xB0FE ∷ 0 ∷ []) 32 6
    ∷ plays sums (Run 8 ∷ []) (record { own = 8; service = 0; takings = 0; wait = 0 }) 2 0xEDCC
    ∷ plays sums (Run 3 ∷ Request ∷ Run 8 ∷ []) (record { own = 9; service = 1; takings = 1; wait = 3 }) 2 0xEDCC
    ∷ plays comparison (Run 11 ∷ []) (record { own = 11; service = 0; takings = 0; wait = 0 }) 4 7
    ∷ []

-- Which fields an operation uses, and which constants it takes.
use Rattle.std.specs.Prelude.{ℕ, Bool, true, false, cond, not, ◌&&◌, ◌||◌, [], ◌∷◌, ℤ, pos, negsuc, is_some, Some, None, Option, ◌==◌, count_ones, nat_lt}
use Rattle.std.specs.Ordering.{int_eq}
use Rattle.isa.specs.Words.{immediate_number}
use Rattle.isa.specs.declared.refusals.Refusal.{Refusal}
use Rattle.isa.specs.declared.refusals.Refusal.TheVariants as refusal
use Rattle.listing.specs.declared.records.Operation.{Operation}
use Rattle.listing.specs.declared.records.Operation.TheVariants.{Add, Sub, Addi, Register, Immediate, Lw, Lb, Sw, Sb, Jal, Call, Branch, Cmp, Cmpi, J}
use Rattle.listing.specs.declared.records.Operation.TheVariants.{Lea, Lbs, Nop, Mov, Ret, Reti, Sxt, Subi, Zext, Text, Data, Byte, Word, Align, Label}
use Rattle.listing.specs.declared.records.Constants.{Constants}
use Rattle.listing.specs.declared.records.Constants.TheVariants as takes
use Rattle.listing.specs.declared.records.Uses.{Uses}
use Rattle.listing.specs.declared.records.Record.{Record}
use Rattle.listing.specs.Numbers.{bits16, within}
use Rattle.listing.specs.Checks.{when, first_some}

-- whether rd, ra and rb are used, which constants are taken, and whether a reference is
abbrev pub row : Bool → Bool → Bool → Option Constants → Bool → Uses
row d a b k f = record { rd = d; ra = a; rb = b; constant = k; reference = f; label = false }

-- opcode 4's functions by number: 0 to 5 take an immediate, 6 to 8 a count of shifts, 9 and 10 a single shift
abbrev pub function_uses : ℕ → Uses
function_uses f = cond (nat_lt f 6) (row true false false (Some takes.Any) true) (row true false false (Some (cond (nat_lt f 9) takes.Count takes.One)) false)

-- what each operation uses
abbrev pub uses : Operation → Uses
uses Add = row true true true None false
uses Sub = row true true true None false
uses Addi = row true true false (Some takes.Any) true
uses (Register f) = row true false true None false
uses (Immediate f) = function_uses (immediate_number f)
uses Lw = row true true false (Some takes.Any) true
uses Lb = row true true false (Some takes.Any) true
uses Sw = row true true false (Some takes.Any) true
uses Sb = row true true false (Some takes.Any) true
uses Jal = row true true false (Some takes.Any) true
uses Call = row false false false (Some takes.Any) true
uses (Branch c) = row false false false (Some takes.Any) true
uses Cmp = row false true true None false
uses Cmpi = row false true false (Some takes.Any) false
uses J = row false true false (Some takes.Any) true
uses Lea = row true true false (Some takes.Any) true
uses Lbs = row true true false (Some takes.Any) true
uses Nop = row false false false None false
uses Mov = row true true false None false
uses Ret = row false false false None false
uses Reti = row false false false None false
uses Sxt = row true true false None false
uses Subi = row true true false (Some takes.Any) false
uses Zext = row true true false None false
uses Text = row false false false None false
uses Data = row false false false None false
uses Byte = row false false false (Some takes.Byte) false
uses Word = row false false false (Some takes.Any) true
uses Align = row false false false (Some takes.Alignment) false
uses Label = record { rd = false; ra = false; rb = false; constant = None; reference = false; label = true }

-- a field that has a use, or is 0
abbrev pub allowed : Bool → ℕ → Bool
allowed used n = used || n == 0

-- every field without use is 0; the label is used by a label record and by a reference, and is below 1,024
abbrev pub good_fields : Uses → Record → Bool
good_fields u r =
    allowed u.rd r.rd && (allowed u.ra r.ra && (allowed u.rb r.rb && (allowed u.reference r.reference
    && (allowed (u.label || r.reference == 1) r.label && (nat_lt r.label 1024 && (is_some u.constant || int_eq r.constant (pos 0)))))))

-- the constants of each set; an alignment has one bit set
abbrev pub in_set : Constants → ℤ → Bool
in_set takes.Any z = within (negsuc 32767) (pos 65535) z
in_set takes.Byte z = within (negsuc 127) (pos 255) z
in_set takes.Count z = within (pos 1) (pos 15) z
in_set takes.One z = int_eq z (pos 1)
in_set takes.Alignment z = within (pos 1) (pos 16) z && count_ones (bits16 z) == 1

-- a constant that has no use is not judged here
abbrev pub good_constant : Option Constants → ℤ → Bool
good_constant None z = true
good_constant (Some takes) z = in_set takes z

-- a record is against the field rules
abbrev pub bad_field : Record → Bool
bad_field r = not (good_fields (uses r.operation) r)

-- a record's constant is outside its operation's set
abbrev pub bad_constant : Record → Bool
bad_constant r = not (good_constant (uses r.operation).constant r.constant)

-- why a record is refused wherever it stands: its fields are looked at before its constant
abbrev pub rule_refusal : Record → Option Refusal
rule_refusal r = first_some (when (bad_field r) refusal.Field ∷ when (bad_constant r) refusal.Constant ∷ [])

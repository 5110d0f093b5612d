-- What an instruction takes from its forerunner, and which forerunner it needs.
use Rattle.std.specs.Prelude.{ℕ, Bool, true, false, not, ◌&&◌, ◌||◌, is_some, Option}
use Rattle.isa.specs.declared.instructions.ImmediateFunction.{ImmediateFunction}
use Rattle.isa.specs.declared.instructions.ImmediateFunction.TheVariants.{Srxi, Slxi}
use Rattle.isa.specs.declared.instructions.Condition.{Condition}
use Rattle.isa.specs.declared.instructions.Condition.TheVariants.{Br}
use Rattle.isa.specs.declared.instructions.Instruction.{Instruction}
use Rattle.isa.specs.declared.instructions.Instruction.TheVariants.{Register, Immediate, Branch}
use Rattle.isa.specs.Registers.{carries, carries_immediate}
use Rattle.operations.specs.declared.values.Forerunner.{Forerunner}
use Rattle.operations.specs.declared.values.Forerunner.TheVariants.{Sum, Shift}

-- the word before was a sum or a difference
abbrev pub is_sum : Forerunner → Bool
is_sum (Sum a b carry) = true
is_sum _ = false

-- the word before was a shift
abbrev pub is_shift : Forerunner → Bool
is_shift (Shift bit) = true
is_shift _ = false

-- the carry or borrow that the adc and sbc forms use
abbrev pub carry_of : Forerunner → Bool
carry_of (Sum a b carry) = carry
carry_of _ = false

-- the operand a that branches compare
abbrev pub first_of : Forerunner → ℕ
first_of (Sum a b carry) = a
first_of _ = 0

-- the operand b that branches compare, as it was added
abbrev pub second_of : Forerunner → ℕ
second_of (Sum a b carry) = b
second_of _ = 0

-- the bit that the extended shifts move in
abbrev pub bit_of : Forerunner → Bool
bit_of (Shift bit) = bit
bit_of _ = false

-- srxi and slxi
abbrev pub extends : ImmediateFunction → Bool
extends Srxi = true
extends Slxi = true
extends _ = false

-- every branch but br
abbrev pub conditional : Condition → Bool
conditional Br = false
conditional _ = true

-- the forerunner that an instruction needs is lacking: a sum before the adc and sbc forms and a shift before the extended shifts, with imm
-- passed over; a sum directly before a conditional branch, so that no prefix is pending
abbrev pub lacks : Forerunner → Instruction → Option ℕ → Bool
lacks f (Register g d b) prefix = carries g && not (is_sum f)
lacks f (Immediate g d n) prefix = (carries_immediate g && not (is_sum f)) || (extends g && not (is_shift f))
lacks f (Branch c n) prefix = conditional c && (not (is_sum f) || is_some prefix)
lacks f _ prefix = false

-- The meaning of the 42 operations.
use Rattle.std.specs.Prelude.{ℕ, ◌+◌, ◌*◌, ◌/◌, ◌%◌, Bool, true, false, cond, not, ◌&&◌, List, Some, None, Option, ◌==◌, bit_and, bit_or, bit_xor, nat_le, nat_lt, slice_index}
use Rattle.isa.specs.declared.instructions.RegisterFunction.{RegisterFunction}
use Rattle.isa.specs.declared.instructions.RegisterFunction.TheVariants.{And, Or, Xor, Andn, Adc, Sbc}
use Rattle.isa.specs.declared.instructions.ImmediateFunction.{ImmediateFunction}
use Rattle.isa.specs.declared.instructions.ImmediateFunction.TheVariants.{Andi, Ori, Xori, Andni, Adci, Sbci, Srli, Srai, Slli, Srxi, Slxi}
use Rattle.isa.specs.declared.instructions.Condition.{Condition}
use Rattle.isa.specs.declared.instructions.ImmediateField.{ImmediateField}
use Rattle.isa.specs.declared.instructions.Instruction.{Instruction}
use Rattle.isa.specs.declared.instructions.Instruction.TheVariants.{Add, Sub, Addi, Register, Immediate, Lw, Lb, Sw, Sb, Jal, Branch, Call, Imm}
use Rattle.isa.specs.Registers.{late}
use Rattle.isa.specs.Immediates.{immediate_field, formed, branch_target}
use Rattle.operations.specs.declared.values.Forerunner.{Forerunner}
use Rattle.operations.specs.declared.values.Forerunner.TheVariants.{Nothing, Sum, Shift}
use Rattle.operations.specs.declared.values.Operands.{Operands}
use Rattle.operations.specs.declared.values.Width.TheVariants.{Byte, Word}
use Rattle.operations.specs.declared.values.Effect.{Effect}
use Rattle.operations.specs.declared.values.Effect.TheVariants.{Put, Load, Store, Hold}
use Rattle.operations.specs.Arithmetic.{plus, minus, negated, inverted, one_if, following}
use Rattle.operations.specs.Conditions.{holds}
use Rattle.operations.specs.Forerunners.{carry_of, first_of, second_of, bit_of}

-- the number of the register that is the first operand; 0 is none, since r0 is 0
abbrev pub base : Instruction → ℕ
base (Add d a b) = a
base (Sub d a b) = a
base (Addi d a n) = a
base (Register f d b) = d
base (Immediate f d n) = d
base (Lw d a n) = a
base (Lb d a n) = a
base (Sw d a n) = a
base (Sb d a n) = a
base (Jal d a n) = a
base _ = 0

-- the immediate that a field forms with the pending prefix; 0 where the instruction has no field
abbrev pub immediate_by : Option ImmediateField → Option ℕ → ℕ
immediate_by None prefix = 0
immediate_by (Some field) prefix = formed field prefix

-- what an instruction works with: the first operand, the register judged for a hazard as the second, the immediate, the counter, the forerunner's
abbrev pub gathered : List ℕ → ℕ → Option ℕ → Forerunner → Instruction → Operands
gathered registers counter prefix f i = record {
  left = slice_index registers (base i);
  right = slice_index registers (late i);
  immediate = immediate_by (immediate_field i) prefix;
  counter = counter;
  carry = carry_of f;
  a = first_of f;
  b = second_of f;
  bit = bit_of f;
}

-- a right shift by one bit that keeps the sign
abbrev pub halved : ℕ → ℕ
halved x = x / 2 + cond (nat_le 32768 x) 32768 0

-- a right shift by one bit with a bit moved in at the top
abbrev pub halved_under : ℕ → Bool → ℕ
halved_under x bit = x / 2 + cond bit 32768 0

-- where a branch leads: to its target where its condition holds, else to the next word
abbrev pub branched : Condition → ℕ → Operands → ℕ
branched c n o = cond (holds c o.a o.b) (branch_target o.counter n) (following o.counter)

-- the results of opcode 3's functions
abbrev pub register_value : RegisterFunction → Operands → ℕ
register_value And o = bit_and o.left o.right
register_value Or o = bit_or o.left o.right
register_value Xor o = bit_xor o.left o.right
register_value Andn o = bit_and o.left (inverted o.right)
register_value Adc o = plus (plus o.left o.right) (one_if o.carry)
register_value Sbc o = minus (minus o.left o.right) (one_if o.carry)

-- the results of opcode 4's functions; a shift moves by one bit, for any other count is refused
abbrev pub immediate_value : ImmediateFunction → Operands → ℕ
immediate_value Andi o = bit_and o.left o.immediate
immediate_value Ori o = bit_or o.left o.immediate
immediate_value Xori o = bit_xor o.left o.immediate
immediate_value Andni o = bit_and o.left (inverted o.immediate)
immediate_value Adci o = plus (plus o.left o.immediate) (one_if o.carry)
immediate_value Sbci o = minus (minus o.left o.immediate) (one_if o.carry)
immediate_value Srli o = o.left / 2
immediate_value Srai o = halved o.left
immediate_value Slli o = plus o.left o.left
immediate_value Srxi o = halved_under o.left o.bit
immediate_value Slxi o = plus (plus o.left o.left) (one_if o.bit)

-- what an instruction does
abbrev pub effect_of : Instruction → Operands → Effect
effect_of (Add d a b) o = Put (plus o.left o.right) (following o.counter)
effect_of (Sub d a b) o = Put (minus o.left o.right) (following o.counter)
effect_of (Addi d a n) o = Put (plus o.left o.immediate) (following o.counter)
effect_of (Register f d b) o = Put (register_value f o) (following o.counter)
effect_of (Immediate f d n) o = Put (immediate_value f o) (following o.counter)
effect_of (Lw d a n) o = Load Word (plus o.left o.immediate)
effect_of (Lb d a n) o = Load Byte (plus o.left o.immediate)
effect_of (Sw d a n) o = Store Word (plus o.left o.immediate) o.right
effect_of (Sb d a n) o = Store Byte (plus o.left o.immediate) o.right
effect_of (Jal d a n) o = Put (following o.counter) (plus o.left o.immediate / 2 * 2)
effect_of (Branch c n) o = Put 0 (branched c n o)
effect_of (Call n) o = Put (following o.counter) (n * 16 % 65536)
effect_of (Imm n) o = Hold n

-- the carry of a sum with a carry in
abbrev pub carry_out : ℕ → ℕ → Bool → Bool
carry_out x y carry = nat_le 65536 (x + y + one_if carry)

-- the borrow of a difference with a borrow in
abbrev pub borrow_out : ℕ → ℕ → Bool → Bool
borrow_out x y borrow = nat_lt x (y + one_if borrow)

-- a sum's operands and carry; the operands never contain the carry in
abbrev pub sum_left : ℕ → ℕ → Bool → Option Forerunner
sum_left x y carry = Some (Sum x y (carry_out x y carry))

-- a difference's operands, the second negated, and borrow
abbrev pub difference_left : ℕ → ℕ → Bool → Option Forerunner
difference_left x y borrow = Some (Sum x (negated y) (borrow_out x y borrow))

-- a right shift leaves the lowest bit, which it moved out
abbrev pub lowest : ℕ → Option Forerunner
lowest x = Some (Shift (x % 2 == 1))

-- a left shift leaves the highest bit
abbrev pub highest : ℕ → Option Forerunner
highest x = Some (Shift (nat_le 32768 x))

-- what opcode 3's functions leave
abbrev pub register_leaves : RegisterFunction → Operands → Option Forerunner
register_leaves Adc o = sum_left o.left o.right o.carry
register_leaves Sbc o = difference_left o.left o.right o.carry
register_leaves _ o = Some Nothing

-- what opcode 4's functions leave
abbrev pub immediate_leaves : ImmediateFunction → Operands → Option Forerunner
immediate_leaves Adci o = sum_left o.left o.immediate o.carry
immediate_leaves Sbci o = difference_left o.left o.immediate o.carry
immediate_leaves Srli o = lowest o.left
immediate_leaves Srai o = lowest o.left
immediate_leaves Slli o = highest o.left
immediate_leaves Srxi o = lowest o.left
immediate_leaves Slxi o = highest o.left
immediate_leaves _ o = Some Nothing

-- what an instruction leaves as forerunner; none where it keeps the one before, as imm does
abbrev pub leaves : Instruction → Operands → Option Forerunner
leaves (Add d a b) o = sum_left o.left o.right false
leaves (Sub d a b) o = difference_left o.left o.right false
leaves (Addi d a n) o = sum_left o.left o.immediate false
leaves (Register f d b) o = register_leaves f o
leaves (Immediate f d n) o = immediate_leaves f o
leaves (Imm n) o = None
leaves _ o = Some Nothing

-- the five shifts
abbrev pub shifts : ImmediateFunction → Bool
shifts Srli = true
shifts Srai = true
shifts Slli = true
shifts Srxi = true
shifts Slxi = true
shifts _ = false

-- a shift whose immediate is not 1
abbrev pub miscounts : Instruction → Operands → Bool
miscounts (Immediate f d n) o = shifts f && not (o.immediate == 1)
miscounts _ o = false

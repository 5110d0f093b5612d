-- The checks that a word passes before it runs.
use Rattle.std.specs.Prelude.{ℕ, zero, suc, ◌+◌, Bool, cond, not, ◌&&◌, List, [], ◌∷◌, is_some, Some, None, Ok, Err, Option, Result, ◌==◌, nat_lt, slice_index}
use Rattle.isa.specs.declared.refusals.Refusal.{Refusal}
use Rattle.isa.specs.declared.refusals.Refusal.TheVariants.{Reserved, Hazard, Bare, Count, Odd, Io, Trespass, Unkept}
use Rattle.isa.specs.declared.instructions.Instruction.{Instruction}
use Rattle.isa.specs.Registers.{late, names}
use Rattle.isa.specs.Words.{read_word}
use Rattle.operations.specs.declared.values.Operands.{Operands}
use Rattle.operations.specs.declared.values.Effect.{Effect}
use Rattle.operations.specs.Forerunners.{lacks}
use Rattle.operations.specs.Operations.{gathered, effect_of, leaves, miscounts}
use Rattle.machine.specs.declared.states.Side.{Side}
use Rattle.machine.specs.declared.states.Side.TheVariants as side
use Rattle.machine.specs.declared.states.State.{State}
use Rattle.machine.specs.declared.states.Plan.{Plan}
use Rattle.machine.specs.Layouts.{is_own, is_odd, is_io, trespasses}

-- the result of the side's last word; 0 is none
abbrev pub last : State → Side → ℕ
last s (side.Own) = s.made
last s (side.Service) = s.served

-- the register read late is the result of the word before
abbrev pub hazard : ℕ → ℕ → Bool
hazard late result = not (late == 0) && late == result

-- how many of the registers r1 to rn differ from their copies
abbrev pub differing : List ℕ → List ℕ → ℕ → ℕ
differing registers copies zero = 0
differing registers copies (suc n) = differing registers copies n + cond (slice_index registers (n + 1) == slice_index copies (n + 1)) 0 1

-- what a service owes
abbrev pub owed : List ℕ → Option (List ℕ) → ℕ
owed registers None = 0
owed registers (Some copies) = differing registers copies 15

-- how many of r1 to r15 differ from the copies while a service is open, else 0
abbrev pub owing : State → ℕ
owing s = owed s.registers s.service

-- the word 0xA0E0 with no prefix pending closes a service
abbrev pub closes : State → Side → ℕ → Bool
closes s d w = not (is_own d) && (w == 41184 && not (is_some s.prefix))

-- what an instruction works with in a state
abbrev pub operands : State → Instruction → Operands
operands s i = gathered s.registers s.counter s.prefix s.forerunner i

-- what an instruction does in a state
abbrev pub effect_in : State → Instruction → Effect
effect_in s i = effect_of i (operands s i)

-- the checks of a known word in order, each refusal with what it refuses
abbrev pub checks : State → Side → Bool → Instruction → List (Refusal × Bool)
checks s d closing i =
    (Reserved, is_own d && names i 14)
    ∷ (Hazard, hazard (late i) (last s d))
    ∷ (Bare, lacks s.forerunner i s.prefix)
    ∷ (Count, miscounts i (operands s i))
    ∷ (Odd, is_odd (effect_in s i))
    ∷ (Io, is_io (effect_in s i))
    ∷ (Trespass, trespasses s.layout d (effect_in s i))
    ∷ (Unkept, closing && nat_lt 0 (owing s))
    ∷ []

-- the refusal of the first check that fails
abbrev pub first_failed : List (Refusal × Bool) → Result Unit Refusal
first_failed [] = Ok tt
first_failed (check ∷ rest) = cond check.1 (Err check.0) (first_failed rest)

-- a plan, unless a check failed
abbrev pub unless_refused : Result Unit Refusal → Plan → Result Plan Refusal
unless_refused (Ok passed) p = Ok p
unless_refused (Err refusal) p = Err refusal

-- the plan of what a word reads as
abbrev pub plan_of : State → Side → Bool → Result Instruction Refusal → Result Plan Refusal
plan_of s d closing (Err unknown) = Err unknown
plan_of s d closing (Ok i) =
    unless_refused (first_failed (checks s d closing i))
    (record { instruction = i; effect = effect_in s i; leaves = leaves i (operands s i); closes = closing })

-- what a word is about to do, or the first check that it fails
abbrev pub planned : State → Side → ℕ → Result Plan Refusal
planned s d w = plan_of s d (closes s d w) (read_word w)

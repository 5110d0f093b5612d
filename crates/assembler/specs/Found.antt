-- What a pass finds of a record.
use Rattle.std.specs.Prelude.{ℤ, Option}
use Rattle.std.specs.Option.{option_map}
use Rattle.listing.specs.declared.records.Record.{Record}
use Rattle.assembler.specs.declared.standing.Standing.{Standing}
use Rattle.assembler.specs.declared.values.Value.{Value}

-- the record, where one stands
abbrev pub record_in : Option Standing → Option Record
record_in o = option_map (λ s. s.record) o

-- the number, where there is a value
abbrev pub number_in : Option Value → Option ℤ
number_in o = option_map (λ v. v.number) o

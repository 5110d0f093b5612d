-- Where words may stand and where they may reach.
use Rattle.std.specs.Prelude.{ℕ, ◌%◌, Bool, true, false, not, ◌&&◌, ◌||◌, ◌==◌, nat_le, nat_lt}
use Rattle.operations.specs.declared.values.Width.{Width}
use Rattle.operations.specs.declared.values.Width.TheVariants as width
use Rattle.operations.specs.declared.values.Effect.{Effect}
use Rattle.operations.specs.declared.values.Effect.TheVariants as effect
use Rattle.machine.specs.declared.states.Side.{Side}
use Rattle.machine.specs.declared.states.Side.TheVariants as side
use Rattle.machine.specs.declared.states.ServiceRange.{ServiceRange}
use Rattle.machine.specs.declared.states.Layout.{Layout}

-- a step of the program's own
abbrev pub is_own : Side → Bool
is_own (side.Own) = true
is_own (side.Service) = false

-- from the low end up to, not including, the high end
abbrev pub contains : ServiceRange → ℕ → Bool
contains r a = nat_le r.low a && nat_lt a r.high

-- in the service range
abbrev pub inside : Layout → ℕ → Bool
inside l a = contains l.service a

-- own words stand in text outside the service range, service words in it
abbrev pub placed : Layout → Side → ℕ → Bool
placed l (side.Own) a = nat_lt a l.text && not (inside l a)
placed l (side.Service) a = inside l a

-- an access to a word
abbrev pub is_word : Width → Bool
is_word (width.Byte) = false
is_word (width.Word) = true

-- an access to a word at an odd address
abbrev pub is_odd : Effect → Bool
is_odd (effect.Load width a) = is_word width && a % 2 == 1
is_odd (effect.Store width a value) = is_word width && a % 2 == 1
is_odd _ = false

-- an access to the last 256 addresses
abbrev pub is_io : Effect → Bool
is_io (effect.Load width a) = nat_le 65280 a
is_io (effect.Store width a value) = nat_le 65280 a
is_io _ = false

-- own words may not load from the service range
abbrev pub bad_load : Layout → Side → ℕ → Bool
bad_load l (side.Own) a = inside l a
bad_load l (side.Service) a = false

-- own words may not store in the service range or in text, service words not outside their range
abbrev pub bad_store : Layout → Side → ℕ → Bool
bad_store l (side.Own) a = inside l a || nat_lt a l.text
bad_store l (side.Service) a = not (inside l a)

-- an access that the side may not make
abbrev pub trespasses : Layout → Side → Effect → Bool
trespasses l d (effect.Load width a) = bad_load l d a
trespasses l d (effect.Store width a value) = bad_store l d a
trespasses l d _ = false

-- What a worked example says, and the test whether the definitions give it.
use Rattle.std.specs.Prelude.{ℕ, ◌-◌, ◌*◌, Bool, true, false, ◌&&◌, List, [], ◌∷◌, ◌++◌, length, replicate, Ok, Err, Result, ◌==◌, slice_index}
use Rattle.std.specs.Option.{unwrap_or}
use Rattle.std.specs.Result.{result_ok}
use Rattle.isa.specs.declared.refusals.Refusal.{Refusal}
use Rattle.memory.specs.Meaning.{Meaning, flat}
use Rattle.listing.specs.declared.records.Record.{Record}
use Rattle.listing.specs.Packing.{write_record}
use Rattle.text.specs.declared.outcomes.Refused.{Refused}
use Rattle.text.specs.declared.outcomes.Answers.{Answers}
use Rattle.text.specs.Image.{image}
use Rattle.text.specs.Examples.{bytes_of_words, equal}
use Rattle.text.specs.Answer.{assembled}
use Rattle.machine.specs.declared.answers.Tally.{Tally}
use Rattle.machine.specs.declared.states.Layout.{Layout}
use Rattle.machine.specs.Loads.{fresh, unloaded, layout, loading, loaded_state, loaded_memory}
use Rattle.histories.specs.declared.actions.Action.{Action}
use Rattle.histories.specs.Histories.{Point, played}

-- `packs r bytes`: the record is written as these bytes.
-- `makes records words text run`: the records make these words, with zeros after them up to the text length, and this longest run.
-- `plays records actions tally register value`: on a newly loaded core the actions lead to this tally and to this value of a register.
pub data Example : Type 0 where
  packs : Record → List ℕ → Example
  makes : List Record → List ℕ → ℕ → ℕ → Example
  plays : List Record → List Action → Tally → ℕ → ℕ → Example

-- two tallies are equal
abbrev pub equal_tallies : Tally → Tally → Bool
equal_tallies t u = t.own == u.own && (t.service == u.service && (t.takings == u.takings && t.wait == u.wait))

-- the bytes of a listing; a record that is refused has none
abbrev pub listing_of : List Record → List ℕ
listing_of [] = []
listing_of (r ∷ rs) = unwrap_or (result_ok (write_record r)) [] ++ listing_of rs

-- a record was written as these bytes
abbrev pub written_so : Result (List ℕ) Refusal → List ℕ → Bool
written_so (Ok bytes) expected = equal bytes expected
written_so (Err e) expected = false

-- a listing without data was accepted, with this text length and this longest run
abbrev pub accepted_so : Result Answers Refused → ℕ → ℕ → Bool
accepted_so (Ok a) text run = a.text == text && (a.image == text && a.run == run)
accepted_so (Err e) text run = false

-- the core and the bytes after an image without data was loaded into a flat memory, with the service range 16 to 18, and actions were played
abbrev pub played_on : List ℕ → List Action → Point
played_on bytes actions =
    let l : Layout = layout (length bytes) 16 18 in
    let m : Meaning = flat (replicate (length bytes) 0) in
    let u : Meaning = loaded_memory (loading l bytes m) bytes m in
    played u.mark (loaded_state (loading l bytes m) l (fresh unloaded)) u.byte actions

-- actions led to this tally and to this value of a register
abbrev pub led_so : Point → Tally → ℕ → ℕ → Bool
led_so p tally register value = equal_tallies p.tally tally && slice_index p.state.registers register == value

-- the definitions give what an example says
abbrev pub holds : Example → Bool
holds (packs r bytes) = written_so (write_record r) bytes
holds (makes records words text run) =
    let l : List ℕ = listing_of records in
    accepted_so (assembled l text) text run && equal (image l) (bytes_of_words words ++ replicate (text - 2 * length words) 0)
holds (plays records actions tally register value) = led_so (played_on (image (listing_of records)) actions) tally register value

-- every example of a list holds
abbrev pub all_hold : List Example → Bool
all_hold [] = true
all_hold (e ∷ es) = holds e && all_hold es

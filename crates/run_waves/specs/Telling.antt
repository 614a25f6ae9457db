-- How values and changes are told (IEEE Std 1364-2005, section 18.2).
use Rattle.std.specs.Prelude.{ℕ, ◌+◌, ◌==◌, if◌then◌else◌, List, [], ◌∷◌, ◌++◌, slice_index, map}
use Rattle.std.specs.List.{flat_map}
use Rattle.machine_model.specs.Events.{happens}
use Rattle.machine_model.specs.Views.{State}
use Rattle.machine_types.specs.declared.event.Event.{Event}
use Rattle.text_fields.specs.Fields.{number}
use Rattle.run_waves.specs.declared.groups.Group.{Group}
use Rattle.run_waves.specs.declared.signals.Signal.{Signal}
use Rattle.run_waves.specs.declared.watching.Seen.{Seen}
use Rattle.run_waves.specs.Groups as groups
use Rattle.run_waves.specs.Naming.{identifier}
use Rattle.run_waves.specs.Signals as signals
use Rattle.run_waves.specs.Values.{values}
use Rattle.run_waves.specs.Watching.{watched}

-- ---- values

-- a signal's value among those of its part
abbrev pub value_in : List ℕ → Signal → ℕ
value_in values x = slice_index values (signals.place x)

-- a line with the value of a signal
abbrev pub value_line : Group → Signal → ℕ → List ℕ
value_line g x n = signals.value (signals.width x) n ++ (identifier g x ++ 10 ∷ [])

abbrev pub told : Group → List ℕ → Signal → List ℕ
told g values x = value_line g x (value_in values x)

-- all values of a part in a state
abbrev pub dumped : State → Group → List ℕ
dumped s g = flat_map (told g (values s g)) (groups.signals g)

-- ---- changes

-- nothing, where a value is as it was
abbrev pub changed : Group → List ℕ → List ℕ → Signal → List ℕ
changed g old new x = if value_in old x == value_in new x then [] else told g new x

-- of the signals of a part those whose values two states differ in
abbrev pub changes : Group → List ℕ → List ℕ → List ℕ
changes g old new = flat_map (changed g old new) (groups.signals g)

abbrev pub seen_in : State → Group → Seen
seen_in s g = record { group = g; values = values s g }

abbrev pub changes_since : State → Seen → List ℕ
changes_since s seen = changes seen.group seen.values (values s seen.group)

-- the values that an event may change, before it
abbrev pub seen_before : State → Event → List Seen
seen_before s e = map (seen_in s) (watched s e)

-- ---- times

abbrev pub time_line : ℕ → List ℕ
time_line n = 35 ∷ number 10 n

-- what the event of this index in its script changes; its line there is 2 more, since the first one is the head
abbrev pub event_lines : ℕ → State → Event → List ℕ
event_lines index s e = time_line (index + 2) ++ flat_map (changes_since (happens s e)) (seen_before s e)

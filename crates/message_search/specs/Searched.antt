-- What random runs have shown of a message.
use Rattle.std.specs.Prelude.{ℕ, ◌≡◌, ◌≤◌, Bool, false, List, Option, Some, None, length, nat_le}
use Rattle.std.specs.List.{AllByRecursion}
use Rattle.elf_loader.specs.Image.{Initial}
use Rattle.machine_types.specs.declared.config.Config.{Config}
use Rattle.machine_types.specs.declared.event.Event.{Event}
use Rattle.message_search.specs.First.{IsFirst, IsUnsentBelow}
use Rattle.message_search.specs.declared.met.Met.{Met}
use Rattle.message_search.specs.declared.met.Searched.{Searched}
use Rattle.message_search.specs.declared.sought.Sought.{Sought}
use Rattle.schedules.specs.Schedules.{Replays}

-- how many events are known to send it, if some are
abbrev pub length_of : Option Met → Option ℕ
length_of None = None
length_of (Some met) = Some (length met.events.items)

-- they are no more than so many
abbrev pub has_within : Option ℕ → ℕ → Bool
has_within None count = false
has_within (Some known) count = nat_le known count

-- the last of the events sends it, and none before
abbrev pub IsMeeting : Initial → Config → Sought → Option Met → Type 0
IsMeeting image config s None = Unit {0}
IsMeeting image config s (Some met) = IsFirst image config s met.events.items (Some (length met.events.items))

-- a number that is no greater than the other, if there is another, and there is none where there is no other
abbrev pub IsNoLonger : Option ℕ → Option ℕ → Type 0
IsNoLonger None None = Unit {0}
IsNoLonger (Some new) (Some old) = new ≤ old
IsNoLonger _ _ = ⊥

-- a run whose events are accepted, of which fewer than so many don't send it
pub record IsSeen (image : Initial) (config : Config) (s : Sought) (n : Option ℕ) (events : List Event) : Type 0 where
  pub replays : Replays image config events
  pub unsent : IsUnsentBelow image config s events n

-- the last of the events that are told sends it, and none before; there are as many runs as are told, none of which sends it by fewer events, and where none are told none at all
pub record IsSearched (image : Initial) (config : Config) (s : Sought) (searched : Searched) : Type 0 where
  pub met : IsMeeting image config s searched.met
  pub runs : List (List Event)
  pub count : length runs ≡ searched.runs
  pub each : AllByRecursion (IsSeen image config s (length_of searched.met)) runs

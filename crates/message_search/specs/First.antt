-- Where in a list of events a message is first sent.
use Rattle.std.specs.Prelude.{ℕ, ◌≡◌, ◌<◌, ◌≤◌, List, Option, Some, None, false, true, length, take}
use Rattle.elf_loader.specs.Image.{Initial}
use Rattle.machine_types.specs.declared.config.Config.{Config}
use Rattle.machine_types.specs.declared.event.Event.{Event}
use Rattle.message_search.specs.Sought.{was_sent}
use Rattle.message_search.specs.declared.sought.Sought.{Sought}
use Rattle.schedules.specs.Schedules.{Replays, led}

-- fewer of the events, played from reset, than this number don't send it; where there is no number, no number of them does
abbrev pub IsBelow : ℕ → Option ℕ → Type 0
IsBelow k (Some n) = k < n
IsBelow k None = Unit {0}

abbrev pub IsUnsentBelow : Initial → Config → Sought → List Event → Option ℕ → Type 0
IsUnsentBelow image config s events n = (k : ℕ) → IsBelow k n → was_sent s (led image config (take k events)) ≡ false

-- the first so many events are accepted, and send it
pub record IsSentBy (image : Initial) (config : Config) (s : Sought) (events : List Event) (n : ℕ) : Type 0 where
  pub within : n ≤ length events
  pub replays : Replays image config (take n events)
  pub sent : was_sent s (led image config (take n events)) ≡ true

abbrev pub IsMetAt : Initial → Config → Sought → List Event → Option ℕ → Type 0
IsMetAt image config s events (Some n) = IsSentBy image config s events n
IsMetAt image config s events None = Unit {0}

-- it takes so many events until it is sent; without a number it never is
pub record IsFirst (image : Initial) (config : Config) (s : Sought) (events : List Event) (n : Option ℕ) : Type 0 where
  pub met : IsMetAt image config s events n
  pub unsent : IsUnsentBelow image config s events n

-- What is said of the machine's states that were found, and of what they show.
use Rattle.std.specs.Prelude.{◌≡◌, ◌≢◌, ℕ, List, Some, Contains, length, map, slice_get}
use Rattle.architecture_outcomes.specs.declared.outcome.Outcome.{Outcome}
use Rattle.architecture_outcomes.specs.Outcomes.{machine_end}
use Rattle.elf_loader.specs.Image.{Initial}
use Rattle.exploration_text.specs.Visited.{AreDistinct}
use Rattle.performed_words.specs.Onward.{Leads, seen_opening}
use Rattle.performed_words.specs.Outcomes.{Outcome as End, shown}
use Rattle.witnesses.specs.Flat.{Flat}
use Rattle.machine_types.specs.declared.config.Config.{Config}
use Rattle.state_search.specs.declared.findings.Extent.{Extent}
use Rattle.state_search.specs.declared.findings.Extent.TheVariants.{Complete, LimitMet, OutOfMemory}
use Rattle.state_search.specs.Findings.{AreReached, IsComplete, IsIncomplete}

-- the end is told as the machine's
abbrev pub TellsEnd : List Outcome → End → Type 0
TellsEnd outcomes end = Contains (map machine_end outcomes) (Some end)

-- the machine's states are as many as is said, each once and found; where the search is complete they are all; at the limit there is another; and unless memory ended this holds of each end among them
pub record AreMachineStates (image : Initial) (config : Config) (addresses : List ℕ) (extent : Extent) (count : ℕ) (IsTold : End → Type 0) (states : List Flat) : Type 0 where
  pub as_many : length states ≡ count
  pub once : AreDistinct states
  pub reached : AreReached (Leads addresses) (seen_opening addresses image config) states
  pub all : extent ≡ Complete → IsComplete (Leads addresses) (seen_opening addresses image config) states
  pub missed : extent ≡ LimitMet → IsIncomplete (Leads addresses) (seen_opening addresses image config) states
  pub told : extent ≢ OutOfMemory → (i : ℕ) (s : Flat) (end : End) → slice_get states i ≡ Some s → shown addresses s ≡ Some end → IsTold end

-- What is known of the machine's states that were found is known of what is told of them.
use Rattle.std.proofs.Common.{ℕ, List, Contains, map, subst}
use Rattle.architecture_outcomes.proofs.Ends.{same_ends}
use Rattle.architecture_outcomes.specs.Outcomes.{ends_of, of_found}
use Rattle.architecture_outcomes.specs.Visited.{AreMachineStates}
use Rattle.elf_loader.specs.Image.{Initial}
use Rattle.exploration_text.specs.Exploration.{Exploration}
use Rattle.exploration_text.specs.Visited.{AreVisited}
use Rattle.performed_words.specs.Outcomes.{Outcome as End}
use Rattle.witnesses.specs.Flat.{Flat}
use Rattle.machine_types.specs.declared.config.Config.{Config}
use Rattle.state_search.specs.declared.findings.Extent.{Extent}

module _ (image : Initial) (config : Config) where
  pub states_are : (addresses : List ℕ) (e : Exploration) (states : List Flat) → AreVisited image config addresses e states
      → AreMachineStates image config addresses e.extent e.states (Contains (ends_of (map of_found e.outcomes.items))) states
  states_are addresses e states visited = record {
    as_many = visited.count;
    once = visited.once;
    reached = visited.reached;
    all = visited.all;
    missed = visited.missed;
    told = λ enough i s end at shows. subst (λ (es : List End). Contains es end) (same_ends e.outcomes.items) (visited.told enough i s end at shows);
  }

  -- what holds of an end that is told may be another thing that follows
  pub states_more : (addresses : List ℕ) (extent : Extent) (count : ℕ) (P Q : End → Type 0) (states : List Flat) → ((end : End) → P end → Q end) → AreMachineStates image config addresses extent count P states
      → AreMachineStates image config addresses extent count Q states
  states_more addresses extent count P Q states more are = record {
    as_many = are.as_many;
    once = are.once;
    reached = are.reached;
    all = are.all;
    missed = are.missed;
    told = λ enough i s end at shows. more end (are.told enough i s end at shows);
  }

use Rattle.std.proofs.Common.{All, List, refl, subst, sym}
use Rattle.std.proofs.lemmas.List.Elements.{All-map}
use Rattle.std.specs.List.Sorted.{IsStrictlySortedBy}
use Rattle.std.specs.Ordering.{on}
use Rattle.architecture_outcomes.specs.ExplorerOutcomes.{HasEachEnd}
use Rattle.architecture_outcomes.specs.Failings.{HasEachFailure, IsShown, failures_in, of_failure}
use Rattle.architecture_outcomes.specs.Outcomes.{IsMachine, IsWitnessed, end_of, ends_of, of_found}
use Rattle.architecture_outcomes.specs.declared.failing.Failing.{Failing}
use Rattle.architecture_outcomes.specs.declared.outcome.Outcome.{Outcome}
use Rattle.exploration_text.specs.Ranks.{outcome_cmp}
use Rattle.fence_audit.proofs.Ends.{all_found, all_scripted, same_ends, same_failures, strict}
use Rattle.fence_audit.proofs.machine.search_machine.Goals as goal

pub returns : goal.returns
returns g c =
    let P = IsWitnessed c.args.image.now c.args.config c.args.addresses.now in
    let found = c.in_ok-outcomes.ensures in
    let made = sym c.in_ok-of_machine.ensures in
    let stops = c.in_ok-outcomes.field-0.failures.items in
    let told = sym c.in_ok-stops_of_machine.ensures in
    let Q = IsShown c.args.image.now c.args.config c.args.addresses.now in
    record {
      shown = subst (All P) made (All-map P of_found _ found.real);
      machine = λ all. subst (λ (os : List Outcome). HasEachEnd c.args.image.now c.args.config c.args.addresses.now (ends_of os)) made
          (subst (HasEachEnd c.args.image.now c.args.config c.args.addresses.now) (same_ends _) (found.complete all));
      alone = subst (All (λ o. IsMachine o.way)) made (all_found _);
      failing = λ all. subst (λ (fs : List Failing). HasEachFailure c.args.image.now c.args.config (failures_in fs)) told
          (subst (HasEachFailure c.args.image.now c.args.config) (same_failures stops) (found.each_failure all));
      stopped = subst (All Q) told (All-map Q of_failure stops (all_scripted c.args.image.now c.args.config c.args.addresses.now stops found.failures));
      bounded = found.within;
      order = subst (IsStrictlySortedBy (on end_of outcome_cmp)) made (strict _ found.strict);
      model = refl;
      window_is = c.min.ensures;
      unasked = refl;
    }

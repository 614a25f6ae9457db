use Rattle.std.proofs.Common.{◌≡◌, inl, inr, All, Contains, List, map, subst, sym}
use Rattle.std.proofs.lemmas.List.Elements.{All-map}
use Rattle.std.specs.List.Sorted.{IsStrictlySortedBy}
use Rattle.std.specs.Ordering.{on}
use Rattle.architecture_outcomes.proofs.Ends.{all_found, same_ends, strict}
use Rattle.architecture_outcomes.proofs.Stopping.{all_decided_found, all_scripted, each_stop_told, same_failures, some_of}
use Rattle.architecture_outcomes.proofs.Visited.{states_are}
use Rattle.window_search.specs.Stops.{AreOnce}
use Rattle.architecture_outcomes.specs.declared.outcome.Outcome.{Outcome}
use Rattle.architecture_outcomes.specs.declared.failing.Failing.{Failing}
use Rattle.architecture_outcomes.specs.Failings.{HasEachFailure, HasSought, IsDecidedStop, IsShown, TellsEachStop, failures_in, of_failure}
use Rattle.architecture_outcomes.specs.Outcomes.{IsMachine, IsWitnessed, end_of, ends_of, of_found}
use Rattle.architecture_outcomes.specs.Visited.{AreMachineStates}
use Rattle.exploration_text.specs.Outcomes.{HasEachEnd}
use Rattle.exploration_text.specs.Ends.{outcomes_of}
use Rattle.exploration_text.specs.Ranks.{outcome_cmp}
use Rattle.performed_words.specs.Outcomes.{Outcome as End}
use Rattle.architecture_outcomes.proofs.machine.search_machine.Goals as goal

pub returns-clause-shown : goal.returns-clause-shown
returns-clause-shown g c =
    let P = IsWitnessed c.args.image.now c.args.config c.args.addresses.now in
    subst (All P) (sym c.in_ok-of_machine.ensures) (All-map P of_found _ c.in_ok-outcomes.ensures.real)

pub returns-clause-machine : goal.returns-clause-machine
returns-clause-machine g c = subst (All (λ o. IsMachine o.way)) (sym c.in_ok-of_machine.ensures) (all_found _)

pub returns-clause-complete : goal.returns-clause-complete
returns-clause-complete g c = λ all.
    subst (λ (os : List Outcome). HasEachEnd c.args.image.now c.args.config c.args.addresses.now (ends_of os)) (sym c.in_ok-of_machine.ensures)
    (subst (λ (es : List End). HasEachEnd c.args.image.now c.args.config c.args.addresses.now es) (same_ends _) (c.in_ok-outcomes.ensures.complete all))

pub returns-clause-once : goal.returns-clause-once
returns-clause-once g c = subst (IsStrictlySortedBy (on end_of outcome_cmp)) (sym c.in_ok-of_machine.ensures) (strict _ c.in_ok-outcomes.ensures.strict)

pub returns-clause-visited : goal.returns-clause-visited
returns-clause-visited g c =
    let visited = c.in_ok-outcomes.ensures.visited in
    let e = c.in_ok-outcomes.field-0 in (
      visited.0,
      subst (λ (os : List Outcome). AreMachineStates c.args.image.now c.args.config c.args.addresses.now e.extent e.states (Contains (ends_of os)) visited.0) (sym c.in_ok-of_machine.ensures)
          (states_are c.args.image.now c.args.config c.args.addresses.now e visited.0 visited.1),
    )

pub returns-clause-stopped : goal.returns-clause-stopped
returns-clause-stopped g c =
    let P = IsShown c.args.image.now c.args.config c.args.addresses.now in
    let found = c.in_ok-outcomes.field-0.failures.items in
    subst (All P) (sym c.in_ok-stops_of_machine.ensures) (All-map P of_failure found (all_scripted c.args.image.now c.args.config c.args.addresses.now found c.in_ok-outcomes.ensures.failures))

pub returns-clause-stopped_once : goal.returns-clause-stopped_once
returns-clause-stopped_once g c =
    subst (λ (fs : List Failing). AreOnce (failures_in fs)) (sym c.in_ok-stops_of_machine.ensures) (subst AreOnce (same_failures c.in_ok-outcomes.field-0.failures.items) c.in_ok-outcomes.ensures.failures_once)

pub returns-clause-stopped_machine : goal.returns-clause-stopped_machine
returns-clause-stopped_machine g c = subst (All IsDecidedStop) (sym c.in_ok-stops_of_machine.ensures) (all_decided_found c.in_ok-outcomes.field-0.failures.items)

pub returns-clause-each_stopped : goal.returns-clause-each_stopped
returns-clause-each_stopped g c = λ all.
    subst (λ (fs : List Failing). HasEachFailure c.args.image.now c.args.config (failures_in fs)) (sym c.in_ok-stops_of_machine.ensures)
    (subst (HasEachFailure c.args.image.now c.args.config) (same_failures c.in_ok-outcomes.field-0.failures.items) (c.in_ok-outcomes.ensures.each_failure all))

pub returns-clause-each_told : goal.returns-clause-each_told
returns-clause-each_told g c = λ all.
    subst (TellsEachStop c.args.image.now c.args.config) (sym c.in_ok-stops_of_machine.ensures) (each_stop_told c.args.image.now c.args.config c.in_ok-outcomes.field-0.failures.items (c.in_ok-outcomes.ensures.each_failure all))

pub returns-clause-first : goal.returns-clause-first
returns-clause-first g c = λ first.
    let stops = g.S.Seek.SeeksStops c.args.seek.now in
    let sought = g.S.Seek.IsSought c.args.seek.now in
    let e = c.in_ok-outcomes.field-0 in
    let here : HasSought stops sought (map of_failure e.failures.items) (outcomes_of e.outcomes.items) = elim (c.in_ok-outcomes.ensures.first first) [ inl told ↦ inl (told.0, some_of e.failures.items told.1) | inr told ↦ inr told ] in
    let ends : HasSought stops sought (map of_failure e.failures.items) (ends_of c.in_ok-of_machine.field-0.items) = subst (λ (os : List Outcome). HasSought stops sought (map of_failure e.failures.items) (ends_of os)) (sym c.in_ok-of_machine.ensures)
    (subst (λ (es : List End). HasSought stops sought (map of_failure e.failures.items) es) (same_ends e.outcomes.items) here) in
    subst (λ (fs : List Failing). HasSought stops sought fs (ends_of c.in_ok-of_machine.field-0.items)) (sym c.in_ok-stops_of_machine.ensures) ends

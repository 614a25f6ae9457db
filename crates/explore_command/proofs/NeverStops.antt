-- A complete exploration tells each hart that stops, whatever the others do then, and so does a search under a memory model; so where it tells none, none ever stops.
use Rattle.std.proofs.Common.{◌≡◌, ℕ, suc, ◌==◌, ◌&&◌, ◌||◌, List, [], ◌∷◌, ◌++◌, Bool, true, false, Option, Some, None, Contains, refl, sym, ap, not, arith, length, map, slice_get, is_some, codes, if◌then◌else◌}
use Rattle.std.proofs.lemmas.Bool.{eqb-true, false≢true, false_from_ne_true}
use Rattle.command_files.specs.Contents.{Contents}
use Rattle.command_files.specs.Faults.{Name}
use Rattle.command_files.specs.Sizes.{config_named}
use Rattle.command_settings.specs.Settings.{lists}
use Rattle.elf_loader.specs.Image.{Initial}
use Rattle.explore_command.specs.Exploring.{exploration_fails, tells_failures}
use Rattle.explore_command.specs.Judging.{IsJudged, are_allowed, failure_line, has_stopped, have_failure, incomplete_line, is_complete, is_stopped, line_if, stuck_line}
use Rattle.explore_command.specs.Passing.{NoneStops, PassingIsSafe, SearchPassingIsSafe}
use Rattle.explore_command.specs.Searching.{is_whole, search_fails, tells_stops}
use Rattle.explore_command.specs.Targets.{names_of}
use Rattle.architecture_outcomes.specs.declared.failing.Failing.{Failing}
use Rattle.architecture_outcomes.specs.declared.outcome.Outcome.{Outcome as ModelOutcome}
use Rattle.architecture_outcomes.specs.Failings.{machine_stop}
use Rattle.architecture_outcomes.specs.Outcomes.{end_of}
use Rattle.architecture_outcomes.specs.Reach.{Reach}
use Rattle.architecture_outcomes.specs.TheVariants as reach
use Rattle.command_files.specs.declared.allowing.Judgement.TheVariants.{Allowed, NotAllowed}
use Rattle.exploration_text.specs.Words.{end_text}
use Rattle.explorer.specs.Ends.{outcome_of}
use Rattle.explorer.specs.declared.found.Found.{Found}
use Rattle.explorer.specs.declared.found.FoundFailure.{FoundFailure}
use Rattle.explorer.specs.declared.exploration.Stuck.{Stuck}
use Rattle.flat_exploration.specs.declared.failure.Failure.{Failure}
use Rattle.flat_exploration.specs.declared.failure.Stop.{Stop}
use Rattle.flat_exploration.specs.Failures.{HasStopped, machine_stops, stop_by, stop_of}
use Rattle.flat_model.specs.Shown.{HartEnd, results}
use Rattle.hart.specs.declared.status.Status.{Status}
use Rattle.hart.specs.declared.status.Status.TheVariants as status
use Rattle.machine_model.specs.Views.{Node}
use Rattle.machine_types.specs.declared.config.Config.{Config}
use Rattle.machine_types.specs.declared.event.Event.{Event}
use Rattle.explorer.specs.Schedules.{led}
use Rattle.state_search.specs.declared.findings.Extent.{Extent}
use Rattle.state_search.specs.declared.findings.Extent.TheVariants.{Complete, LimitMet, Ended, OutOfMemory}

-- ---- where one has stopped there is a failure

abbrev ends : List Node → List HartEnd
ends ns = map (λ (n : Node). let r : HartEnd = record { status = n.hart.status; output = n.output } in r) ns

abbrev stops : List Node → List (Option Stop)
stops ns = map (λ (n : Node). stop_of n.hart) ns

one_there : (ns : List Node) → has_stopped (ends ns) ≡ true → (h : ℕ) × (stop : Stop) × (slice_get (stops ns) h ≡ Some (Some stop))
one_there [] is = absurd (false≢true is)
one_there (n ∷ ns) is = go (one_there ns) n.hart.status refl is
  where
    behind : (has_stopped (ends ns) ≡ true → (h : ℕ) × (stop : Stop) × (slice_get (stops ns) h ≡ Some (Some stop))) → has_stopped (ends ns) ≡ true → (h : ℕ) × (stop : Stop) × (slice_get (stops (n ∷ ns)) h ≡ Some (Some stop))
    behind more x = let rest = more x in (suc rest.0, rest.1, rest.2)

    go : (has_stopped (ends ns) ≡ true → (h : ℕ) × (stop : Stop) × (slice_get (stops ns) h ≡ Some (Some stop)))
        → (s : Status) → n.hart.status ≡ s → (is_stopped s || has_stopped (ends ns)) ≡ true → (h : ℕ) × (stop : Stop) × (slice_get (stops (n ∷ ns)) h ≡ Some (Some stop))
    go more status.Running e x = behind more x
    go more (status.Stopped code) e x = (0, record { code = code; pc = n.hart.pc }, ap (λ s. Some (stop_by s n.hart.pc)) e)
    go more (status.Exited code) e x = behind more x

is_so : (b : Bool) → not b ≡ false → b ≡ true
is_so true is = refl
is_so false is = absurd (false≢true (sym is))

none_of : {X Y : Type 0} (f : X → Y) (xs : List X) → not (length xs == 0) ≡ false → (y : Y) → Contains (map f xs) y → ⊥
none_of f [] is y (k, l, e) = absurd (omega (arith, l))
none_of f (x ∷ xs) is y c = let bad = eqb-true (length (x ∷ xs)) 0 (is_so (length (x ∷ xs) == 0) is) in absurd (omega (arith, bad))

none_stops : (image : Initial) (config : Config) → ((events : List Event) (x : Failure) → HasStopped (machine_stops (led image config events)) x → ⊥) → NoneStops image config
none_stops image config none events = false_from_ne_true (has_stopped (results (led image config events))) never
  where
    never : has_stopped (results (led image config events)) ≡ true → ⊥
    never one =
        let there = one_there (led image config events).views.nodes one in
        let x : Failure = record { hart = there.0; stop = there.1 } in
        none events x there.2

-- ---- what passing says

both_none : (xs ys : List ℕ) → xs ++ ys ≡ [] → (xs ≡ []) × (ys ≡ [])
both_none [] ys none = (refl, none)
both_none (x ∷ xs) ys none = absurd cc

none_of_length : (xs : List ℕ) → (length xs == 0) ≡ true → xs ≡ []
none_of_length [] is = refl
none_of_length (x ∷ xs) is = let bad = eqb-true (length (x ∷ xs)) 0 is in absurd (omega (arith, bad))

-- a line isn't there only where it isn't met
unmet : (listed met : Bool) (line : List ℕ) → (line ≡ [] → ⊥) → listed ≡ true → line_if (listed && met) line ≡ [] → met ≡ false
unmet true true line some is none = absurd (some none)
unmet true false line some is none = refl
unmet false met line some is none = absurd (false≢true is)

first_unmet : (a b : Bool) → (a || b) ≡ false → a ≡ false
first_unmet true b is = is
first_unmet false b is = refl

some_failure : failure_line ≡ [] → ⊥
some_failure none = cc

some_stuck : stuck_line ≡ [] → ⊥
some_stuck none = cc

some_incomplete : incomplete_line ≡ [] → ⊥
some_incomplete none = cc

nothing_fails : (b : Bool) (fails : List ℕ) → Allowed ≡ (if b && (length fails == 0) then Allowed else NotAllowed) → fails ≡ []
nothing_fails true fails is = go (length fails == 0) refl is
  where
    go : (t : Bool) → (length fails == 0) ≡ t → Allowed ≡ (if t then Allowed else NotAllowed) → fails ≡ []
    go true x y = none_of_length fails x
    go false x y = absurd cc
nothing_fails false fails is = absurd cc

by_file : (held : Contents) (allow : Option Name) (lines : List (List ℕ)) (fails : List ℕ) → IsJudged held allow lines fails Allowed → fails ≡ []
by_file held None lines fails is = nothing_fails true fails is
by_file held (Some file) lines fails is = nothing_fails (are_allowed (Some is.0) lines) fails is.2

is_none_of : (o : Option Stuck) → is_some o ≡ false → o ≡ None
is_none_of None is = refl
is_none_of (Some s) is = absurd (false≢true (sym is))

is_complete_of : (e : Extent) → not (is_complete e) ≡ false → e ≡ Complete
is_complete_of Complete is = refl
is_complete_of LimitMet is = absurd (false≢true (sym is))
is_complete_of (Ended ending) is = absurd (false≢true (sym is))
is_complete_of OutOfMemory is = absurd (false≢true (sym is))

pub passing_is_safe : PassingIsSafe
passing_is_safe held left wanted old new told =
    let found = told.exploration in
    let ended_stopped = have_failure (map (λ (f : Found). (outcome_of f).results) found.outcomes.items) in
    let none : exploration_fails wanted.fail_on found ≡ [] = by_file held wanted.allow (map (λ (f : Found). end_text [] (outcome_of f)) found.outcomes.items) (exploration_fails wanted.fail_on found) told.judged in
    let failed = line_if (lists (codes "failure") wanted.fail_on && (tells_failures found || ended_stopped)) failure_line in
    let stopped = line_if (lists (codes "stuck") wanted.fail_on && is_some found.stuck) stuck_line in
    let ended = line_if (lists (codes "incomplete") wanted.fail_on && not (is_complete found.extent)) incomplete_line in
    let first = both_none (failed ++ stopped) ended none in
    let second = both_none failed stopped first.0 in
    let complete : lists (codes "incomplete") wanted.fail_on ≡ true → found.extent ≡ Complete =
    λ listed. is_complete_of found.extent (unmet (lists (codes "incomplete") wanted.fail_on) (not (is_complete found.extent)) incomplete_line some_incomplete listed first.1) in
    record {
      none_stops = λ failure incomplete.
          let none = first_unmet (tells_failures found) ended_stopped (unmet (lists (codes "failure") wanted.fail_on) (tells_failures found || ended_stopped) failure_line some_failure failure second.0) in
          none_stops told.image (config_named wanted.machine told.inside)
          (λ events x stopped. none_of (λ (f : FoundFailure). f.failure) found.failures.items none x (told.found.each_failure (complete incomplete) events x stopped));
      ends = λ stuck incomplete.
          told.found.none_stuck (complete incomplete) (is_none_of found.stuck (unmet (lists (codes "stuck") wanted.fail_on) (is_some found.stuck) stuck_line some_stuck stuck second.1));
    }

-- ---- under a memory model

whole_of : (r : Reach) (e : Extent) → not (is_whole r e) ≡ false → (r ≡ reach.Whole) × (e ≡ Complete)
whole_of reach.Whole e is = (refl, is_complete_of e is)
whole_of reach.Unjudged e is = absurd (false≢true (sym is))
whole_of reach.Unclosed e is = absurd (false≢true (sym is))
whole_of (reach.WindowMet place) e is = absurd (false≢true (sym is))
whole_of (reach.ValuesMet place) e is = absurd (false≢true (sym is))
whole_of (reach.WaysMet place) e is = absurd (false≢true (sym is))
whole_of (reach.CallMet place) e is = absurd (false≢true (sym is))
whole_of (reach.RowMet place) e is = absurd (false≢true (sym is))
whole_of reach.LimitMet e is = absurd (false≢true (sym is))
whole_of (reach.Ended ending) e is = absurd (false≢true (sym is))
whole_of reach.OutOfMemory e is = absurd (false≢true (sym is))

pub search_passing_is_safe : SearchPassingIsSafe
search_passing_is_safe held left wanted words window old new searched =
    let a = searched.architecture in
    let found = searched.of_file.found in
    let ended_stopped = have_failure (map (λ (o : ModelOutcome). (end_of o).results) a.outcomes.items) in
    let none : search_fails wanted.fail_on a ≡ [] = by_file held wanted.allow (map (λ (o : ModelOutcome). end_text (names_of words) (end_of o)) a.outcomes.items) (search_fails wanted.fail_on a) searched.judged in
    let failed = line_if (lists (codes "failure") wanted.fail_on && (tells_stops a || ended_stopped)) failure_line in
    let stuck = line_if (lists (codes "stuck") wanted.fail_on && false) stuck_line in
    let ended = line_if (lists (codes "incomplete") wanted.fail_on && not (is_whole a.reach a.machine)) incomplete_line in
    let first = both_none (failed ++ stuck) ended none in
    let second = both_none failed stuck first.0 in
    let whole : lists (codes "incomplete") wanted.fail_on ≡ true → (a.reach ≡ reach.Whole) × (a.machine ≡ Complete) =
    λ listed. whole_of a.reach a.machine (unmet (lists (codes "incomplete") wanted.fail_on) (not (is_whole a.reach a.machine)) incomplete_line some_incomplete listed first.1) in
    let no_stop : lists (codes "failure") wanted.fail_on ≡ true → not (length a.failures.items == 0) ≡ false =
    λ listed. first_unmet (tells_stops a) ended_stopped (unmet (lists (codes "failure") wanted.fail_on) (tells_stops a || ended_stopped) failure_line some_failure listed second.0) in
    record {
      none_allowed = λ failure incomplete t x failing. none_of (λ (f : Failing). f.failure) a.failures.items (no_stop failure) x (found.failing (whole incomplete).0 t x failing);
      none_stops = λ failure incomplete.
          none_stops searched.of_file.image (config_named wanted.machine searched.of_file.inside)
          (λ events x stopped. none_of machine_stop a.failures.items (no_stop failure) (Some x) (found.stopped_machine (whole incomplete).1 events x stopped));
    }

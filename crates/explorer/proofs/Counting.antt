-- One more run is counted.
use Rattle.std.proofs.Common.{◌≡◌, ◌∙◌, ℕ, ◌+◌, ◌≤◌, Bool, true, false, cond, List, [], ◌∷◌, Option, Some, refl, sym, ap, arith, length, count_by, unwrap_or, is_eq, is_err, Result, Ok, Err, OnOk, ◌++◌, true≢false}
use Rattle.std.specs.Cmp.{Equal-is}
use Rattle.std.specs.Map.{keys_of, lookup, values_of}
use Rattle.std.proofs.lemmas.List.Sums.{count_by-le-length, sum_by-cons}
use Rattle.elf_loader.specs.Image.{Initial}
use Rattle.explorer.specs.declared.found.Found.{Found}
use Rattle.explorer.specs.declared.found.Realisation.{Realisation}
use Rattle.explorer.specs.declared.found.Realisation.TheVariants.{Events, Limit, NoMemory, Unrealised}
use Rattle.explorer.specs.Ends.{outcome_of}
use Rattle.explorer.specs.Orders.{same_outcome}
use Rattle.explorer.specs.Ranks.{outcome_cmp}
use Rattle.flat_exploration.specs.Outcomes.{Outcome, machine_outcome}
use Rattle.machine_types.specs.declared.config.Config.{Config}
use Rattle.machine_types.specs.declared.event.Event.{Event}
use Rattle.explorer.specs.Sampled.{AreCounted, IsRealEnd, IsSampledRun, IsShort, LeadsToEnd, all_ended, ends_led, is_outcome_of, with_times, times_of}
use Rattle.schedules.specs.Schedules.{led}

-- equal as code finds it
same : (a b : Outcome) → is_eq (outcome_cmp a b) ≡ true → a ≡ b
same a b t = same_outcome a b ((Equal-is (outcome_cmp a b)).0 t)

-- what stands with an end behind an insert
pub times_behind : (b : Bool) (n : ℕ) (before : Option ℕ) → unwrap_or (cond b (Some n) before) 0 ≡ cond b n (unwrap_or before 0)
times_behind true n before = refl
times_behind false n before = refl

none_more : (n : ℕ) → 0 + n ≡ n
none_more n = omega arith

plus_one : (n : ℕ) → 1 + n ≡ n + 1
plus_one n = omega arith

-- no end has more runs than there were
pub room : (image : Initial) (config : Config) (counted : List (Found × ℕ)) (unended runs : ℕ) → AreCounted image config counted unended runs → (found : Found) → times_of found counted ≤ runs
room image config counted unended runs are found = let few = count_by-le-length (is_outcome_of found) (ends_led image config are.schedules) in omega (arith, few, are.times found, are.others)

module _ (image : Initial) (config : Config) (events : List Event) (run : IsSampledRun image config events) where
  abbrev pub outcome : Outcome
  outcome = machine_outcome [] (led image config events)

  led_more : (b : Bool) (all : List (List Event)) → all_ended outcome.results ≡ b → ends_led image config (events ∷ all) ≡ cond b (outcome ∷ ends_led image config all) (ends_led image config all)
  led_more b all is = ap (λ x. cond x (outcome ∷ ends_led image config all) (ends_led image config all)) is

  module _ (counted : List (Found × ℕ)) (unended runs : ℕ) (are : AreCounted image config counted unended runs) where
    -- a hart hadn't ended
    pub one_unended : all_ended outcome.results ≡ false → AreCounted image config counted (unended + 1) (runs + 1)
    one_unended is = let more = led_more false are.schedules is in record {
      schedules = events ∷ are.schedules;
      count = omega (arith, are.count);
      each = (run, are.each);
      times = λ found. are.times found ∙ ap (count_by (is_outcome_of found)) (sym more);
      others = let n = ap length more in omega (arith, n, are.others);
    }

    -- all had ended, and the number at this end is one higher
    pub one_ended : (end : Found) (after : List (Found × ℕ)) → all_ended outcome.results ≡ true → outcome ≡ outcome_of end
        → ((found : Found) → times_of found after ≡ cond (is_eq (outcome_cmp (outcome_of end) (outcome_of found))) (times_of end counted + 1) (times_of found counted))
        → AreCounted image config after unended (runs + 1)
    one_ended end after is of_end times = record {
      schedules = events ∷ are.schedules;
      count = omega (arith, are.count);
      each = (run, are.each);
      times = λ found. times found ∙ (step found (is_eq (outcome_cmp (outcome_of end) (outcome_of found))) refl ∙ ap (count_by (is_outcome_of found)) (sym more));
      others = let n = ap length more in omega (arith, n, are.others);
    }
      where
        ends : List Outcome
        ends = ends_led image config are.schedules

        more : ends_led image config (events ∷ are.schedules) ≡ outcome ∷ ends
        more = led_more true are.schedules is

        asked : (found : Found) (b : Bool) → is_eq (outcome_cmp (outcome_of end) (outcome_of found)) ≡ b → is_outcome_of found outcome ≡ b
        asked found b e = ap (λ o. is_eq (outcome_cmp o (outcome_of found))) of_end ∙ e

        split : (found : Found) → count_by (is_outcome_of found) (outcome ∷ ends) ≡ cond (is_outcome_of found outcome) 1 0 + count_by (is_outcome_of found) ends
        split found = sum_by-cons (λ o. cond (is_outcome_of found o) 1 0) outcome ends

        step : (found : Found) (b : Bool) → is_eq (outcome_cmp (outcome_of end) (outcome_of found)) ≡ b → cond b (times_of end counted + 1) (times_of found counted) ≡ count_by (is_outcome_of found) (outcome ∷ ends)
        step found true e =
            let here = split found ∙ ap (λ x. cond x 1 0 + count_by (is_outcome_of found) ends) (asked found true e) in
            let alike = ap (λ o. count_by (λ other. is_eq (outcome_cmp other o)) ends) (same (outcome_of end) (outcome_of found) e) in
            ap (λ n. n + 1) (are.times end ∙ alike) ∙ (sym (here ∙ plus_one (count_by (is_outcome_of found) ends)))
        step found false e = are.times found ∙ sym (split found ∙ (ap (λ x. cond x 1 0 + count_by (is_outcome_of found) ends) (asked found false e) ∙ none_more (count_by (is_outcome_of found) ends)))

-- an end that was told with a script counts as one
pub end_counted : (image : Initial) (config : Config) (counted after : List (Found × ℕ)) (unended runs n : ℕ) (end told : Found) → AreCounted image config counted unended runs → IsRealEnd image config end
    → IsShort end.script → outcome_of told ≡ outcome_of end → n ≡ times_of end counted
    → ((found : Found) → lookup (λ other. is_eq (outcome_cmp (outcome_of found) (outcome_of other))) after
    ≡ cond (is_eq (outcome_cmp (outcome_of told) (outcome_of found))) (Some (n + 1)) (lookup (λ other. is_eq (outcome_cmp (outcome_of found) (outcome_of other))) counted))
    → AreCounted image config after unended (runs + 1)
end_counted image config counted after unended runs n end told are reached short alike count updates = go end.script reached.1 short
  where
    times : n ≡ times_of told counted
    times = count ∙ ap (λ o. unwrap_or (lookup (λ other. is_eq (outcome_cmp o (outcome_of other))) counted) 0) (sym alike)

    step : (found : Found) → times_of found after ≡ cond (is_eq (outcome_cmp (outcome_of told) (outcome_of found))) (times_of told counted + 1) (times_of found counted)
    step found =
        let test = is_eq (outcome_cmp (outcome_of told) (outcome_of found)) in
        ap (λ o. unwrap_or o 0) (updates found) ∙ (times_behind test (n + 1) _ ∙ ap (λ m. cond test (m + 1) (times_of found counted)) times)

    -- the run's own events are counted, and not those of the script that is told
    go : (script : Realisation) → LeadsToEnd image config (outcome_of end).results script → IsShort script → AreCounted image config after unended (runs + 1)
    go (Events events) leads few =
        one_ended image config events.items (record { replays = leads.replays; moves = leads.moves; within = few }) counted unended runs are told after (ap all_ended leads.there ∙ reached.0) ((λ i. record { results = leads.there i; words = sym reached.2 i }) ∙ sym alike) step
    go NoMemory leads few = absurd leads
    go Limit leads few = absurd leads
    go Unrealised leads few = absurd leads

-- what holds of a result that isn't an error
pub on_ok : {T E : Type 0} (P : Type 0) (r : Result T E) → is_err r ≡ false → OnOk r P → P
on_ok P (Ok x) is so = so
on_ok P (Err e) is so = absurd (true≢false is)

-- ---- a list of ends beside one of numbers

pub numbered_push : (fs : List Found) (ns : List ℕ) (f : Found) (n : ℕ) → length ns ≡ length fs → with_times (fs ++ f ∷ []) (ns ++ n ∷ []) ≡ with_times fs ns ++ (f, n) ∷ []
numbered_push [] [] f n e = refl
numbered_push [] (m ∷ ns) f n e = absurd (omega (arith, e))
numbered_push (g ∷ fs) [] f n e = absurd (omega (arith, e))
numbered_push (g ∷ fs) (m ∷ ns) f n e = ap (λ es. (g, m) ∷ es) (numbered_push fs ns f n (omega (arith, e)))

pub ends_of : (fs : List Found) (ns : List ℕ) → length ns ≡ length fs → keys_of (with_times fs ns) ≡ fs
ends_of [] ns e = refl
ends_of (f ∷ fs) [] e = absurd (omega (arith, e))
ends_of (f ∷ fs) (n ∷ ns) e = ap (λ es. f ∷ es) (ends_of fs ns (omega (arith, e)))

pub numbers_of : (fs : List Found) (ns : List ℕ) → length ns ≡ length fs → values_of (with_times fs ns) ≡ ns
numbers_of [] [] e = refl
numbers_of [] (n ∷ ns) e = absurd (omega (arith, e))
numbers_of (f ∷ fs) [] e = absurd (omega (arith, e))
numbers_of (f ∷ fs) (n ∷ ns) e = ap (λ es. n ∷ es) (numbers_of fs ns (omega (arith, e)))

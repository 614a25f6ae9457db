-- Every list of a machine's events, some list of flat events shows; and what follows from that.
use Rattle.std.proofs.Common.{◌≡◌, ℕ, suc, ◌<◌, List, [], ◌∷◌, ◌++◌, Bool, true, false, refl, sym, ap, ◌∙◌, subst, cond, arith, length, slice_index_or}
use Rattle.std.specs.Prelude.{map, nat_lt}
use Rattle.std.proofs.lemmas.Bool.{and_parts, ltb-true}
use Rattle.std.proofs.lemmas.List.FromFn.{get_or-map-range_with_len, length-map-range_with_len}
use Rattle.machine_model.specs.Image.{Initial, IsImage}
use Rattle.flat_model.specs.declared.event.FlatEvent.{FlatEvent}
use Rattle.flat_model.specs.Events as flat_events
use Rattle.flat_model.specs.Flat as of_flat
use Rattle.flat_model.specs.Flat.{Flat, FlatNode}
use Rattle.flat_model.specs.Laws.{FlatOrderAlways, FlatResultsAlways, IsShown, ShownAlways}
use Rattle.flat_model.specs.Shown.{IsShownBy, HartEnd, Shows, without_log}
use Rattle.flat_model.proofs.Acts.{Base, IsGoal, Reaches, event_goal, reaches_not}
use Rattle.flat_model.proofs.OneWay.{AloneIn, acted_alone, opening_alone, still_alone}
use Rattle.flat_model.proofs.Sees.{shown_as}
use Rattle.hart.specs.declared.state.Hart.{Hart}
use Rattle.machine_model.specs.declared.act.Plan.{Plan}
use Rattle.machine_model.specs.declared.act.Plan.TheVariants.{Stays, Changes}
use Rattle.machine_types.specs.declared.config.Config.{Config}
use Rattle.machine_types.specs.declared.event.Event.{Event}
use Rattle.machine_model.specs.Changing.{acted, outcome_of_act}
use Rattle.machine_model.specs.Events.{IsBad, IsLimited, Moves, after_events, counted, happens, hart_of, is_good, is_limited, names_well, plan_of, state_by, verdict_by}
use Rattle.machine_model.specs.Laws.{AreRunsOf, IsCompletedLegally}
use Rattle.machine_model.specs.Ready.{AreReady}
use Rattle.machine_model.specs.Views.{Node, State, node_at, no_node, opening, opening_node}
use Rattle.machine_model.proofs.atomicity.Always.{legal_always}
use Rattle.machine_model.proofs.bytes.Always.{coherent_always, joint_always}
use Rattle.machine_model.proofs.order.Events.{fresh, order_kept}
use Rattle.machine_model.proofs.ready.Always.{after_one_more, ready_always, sound_always}
use Rattle.machine_model.proofs.runs.Runs.{runs_always}
use Rattle.machine_model.proofs.coherence.WorldSlots.{reserved_is_trunk_always}
use Rattle.machine_model.specs.History.{History}

-- ---- one event

-- flat events that show a state, whose caches are as they may be
record Step (f : Flat) (t : State) : Type 0 where
  reaches : Reaches f t
  alone : AloneIn t

counted_shows : (t : State) (f : Flat) → Shows t f → Shows (counted t) f
counted_shows t f v = record { config = v.config; count = v.count; nodes = v.nodes; memory = v.memory; trace = v.trace }

step : (s : State) (f : Flat) → Base s → AreReady s → Shows s f → (e : Event) → Step f (happens s e)
step s f is ready v e = go (is_good s e) refl
  where
    h : ℕ
    h = hart_of e

    same : Step f s
    same = record { reaches = reaches_not f s v; alone = is.alone }

    planned : (p : Plan) → plan_of s e ≡ p → is_good s e ≡ true → h < length s.views.nodes → IsGoal s f h p → Step f (state_by s (verdict_by s h p))
    planned (Stays o) q g l x = same
    planned (Changes a) q g l x = limited (is_limited s h a) refl
      where
        limited : (b : Bool) → is_limited s h a ≡ b → Step f (state_by s (cond b IsLimited (Moves (outcome_of_act s h a) (counted (acted h a s)))))
        limited true w = same
        limited false w = record {
          reaches = record { events = x.events; shows = counted_shows (acted h a s) (flat_events.after_events f x.events) x.shows };
          alone = still_alone (acted h a s) (counted (acted h a s)) refl (acted_alone h a s l (ready e a g q w).act is.alone);
        }

    go : (b : Bool) → is_good s e ≡ b → Step f (state_by s (cond b (verdict_by s h (plan_of s e)) IsBad))
    go false g = same
    go true g =
        let p = and_parts (nat_lt h (length s.views.nodes)) (names_well s e) g in
        let l = ltb-true h (length s.views.nodes) p.0 in
        planned (plan_of s e) refl g l (event_goal s f is v e l p.1)

-- ---- from reset

flat_append : (f : Flat) (xs ys : List FlatEvent) → flat_events.after_events f (xs ++ ys) ≡ flat_events.after_events (flat_events.after_events f xs) ys
flat_append f [] ys = refl
flat_append f (x ∷ xs) ys = flat_append (flat_events.happens f x) xs ys

module _ (image : Initial) (config : Config) (whole : IsImage image) where
  abbrev at : List Event → State
  at events = after_events (opening image config) events

  abbrev flat_at : List FlatEvent → Flat
  flat_at events = flat_events.after_events (of_flat.opening image config) events

  base : (events : List Event) → AloneIn (at events) → Base (at events)
  base events alone = record {
    stand = (order_kept image config events).0;
    order = (order_kept image config events).1;
    joint = joint_always image config events whole;
    coherent = coherent_always image config events whole;
    trunk = reserved_is_trunk_always image config events whole;
    shapes = (sound_always image config events whole).shapes;
    alone = alone;
  }

  -- behind some events, more of them
  more : (past : List Event) (known : List FlatEvent) → Shows (at past) (flat_at known) → AloneIn (at past) → (events : List Event) → IsShown image config (after_events (at past) events)
  more past known v alone [] = record { events = known; shows = v }
  more past known v alone (e ∷ events) =
      let is = step (at past) (flat_at known) (base past alone) (ready_always image config past whole) v e in
      let next : at (past ++ e ∷ []) ≡ happens (at past) e = after_one_more past (opening image config) e in
      let shown : Shows (at (past ++ e ∷ [])) (flat_at (known ++ is.reaches.events)) = subst (λ t. Shows t (flat_at (known ++ is.reaches.events))) (sym next) (subst (Shows (happens (at past) e)) (sym (flat_append (of_flat.opening image config) known is.reaches.events)) is.reaches.shows) in
      subst (λ t. IsShown image config (after_events t events)) next (more (past ++ e ∷ []) (known ++ is.reaches.events) shown (subst AloneIn (sym next) is.alone) events)

  opening_shows : Shows (opening image config) (of_flat.opening image config)
  opening_shows = record {
    config = refl;
    count = length-map-range_with_len (of_flat.opening_node image config) 0 config.harts ∙ sym (length-map-range_with_len (opening_node image config) 0 config.harts);
    nodes = λ h b. node h (subst (λ c. h < c) (length-map-range_with_len (opening_node image config) 0 config.harts) b);
    memory = record { size = refl; bytes = λ x low high. refl };
    trace = refl;
  }
    where
      node : (h : ℕ) → h < config.harts → IsShownBy (node_at (opening image config) h) (of_flat.node_at (of_flat.opening image config) h)
      node h l =
          shown_as (opening_node image config h) _ (of_flat.opening_node image config h) _ (fresh image config h l) (get_or-map-range_with_len (of_flat.opening_node image config) 0 config.harts h h (of_flat.no_node (of_flat.opening image config)) l (omega arith))
          (record { hart = refl; output = refl; buffer = refl; reserved = λ word e. e })

pub shown_always : ShownAlways
shown_always image config events whole = more image config whole [] [] (opening_shows image config whole) (opening_alone image config) events

-- ---- results

abbrev result : Node → HartEnd
result n = record { status = n.hart.status; output = n.output }

abbrev flat_result : FlatNode → HartEnd
flat_result m = record { status = m.hart.status; output = m.output }

same_result : (n : Node) (m : FlatNode) → IsShownBy n m → flat_result m ≡ result n
same_result n m i = ap (λ (k : Hart). record { status = k.status; output = m.output }) i.hart ∙ ap (λ o. record { status = n.hart.status; output = o }) i.output

same_results : (ns : List Node) (ms : List FlatNode) (d : Node) (e : FlatNode) → length ms ≡ length ns → ((h : ℕ) → h < length ns → IsShownBy (slice_index_or ns h d) (slice_index_or ms h e)) → map flat_result ms ≡ map result ns
same_results [] [] d e c f = refl
same_results [] (m ∷ ms) d e c f = absurd (omega (arith, c))
same_results (n ∷ ns) [] d e c f = absurd (omega (arith, c))
same_results (n ∷ ns) (m ∷ ms) d e c f =
    ap (λ x. x ∷ map flat_result ms) (same_result n m (f 0 (omega arith)))
    ∙ ap (λ xs. result n ∷ xs) (same_results ns ms d e (omega (arith, c)) (λ h l. f (suc h) (omega (arith, l))))

pub results_always : FlatResultsAlways
results_always image config events whole =
    let shown = shown_always image config events whole in
    let s = after_events (opening image config) events in
    let v = shown.shows in
    record { events = shown.events; same = same_results s.views.nodes (flat_events.after_events (of_flat.opening image config) shown.events).nodes (no_node s) _ v.count v.nodes }

-- ---- the order

quiet_runs : (image : Initial) (config : Config) (t : History) → AreRunsOf image config t → AreRunsOf image config (without_log t)
quiet_runs image config t k = record { loaded = k.loaded; harts = k.harts; runs = k.runs }

quiet_order : (config : Config) (t : History) → IsCompletedLegally config t → IsCompletedLegally config (without_log t)
quiet_order config t k = record { order = record { only = k.order.only; once = k.order.once; every = k.order.every }; begins = k.begins; legal = k.legal }

pub order_always : FlatOrderAlways
order_always image config events whole f v =
    let s = after_events (opening image config) events in
    record {
      runs = subst (AreRunsOf image config) (sym v.trace) (quiet_runs image config s.trace (runs_always image config events whole));
      order = subst (IsCompletedLegally config) (sym v.trace) (quiet_order config s.trace (legal_always image config events whole));
    }

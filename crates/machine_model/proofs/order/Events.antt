-- Whatever events come, the harts' waiting stores are kept as they should be.
use Rattle.std.proofs.Common.{◌≡◌, ℕ, ◌<◌, List, [], ◌∷◌, true, Some, refl, sym, ap, subst, arith, length, slice_index_or}
use Rattle.std.proofs.lemmas.List.{length-replicate, get_or-replicate}
use Rattle.std.proofs.lemmas.List.FromFn.{get_or-map-range_with_len, length-map-range_with_len}
use Rattle.elf_loader.specs.Image.{Initial}
use Rattle.hart.specs.declared.retired.Retired.{Retired}
use Rattle.hart.specs.declared.state.Hart.{Hart}
use Rattle.hart.specs.declared.status.Status.{Status}
use Rattle.hart.specs.declared.status.Status.TheVariants.{Running}
use Rattle.hart.specs.Run.{at_reset, is_step}
use Rattle.machine_model.specs.declared.act.Act.{Act}
use Rattle.machine_model.specs.declared.act.Act.TheVariants as act
use Rattle.machine_model.specs.declared.act.Plan.{Plan}
use Rattle.machine_model.specs.declared.act.Plan.TheVariants.{Stays, Changes}
use Rattle.machine_types.specs.declared.config.Config.{Config}
use Rattle.machine_types.specs.declared.event.Event.{Event}
use Rattle.machine_model.specs.Changing.{acted, next_place}
use Rattle.machine_model.specs.Events.{happens, after_events, plan_of, hart_of, counted}
use Rattle.machine_model.specs.Steps.{Fetched}
use Rattle.machine_model.specs.Views.{Node, State, node_at, no_node, opening, opening_node}
use Rattle.machine_model.proofs.Events.{by_event}
use Rattle.machine_model.proofs.Plans.{HasTrunk, OfAct, Rests, fetched_at, plan_rests}
use Rattle.machine_model.proofs.runs.Retiring.{retires_step}
use Rattle.machine_model.proofs.runs.Runs.{AllStand, Stands, happens_stand}
use Rattle.machine_model.proofs.order.Acts.{retired_kept, alone_kept}
use Rattle.machine_model.proofs.order.Buffers.{quiet_keeps, still}
use Rattle.machine_model.proofs.order.Deeds.{FitsDeed}
use Rattle.machine_model.proofs.order.Moves.{OrderKept, order_still, order_drained}
use Rattle.machine_model.proofs.order.Steps.{HartKept}
use Rattle.machine_model.proofs.order.Traces.{items_at}
use Rattle.machine_types.specs.declared.model.MemoryModel.{MemoryModel}
use Rattle.memory_model.specs.Items.{Item, items_from}
use Rattle.rv32_decode.specs.Rows.{decoded}
use Rattle.rv32_exec.specs.Meaning.{access_of}
use Rattle.store_buffer.specs.Groups.{Groups, no_groups}
use Rattle.trace_recorder.specs.History.{entries_of}

-- ---- acts

-- what a retiring instruction has found, and that a drain may write; of the other acts nothing is asked
abbrev pub IsFit : State → ℕ → Act → Type 0
IsFit s h (act.Retire e i d) =
    (is_step s.trace.image (node_at s h).hart e ≡ true) × (decoded e.word ≡ Some i)
    × (f : Fetched) × (f.instr ≡ i) × (f.place ≡ next_place s h) × FitsDeed s.views.config.model (node_at s h) f (access_of i (node_at s h).hart.regs) e d
IsFit s h (act.Drain word) = HasTrunk (node_at s h) word
IsFit s h _ = Unit {0}

pub acted_kept : (h : ℕ) (a : Act) (s : State) → h < s.views.config.harts → AllStand s → IsFit s h a → OrderKept s → OrderKept (acted h a s)
acted_kept h (act.Retire e i d) s l st p o = retired_kept h e i d s l st p.0 p.1 p.2 p.3 p.4 p.5 o
acted_kept h (act.Drain word) s l st p o = order_drained h word s (subst (λ n. h < n) (sym st.nodes) l) l o
acted_kept h (act.Local count) s l st p o = alone_kept h count s l st o
acted_kept h a s l st p o = order_still s _ (quiet_keeps h a s tt) o

-- ---- plans

abbrev pub IsFitPlan : State → ℕ → Plan → Type 0
IsFitPlan s h (Stays o) = Unit {0}
IsFitPlan s h (Changes a) = IsFit s h a

-- what an act rests on tells that
pub rests_fit : (s : State) (e : Event) (a : Act) → Rests s e a → IsFit s (hart_of e) a
rests_fit s e (act.Retire r i d) x = let step = retires_step s (hart_of e) r i d x.1 in (step.0, step.1, fetched_at s (hart_of e) i, refl, refl, x.1.does.fit)
rests_fit s e (act.Drain word) x = x.1.trunk
rests_fit s e _ x = tt

pub plan_fit : (s : State) (e : Event) → IsFitPlan s (hart_of e) (plan_of s e)
plan_fit s e = go (plan_of s e) (plan_rests s e)
  where
    go : (p : Plan) → OfAct (Rests s e) p → IsFitPlan s (hart_of e) p
    go (Stays o) x = tt
    go (Changes a) x = rests_fit s e a x

-- ---- events

pub happens_kept : (s : State) (e : Event) → AllStand s → OrderKept s → OrderKept (happens s e)
happens_kept s e st k =
    by_event OrderKept s e k (λ a m.
    let next = acted (hart_of e) a s in
    order_still next (counted next) (still next (counted next) refl refl refl) (acted_kept (hart_of e) a s (subst (λ n. hart_of e < n) st.nodes m.in_h) st (rests_fit s e a m.rests) k))

events_kept : (events : List Event) (s : State) → AllStand s → OrderKept s → AllStand (after_events s events) × OrderKept (after_events s events)
events_kept [] s st k = (st, k)
events_kept (e ∷ events) s st k = events_kept events (happens s e) (happens_stand s e st) (happens_kept s e st k)

-- ---- from reset

pub fresh : (image : Initial) (config : Config) (h : ℕ) → h < config.harts → node_at (opening image config) h ≡ opening_node image config h
fresh image config h l = get_or-map-range_with_len (opening_node image config) 0 config.harts h h (no_node (opening image config)) l (omega arith)

pub opening_stand : (image : Initial) (config : Config) → AllStand (opening image config)
opening_stand image config = record {
  nodes = length-map-range_with_len (opening_node image config) 0 config.harts;
  entries = length-replicate config.harts [];
  statuses = length-replicate config.harts Running;
  each = λ h l. at h l;
}
  where
    at : (h : ℕ) → h < config.harts → Stands image config.harts h (node_at (opening image config) h).hart (entries_of (opening image config).trace h) (slice_index_or (opening image config).trace.statuses h Running)
    at h l =
        let start : Stands image config.harts h (at_reset image h config.harts) [] Running = record { steps = refl; fits = refl; here = refl } in
        subst (λ (x : Hart). Stands image config.harts h x (entries_of (opening image config).trace h) (slice_index_or (opening image config).trace.statuses h Running)) (sym (ap (λ (n : Node). n.hart) (fresh image config h l)))
        (subst (λ (xs : List Retired). Stands image config.harts h (at_reset image h config.harts) xs (slice_index_or (opening image config).trace.statuses h Running)) (sym (get_or-replicate config.harts h [] [] l))
        (subst (λ (x : Status). Stands image config.harts h (at_reset image h config.harts) [] x) (sym (get_or-replicate config.harts h Running Running l)) start))

nothing_kept : (model : MemoryModel) (h : ℕ) → HartKept model h [] no_groups []
nothing_kept model h = record {
  sealed = [];
  current = [];
  buffer_is = refl;
  kept = record { item_places = tt; waiting = tt; places = tt; quiet = tt; free_sealed = tt; free_current = tt; none_late = tt; none_late_load = tt; single_sealed = λ z. tt; single_current = λ z. tt; ordered = tt };
  split = record { waits = refl; named = tt; distinct = tt };
}

pub opening_kept : (image : Initial) (config : Config) → OrderKept (opening image config)
opening_kept image config = record { each = λ h l. at h l; resolved = tt; distinct = tt }
  where
    at : (h : ℕ) → h < config.harts → HartKept config.model h (items_at (opening image config).trace h) (node_at (opening image config) h).buffer []
    at h l =
        subst (λ (is : List Item). HartKept config.model h is (node_at (opening image config) h).buffer []) (sym (ap (items_from 0 (at_reset image h (length (opening image config).trace.entries))) (get_or-replicate config.harts h [] [] l)))
        (subst (λ (b : Groups). HartKept config.model h [] b []) (sym (ap (λ (n : Node). n.buffer) (fresh image config h l))) (nothing_kept config.model h))

pub order_kept : (image : Initial) (config : Config) (events : List Event) → AllStand (after_events (opening image config) events) × OrderKept (after_events (opening image config) events)
order_kept image config events = events_kept events (opening image config) (opening_stand image config) (opening_kept image config)

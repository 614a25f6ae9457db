-- A row of private instructions is as many flat steps.
use Rattle.std.proofs.Common.{◌≡◌, ℕ, zero, suc, ◌<◌, List, [], ◌∷◌, Bool, true, false, Option, Some, None, refl, sym, ap, ◌∙◌, subst, cond, not, arith, length}
use Rattle.std.specs.Prelude.{is_none, slice_set}
use Rattle.std.proofs.lemmas.Bool.{false≢true, and_parts, lt-ltb}
use Rattle.std.proofs.lemmas.List.{get_or-set_same, length-set, set-get_or, set-set}
use Rattle.machine_model.specs.Image.{Initial, word_at}
use Rattle.flat_model.specs.Changing.{next_place}
use Rattle.flat_model.specs.declared.event.FlatEvent.{FlatEvent}
use Rattle.flat_model.specs.declared.event.FlatEvent.TheVariants as event
use Rattle.flat_model.specs.Events.{IsBad, after_events, flat_by, happens, plan_of, verdict_by}
use Rattle.flat_model.specs.Flat.{Flat, FlatNode, node_at, no_node, with_node, with_trace}
use Rattle.flat_model.specs.Steps as flat
use Rattle.flat_model.specs.Steps.{FlatPlan, Retires, plan_access, plan_instr, plan_step, plan_unless}
use Rattle.flat_model.specs.Shown.{without_log}
use Rattle.flat_model.proofs.Sees.{Sees, sees_node, sees_trace}
use Rattle.hart.specs.declared.retired.Retired.{Retired}
use Rattle.hart.specs.declared.state.Hart.{Hart}
use Rattle.hart.specs.declared.status.Status.{Status}
use Rattle.hart.specs.declared.status.Status.TheVariants.{Running, Stopped, Exited}
use Rattle.hart.specs.Local.{can_go_alone, is_done_alone, is_private, next_entry, private_row}
use Rattle.hart.specs.Run.{after, after_instr, can_fetch, is_running, next_stop, reached, stop_with}
use Rattle.hart.proofs.Alone.{after-running, alone, private_is}
use Rattle.hart.proofs.Rows.{stop_of-private}
use Rattle.machine_model.specs.Changing.{went_alone, with_entries, with_halt}
use Rattle.machine_model.specs.declared.act.Deed.TheVariants as deed
use Rattle.machine_types.specs.declared.outcome.Outcome.TheVariants as outcome
use Rattle.machine_model.specs.Views as views
use Rattle.machine_model.specs.Views.{State}
use Rattle.machine_types.specs.declared.model.MemoryModel.{MemoryModel}
use Rattle.rv32_decode.specs.Rows.{decoded}
use Rattle.rv32_decode.specs.declared.instruction.Instr.{Instr}
use Rattle.hart.specs.Meaning.{Private, access_of, stop_of}
use Rattle.machine_model.specs.History.{History, with_entry}

-- ---- one step of a private instruction

found : (hart : Hart) (o : Option Instr) → is_done_alone hart o ≡ true → (i : Instr) × (o ≡ Some i) × (access_of i hart.regs ≡ Private) × (is_none (stop_of i hart.pc hart.regs 0) ≡ true)
found hart None e = absurd (false≢true e)
found hart (Some i) e = let p = and_parts (is_private (access_of i hart.regs)) (is_none (stop_of i hart.pc hart.regs 0)) e in (i, refl, private_is (access_of i hart.regs) p.0, p.1)

none_of : (o : Option ℕ) → is_none o ≡ true → o ≡ None
none_of None e = refl
none_of (Some x) e = absurd (false≢true e)

no_stop : (image : Initial) (hart : Hart) (i : Instr) → can_fetch image hart.pc ≡ true → decoded (word_at image hart.pc) ≡ Some i → access_of i hart.regs ≡ Private → is_none (stop_of i hart.pc hart.regs 0) ≡ true → next_stop image hart ≡ None
no_stop image hart i c d p s =
    ap (λ (b : Bool). cond b (stop_with (length image.bytes) hart (decoded (word_at image hart.pc))) (Some 1)) c
    ∙ (ap (stop_with (length image.bytes) hart) d ∙ (stop_of-private i hart.pc hart.regs (length image.bytes) 0 p ∙ none_of (stop_of i hart.pc hart.regs 0) s))

step_alone : (model : MemoryModel) (image : Initial) (memory : List ℕ) (n : FlatNode) (place : ℕ) (i : Instr) → is_running n.hart.status ≡ true → next_stop image n.hart ≡ None → decoded (word_at image n.hart.pc) ≡ Some i → access_of i n.hart.regs ≡ Private → plan_step model image memory n place ≡ Retires (next_entry image n.hart) i deed.Private None
step_alone model image memory n place i r s d p =
    ap (λ (b : Bool). cond (not b) (flat.Stays outcome.Halted) (plan_unless (next_stop image n.hart) (plan_instr model memory n (word_at image n.hart.pc) place (decoded (word_at image n.hart.pc))))) r
    ∙ (ap (λ (o : Option ℕ). plan_unless o (plan_instr model memory n (word_at image n.hart.pc) place (decoded (word_at image n.hart.pc)))) s
    ∙ (ap (plan_instr model memory n (word_at image n.hart.pc) place) d
    ∙ ap (plan_access model memory n (record { word = word_at image n.hart.pc; instr = i; place = place })) p))

running_is : (status : Status) → is_running status ≡ true → status ≡ Running
running_is Running e = refl
running_is (Stopped code) e = absurd (false≢true e)
running_is (Exited code) e = absurd (false≢true e)

-- the hart has gone on to here, with these entries
abbrev moved : ℕ → List Retired → Hart → Flat → Flat
moved h row hart f = with_trace (with_entries h row f.trace) (with_node h (record (node_at f h) { hart = hart }) f)

step_is : (f : Flat) (h : ℕ) → h < length f.nodes → can_go_alone f.trace.image (node_at f h).hart ≡ true → happens f (event.Step h) ≡ moved h (next_entry f.trace.image (node_at f h).hart ∷ []) (after (node_at f h).hart (next_entry f.trace.image (node_at f h).hart)) f
step_is f h l g =
    let hart = (node_at f h).hart in
    let image = f.trace.image in
    let a = alone image hart g in
    let x = found hart (decoded (word_at image hart.pc)) a.done in
    let entry = next_entry image hart in
    let plan : plan_of f (event.Step h) ≡ Retires entry x.0 deed.Private None = step_alone f.config.model image f.memory (node_at f h) (next_place f h) x.0 a.running (no_stop image hart x.0 a.fetched x.1 x.2 x.3) x.1 x.2 in
    let is : after_instr hart entry (Some x.0) ≡ after hart entry = ap (after_instr hart entry) (sym x.1) in
    let on : (after hart entry).status ≡ Running = running_is (after hart entry).status (after-running image hart g) in
    ap (λ (b : Bool). flat_by f (cond b (verdict_by f h (plan_of f (event.Step h))) IsBad)) (lt-ltb h (length f.nodes) l)
    ∙ (ap (λ p. flat_by f (verdict_by f h p)) plan
    ∙ (ap (λ (k : Hart). with_trace (with_halt h k.status (with_entry h entry f.trace)) (with_node h (record (node_at f h) { hart = k }) f)) is
    ∙ ap (λ (k : Status). with_trace (with_halt h k (with_entry h entry f.trace)) (with_node h (record (node_at f h) { hart = after hart entry }) f)) on))

-- ---- many steps

row_head : (b : Bool) (entry : Retired) (rest : List Retired) (n : ℕ) → length (cond b (entry ∷ rest) []) ≡ suc n → (b ≡ true) × (length rest ≡ n)
row_head true entry rest n e = (refl, omega (arith, e))
row_head false entry rest n e = absurd cc

moved_twice : (f : Flat) (h : ℕ) (entry : Retired) (row : List Retired) (one two : Hart) → h < length f.nodes → moved h row two (moved h (entry ∷ []) one f) ≡ moved h (entry ∷ row) two f
moved_twice f h entry row one two l =
    ap (λ (n : FlatNode). nodes (slice_set (slice_set f.nodes h (record (node_at f h) { hart = one })) h (record n { hart = two }))) (get_or-set_same f.nodes h (record (node_at f h) { hart = one }) (no_node f) l)
    ∙ ap nodes (set-set f.nodes h (record (node_at f h) { hart = one }) (record (node_at f h) { hart = two }))
  where
    nodes : List FlatNode → Flat
    nodes ns = record f { nodes = ns; trace = with_entries h (entry ∷ row) f.trace }

-- so many steps of a hart
abbrev pub steps_of : ℕ → ℕ → List FlatEvent
steps_of h zero = []
steps_of h (suc n) = event.Step h ∷ steps_of h n

goes : (n : ℕ) (f : Flat) (h : ℕ) → h < length f.nodes → length (private_row f.trace.image (node_at f h).hart n) ≡ n → after_events f (steps_of h n) ≡ moved h (private_row f.trace.image (node_at f h).hart n) (reached (node_at f h).hart (private_row f.trace.image (node_at f h).hart n)) f
goes zero f h l e = ap (λ (ns : List FlatNode). record f { nodes = ns }) (sym (set-get_or f.nodes h (no_node f)))
goes (suc n) f h l e =
    let image = f.trace.image in
    let hart = (node_at f h).hart in
    let entry = next_entry image hart in
    let next = after hart entry in
    let row = private_row image next n in
    let head = row_head (can_go_alone image hart) entry row n e in
    let later = moved h (entry ∷ []) next f in
    let at : (node_at later h).hart ≡ next = ap (λ (x : FlatNode). x.hart) (get_or-set_same f.nodes h (record (node_at f h) { hart = next }) (no_node f) l) in
    let rest = goes n later h (subst (λ c. h < c) (sym (length-set f.nodes h (record (node_at f h) { hart = next }))) l) (ap (λ (x : Hart). length (private_row image x n)) at ∙ head.1) in
    ap (λ g. after_events g (steps_of h n)) (step_is f h l head.0)
    ∙ (rest
    ∙ (ap (λ (x : Hart). moved h (private_row image x n) (reached x (private_row image x n)) later) at
    ∙ (moved_twice f h entry row next (reached next row) l
    ∙ ap (λ (b : Bool). moved h (cond b (entry ∷ row) []) (reached hart (cond b (entry ∷ row) [])) f) (sym head.0))))

-- ---- on both sides

quiet_entries : (h : ℕ) (row : List Retired) (t : History) → with_entries h row (without_log t) ≡ without_log (with_entries h row t)
quiet_entries h [] t = refl
quiet_entries h (entry ∷ row) t = quiet_entries h row (with_entry h entry t)

pub local_sees : (h count : ℕ) (s : State) (f : Flat) → h < length s.views.nodes → length (private_row s.trace.image (views.node_at s h).hart count) ≡ count → Sees s f → Sees (went_alone h count s) (after_events f (steps_of h count))
local_sees h count s f l whole v = subst (Sees (went_alone h count s)) (sym (goes count f h (subst (λ c. h < c) (sym v.count) l) (ap length same_row ∙ whole))) both
  where
    row : List Retired
    row = private_row s.trace.image (views.node_at s h).hart count

    flat_row : List Retired
    flat_row = private_row f.trace.image (node_at f h).hart count

    same_hart : (node_at f h).hart ≡ (views.node_at s h).hart
    same_hart = (v.nodes h l).hart

    same_row : flat_row ≡ row
    same_row = ap (λ (t : History). private_row t.image (node_at f h).hart count) v.trace ∙ ap (λ (k : Hart). private_row s.trace.image k count) same_hart

    both : Sees (went_alone h count s) (moved h flat_row (reached (node_at f h).hart flat_row) f)
    both =
        let i = v.nodes h l in
        sees_trace (with_entries h row s.trace) (with_entries h flat_row f.trace) _ _ (ap (λ r. with_entries h r f.trace) same_row ∙ (ap (with_entries h row) v.trace ∙ quiet_entries h row s.trace))
        (sees_node h (record (views.node_at s h) { hart = reached (views.node_at s h).hart row }) (record (node_at f h) { hart = reached (node_at f h).hart flat_row }) s f l
        (record { hart = ap (λ r. reached (node_at f h).hart r) same_row ∙ ap (λ (k : Hart). reached k row) same_hart; output = i.output; buffer = i.buffer; reserved = i.reserved }) v)

pub local_memory : (h count : ℕ) (s : State) (f : Flat) → h < length s.views.nodes → length (private_row s.trace.image (views.node_at s h).hart count) ≡ count → Sees s f → (after_events f (steps_of h count)).memory ≡ f.memory
local_memory h count s f l whole v =
    let same : length (private_row f.trace.image (node_at f h).hart count) ≡ length (private_row s.trace.image (views.node_at s h).hart count) = ap (λ (t : History). length (private_row t.image (node_at f h).hart count)) v.trace ∙ ap (λ (k : Hart). length (private_row s.trace.image k count)) (v.nodes h l).hart in
    ap (λ (g : Flat). g.memory) (goes count f h (subst (λ c. h < c) (sym v.count) l) (same ∙ whole))

-- A Local event that retires is as many single steps.
use Rattle.std.proofs.Common.{◌≡◌, ℕ, zero, suc, ◌+◌, ◌<◌, ◌≤◌, List, [], ◌∷◌, ◌++◌, Bool, true, false, Option, Some, None, refl, cond, sym, ap, ◌∙◌, subst, ◌||◌, length, slice_index_or, slice_set, arith}
use Rattle.std.specs.Prelude.{nat_lt, nat_le, is_none}
use Rattle.std.proofs.lemmas.Bool.{false≢true, and_parts, and_from, ltb-true, lt-ltb, leb-true}
use Rattle.std.proofs.lemmas.List.{set-set, set-get_or, length-set, length-append}
use Rattle.machine_types.specs.declared.limits.TheConstants.{MAX_CHANGES, MAX_ENTRIES, MAX_ROW}
use Rattle.elf_loader.specs.Image.{Initial, word_at}
use Rattle.hart.specs.declared.retired.Retired.{Retired}
use Rattle.hart.specs.declared.state.Hart.{Hart}
use Rattle.hart.specs.declared.status.Status.{Status}
use Rattle.hart.specs.declared.status.Status.TheVariants.{Running, Stopped, Exited}
use Rattle.hart.specs.Local.{can_go_alone, is_done_alone, is_private, next_entry, private_row}
use Rattle.hart.specs.Run.{after, after_instr, can_fetch, is_running, next_stop, reached, stop_with}
use Rattle.hart.proofs.Alone.{alone, after-running, private_is}
use Rattle.hart.proofs.Rows.{stop_of-private}
use Rattle.machine_model.specs.declared.act.Act.TheVariants as act
use Rattle.machine_model.specs.declared.act.Deed.TheVariants as deed
use Rattle.machine_model.specs.declared.act.Plan.TheVariants.{Changes}
use Rattle.machine_types.specs.declared.event.Event.TheVariants as event
use Rattle.machine_types.specs.declared.outcome.Outcome.{Outcome}
use Rattle.machine_types.specs.declared.outcome.Outcome.TheVariants as outcome
use Rattle.machine_model.specs.Changing.{with_entries, outcome_by, outcome_of_act, next_place, retired, went_alone, with_halt}
use Rattle.machine_model.specs.Events.{Verdict, counted, is_good, plan_of, verdict, verdict_by}
use Rattle.machine_model.specs.Laws.{LocalIsSteps, StepsRetire, with_changes}
use Rattle.machine_model.specs.Steps.{plan_step}
use Rattle.machine_model.specs.Views.{Node, State, no_node, node_at, with_node, with_trace}
use Rattle.machine_model.proofs.Nodes.{node_same}
use Rattle.machine_types.specs.declared.model.MemoryModel.{MemoryModel}
use Rattle.rv32_decode.specs.Rows.{decoded}
use Rattle.rv32_decode.specs.declared.instruction.Instr.{Instr}
use Rattle.rv32_exec.specs.Meaning.{Private, access_of, stop_of}
use Rattle.trace_recorder.specs.History.{with_entry}
use Rattle.machine_model.specs.declared.act.Act.{Act}
use Rattle.machine_model.proofs.Events.{HasMoved, IsMove, after_act, has_moved, unlimited}

-- ---- one step of a private instruction

-- the instruction that the hart goes on with
found : (hart : Hart) (o : Option Instr) → is_done_alone hart o ≡ true → (i : Instr) × (o ≡ Some i) × (access_of i hart.regs ≡ Private) × (is_none (stop_of i hart.pc hart.regs 0) ≡ true)
found hart None e = absurd (false≢true e)
found hart (Some i) e = let p = and_parts (is_private (access_of i hart.regs)) (is_none (stop_of i hart.pc hart.regs 0)) e in (i, refl, private_is (access_of i hart.regs) p.0, p.1)

none_of : (o : Option ℕ) → is_none o ≡ true → o ≡ None
none_of None e = refl
none_of (Some x) e = absurd (false≢true e)

no_stop : (image : Initial) (hart : Hart) (i : Instr) → can_fetch image hart.pc ≡ true → decoded (word_at image hart.pc) ≡ Some i → access_of i hart.regs ≡ Private → is_none (stop_of i hart.pc hart.regs 0) ≡ true → next_stop image hart ≡ None
no_stop image hart i c d p s =
    ap (λ (b : Bool). cond b (stop_with (length image.bytes) hart (decoded (word_at image hart.pc))) (Some 1)) c
    ∙ (ap (stop_with (length image.bytes) hart) d ∙ (stop_of-private i hart.pc hart.regs (length image.bytes) 0 p ∙ none_of (stop_of i hart.pc hart.regs 0) s))

step_alone : (model : MemoryModel) (image : Initial) (n : Node) (place : ℕ) (i : Instr) → is_running n.hart.status ≡ true → next_stop image n.hart ≡ None → decoded (word_at image n.hart.pc) ≡ Some i → access_of i n.hart.regs ≡ Private → plan_step model image n place ≡ Changes (act.Retire (next_entry image n.hart) i deed.Private)
step_alone model image n place i r s d p = rw (r, s, d, p) refl

-- the state behind such a step
abbrev stepped : ℕ → Instr → State → State
stepped h i s = counted (retired h (next_entry s.trace.image (node_at s h).hart) i s)

running_is : (status : Status) → is_running status ≡ true → status ≡ Running
running_is Running e = refl
running_is (Stopped code) e = absurd (false≢true e)
running_is (Exited code) e = absurd (false≢true e)

not_limited : (changes place : ℕ) → changes < MAX_CHANGES → place + 1 ≤ MAX_ENTRIES → (nat_le MAX_CHANGES changes || nat_lt MAX_ENTRIES (place + 1)) ≡ false
not_limited changes place c p = go (nat_le MAX_CHANGES changes) refl (nat_lt MAX_ENTRIES (place + 1)) refl
  where
    go : (a : Bool) → nat_le MAX_CHANGES changes ≡ a → (b : Bool) → nat_lt MAX_ENTRIES (place + 1) ≡ b → (a || b) ≡ false
    go true e b f = let x = leb-true MAX_CHANGES changes e in absurd (omega arith)
    go false e true f = let x = ltb-true MAX_ENTRIES (place + 1) f in absurd (omega arith)
    go false e false f = refl

-- the verdict on the step
step_verdict : (s : State) (h : ℕ) (i : Instr) → h < length s.views.nodes → can_go_alone s.trace.image (node_at s h).hart ≡ true → decoded (word_at s.trace.image (node_at s h).hart.pc) ≡ Some i → access_of i (node_at s h).hart.regs ≡ Private → is_none (stop_of i (node_at s h).hart.pc (node_at s h).hart.regs 0) ≡ true
    → s.views.changes < MAX_CHANGES → next_place s h + 1 ≤ MAX_ENTRIES → verdict s (event.Step h) ≡ Verdict.Moves outcome.Retired (stepped h i s)
step_verdict s h i l g d p n c m =
    let hart = (node_at s h).hart in
    let image = s.trace.image in
    let a = alone image hart g in
    let entry = next_entry image hart in
    let plan : plan_of s (event.Step h) ≡ Changes (act.Retire entry i deed.Private) = step_alone s.views.config.model image (node_at s h) (next_place s h) i a.running (no_stop image hart i a.fetched d p n) d p in
    let good : is_good s (event.Step h) ≡ true = and_from _ _ (lt-ltb h (length s.views.nodes) l) refl in
    let on : (after_instr hart entry (Some i)).status ≡ Running = ap (λ (o : Option Instr). (after_instr hart entry o).status) (sym d) ∙ running_is (after hart entry).status (after-running image hart g) in
    ap (λ (b : Bool). cond b (verdict_by s h (plan_of s (event.Step h))) Verdict.IsBad) good
    ∙ (ap (verdict_by s h) plan
    ∙ (ap (λ (b : Bool). cond b Verdict.IsLimited (Verdict.Moves (outcome_by (after_instr hart entry (Some i)).status) (stepped h i s))) (not_limited s.views.changes (next_place s h) c m)
    ∙ ap (λ (x : Status). Verdict.Moves (outcome_by x) (stepped h i s)) on))

-- ---- many steps

row_head : (b : Bool) (entry : Retired) (rest : List Retired) (n : ℕ) → length (cond b (entry ∷ rest) []) ≡ suc n → (b ≡ true) × (length rest ≡ n)
row_head true entry rest n e = (refl, omega arith)
row_head false entry rest n e = absurd cc

-- a hart's list becomes one longer at most
place_grows : {X : Type 0} (l : List (List X)) (h : ℕ) (x : X) → length (slice_index_or (slice_set l h (slice_index_or l h [] ++ x ∷ [])) h []) ≤ length (slice_index_or l h []) + 1
place_grows [] h x = omega arith
place_grows (xs ∷ l) zero x = rw (length-append xs (x ∷ [])) (omega arith)
place_grows (xs ∷ l) (suc h) x = place_grows l h x

-- the hart has gone on to here, with these entries
abbrev moved : ℕ → List Retired → Hart → State → State
moved h row hart s = with_trace (with_entries h row s.trace) (with_node h (record (node_at s h) { hart = hart }) s)

abbrev first : ℕ → State → State
first h s = moved h (next_entry s.trace.image (node_at s h).hart ∷ []) (after (node_at s h).hart (next_entry s.trace.image (node_at s h).hart)) s

stepped_is : (s : State) (h : ℕ) (i : Instr) → decoded (word_at s.trace.image (node_at s h).hart.pc) ≡ Some i → can_go_alone s.trace.image (node_at s h).hart ≡ true → stepped h i s ≡ counted (first h s)
stepped_is s h i d g =
    let hart = (node_at s h).hart in
    let entry = next_entry s.trace.image hart in
    let is : after_instr hart entry (Some i) ≡ after hart entry = ap (after_instr hart entry) (sym d) in
    let on : (after hart entry).status ≡ Running = running_is (after hart entry).status (after-running s.trace.image hart g) in
    ap (λ (x : Hart). counted (with_trace (with_halt h x.status (with_entry h entry s.trace)) (with_node h (record (node_at s h) { hart = x }) s))) is
    ∙ ap (λ (x : Status). counted (with_trace (with_halt h x (with_entry h entry s.trace)) (with_node h (record (node_at s h) { hart = after hart entry }) s))) on

-- going on twice is going on once
moved_twice : (s : State) (h : ℕ) (entry : Retired) (row : List Retired) (one two : Hart) → h < length s.views.nodes → moved h row two (counted (moved h (entry ∷ []) one s)) ≡ with_changes (s.views.changes + 1) (moved h (entry ∷ row) two s)
moved_twice s h entry row one two l =
    ap (λ (n : Node). nodes (slice_set (slice_set s.views.nodes h (record (node_at s h) { hart = one })) h (record n { hart = two }))) (node_same h (record (node_at s h) { hart = one }) s l)
    ∙ ap nodes (set-set s.views.nodes h (record (node_at s h) { hart = one }) (record (node_at s h) { hart = two }))
  where
    nodes : List Node → State
    nodes ns = record { views = record s.views { nodes = ns; changes = s.views.changes + 1 }; trace = with_entries h (entry ∷ row) s.trace }

went_alone_more : (s : State) (h n : ℕ) → h < length s.views.nodes → can_go_alone s.trace.image (node_at s h).hart ≡ true → went_alone h n (counted (first h s)) ≡ with_changes (s.views.changes + 1) (went_alone h (suc n) s)
went_alone_more s h n l g =
    let image = s.trace.image in
    let hart = (node_at s h).hart in
    let entry = next_entry image hart in
    let next = after hart entry in
    let row = private_row image next n in
    let at : (node_at (counted (first h s)) h).hart ≡ next = ap (λ (x : Node). x.hart) (node_same h (record (node_at s h) { hart = next }) s l) in
    ap (λ (x : Hart). moved h (private_row image x n) (reached x (private_row image x n)) (counted (first h s))) at
    ∙ (moved_twice s h entry row next (reached next row) l
    ∙ ap (λ (b : Bool). with_changes (s.views.changes + 1) (moved h (cond b (entry ∷ row) []) (reached hart (cond b (entry ∷ row) [])) s)) (sym g))

pub record Went (h n : ℕ) (s : State) : Type 0 where
  pub last : State
  pub steps : StepsRetire h n s last
  pub is : last ≡ with_changes (s.views.changes + n) (went_alone h n s)

stays_put : (s : State) (h : ℕ) → s ≡ with_changes (s.views.changes + 0) (went_alone h 0 s)
stays_put s h =
    ap (λ (n : ℕ). with_changes n s) (omega arith)
    ∙ ap (λ (ns : List Node). record { views = record s.views { nodes = ns; changes = s.views.changes + 0 }; trace = s.trace }) (sym (set-get_or s.views.nodes h (no_node s)))

went : (n : ℕ) (s : State) (h : ℕ) → h < length s.views.nodes → length (private_row s.trace.image (node_at s h).hart n) ≡ n → s.views.changes + n ≤ MAX_CHANGES → next_place s h + n ≤ MAX_ENTRIES → Went h n s
went zero s h l e c p = record { last = s; steps = refl; is = stays_put s h }
went (suc n) s h l e c p =
    let image = s.trace.image in
    let hart = (node_at s h).hart in
    let entry = next_entry image hart in
    let head = row_head (can_go_alone image hart) entry (private_row image (after hart entry) n) n e in
    let a = alone image hart head.0 in
    let f = found hart (decoded (word_at image hart.pc)) a.done in
    let next = stepped h f.0 s in
    let is = stepped_is s h f.0 f.1 head.0 in
    let at : (node_at next h).hart ≡ after hart entry = ap (λ (x : State). (node_at x h).hart) is ∙ ap (λ (x : Node). x.hart) (node_same h (record (node_at s h) { hart = after hart entry }) s l) in
    let images : next.trace.image ≡ image = ap (λ (x : State). x.trace.image) is in
    let places : next_place next h ≤ next_place s h + 1 = subst (λ (x : State). next_place x h ≤ next_place s h + 1) (sym is) (place_grows s.trace.entries h entry) in
    let counts : next.views.changes ≡ s.views.changes + 1 = refl in
    let room : length next.views.nodes ≡ length s.views.nodes = ap (λ (x : State). length x.views.nodes) is ∙ length-set s.views.nodes h _ in
    let rest = went n next h (rw room l) (ap (λ (i : Initial). length (private_row i (node_at next h).hart n)) images ∙ (ap (λ (x : Hart). length (private_row image x n)) at ∙ head.1)) (omega arith) (omega arith) in
    record {
      last = rest.last;
      steps = (next, step_verdict s h f.0 l head.0 f.1 f.2 f.3 (omega arith) (omega arith), rest.steps);
      is = rest.is ∙ (ap (λ (x : State). with_changes (next.views.changes + n) (went_alone h n x)) is ∙ (ap (with_changes (next.views.changes + n)) (went_alone_more s h n l head.0) ∙ ap (λ (m : ℕ). with_changes m (went_alone h (suc n) s)) (omega arith)));
    }

-- ---- the law

-- what a Local event that retires needed
pub record Retires (s : State) (h count : ℕ) (o : Outcome) (new : State) : Type 0 where
  pub there : h < length s.views.nodes
  pub few : count ≤ MAX_ROW
  pub whole : length (private_row s.trace.image (node_at s h).hart count) ≡ count
  pub place : next_place s h + count ≤ MAX_ENTRIES
  pub retires : o ≡ outcome.Retired
  pub new_is : new ≡ counted (went_alone h count s)

local_moves : (s : State) (h count : ℕ) (o : Outcome) (new : State) → verdict s (event.Local h count) ≡ Verdict.Moves o new → Retires s h count o new
local_moves s h count o new v = go m.act m.move m.outcome_is m.new_is
  where
    m : HasMoved s (event.Local h count) o new
    m = has_moved s (event.Local h count) o new v

    go : (a : Act) → IsMove s (event.Local h count) a → outcome_of_act s h a ≡ o → new ≡ after_act s (event.Local h count) a → Retires s h count o new
    go (act.Local n) k is e =
        let same : n ≡ count = cc k.rests.0 in
        record {
          there = k.in_h;
          few = leb-true count MAX_ROW (and_parts (nat_le 1 count) (nat_le count MAX_ROW) k.named).1;
          whole = subst (λ m. length (private_row s.trace.image (node_at s h).hart m) ≡ m) same k.rests.2;
          place = subst (λ m. next_place s h + m ≤ MAX_ENTRIES) same (unlimited s h (act.Local n) k.free).few_entries;
          retires = sym is;
          new_is = e ∙ ap (λ m. counted (went_alone h m s)) same;
        }
    go (act.Miss line grow) k is e = absurd k.rests.1
    go (act.Deliver _) k is e = absurd (cc k.rests.1)
    go _ k is e = absurd (cc k.rests.0)

pub local_is_steps : LocalIsSteps
local_is_steps s h count o new v =
    let r = local_moves s h count o new v in
    let few : 0 + count ≤ MAX_CHANGES = let x = r.few in omega arith in
    let w = went count (with_changes 0 s) h r.there r.whole few r.place in
    record {
      retires = r.retires;
      last = w.last;
      steps = w.steps;
      counts_once = r.new_is ∙ sym (ap (with_changes (s.views.changes + 1)) w.is);
    }

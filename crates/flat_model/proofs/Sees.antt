-- A change of a machine and the same change of a flat machine: what the one shows of the other's harts and lists is kept.
use Rattle.std.proofs.Common.{◌≡◌, ◌≢◌, ℕ, zero, suc, ◌+◌, ◌<◌, List, [], ◌∷◌, ◌++◌, Bool, true, false, Option, Some, None, refl, sym, ap, ◌∙◌, subst, ◌⊎◌, inl, inr, arith, length, slice_index_or}
use Rattle.std.specs.Prelude.{nat_eq}
use Rattle.std.proofs.lemmas.Bool.Decides.{eqb_tells}
use Rattle.std.proofs.lemmas.List.{get_or-set_other, get_or-set_same, length-set}
use Rattle.flat_model.specs.Changing as flat
use Rattle.flat_model.specs.Changing.{accessed, accessed_from, reservation_after}
use Rattle.flat_model.specs.Flat as of_flat
use Rattle.flat_model.specs.Flat.{Flat, FlatNode}
use Rattle.flat_model.specs.Shown.{IsShownBy, without_log}
use Rattle.hart.specs.declared.retired.Retired.{Retired}
use Rattle.hart.specs.declared.state.Hart.{Hart}
use Rattle.hart.specs.declared.status.Status.{Status}
use Rattle.hart.specs.declared.status.Status.TheVariants.{Running, Stopped, Exited}
use Rattle.hart.specs.Run.{after_instr}
use Rattle.machine_model.specs.Changing.{does, drained, performs, performs_own, next_place, put_behind, retired, stopped, with_buffer, with_halt, with_reservation, writes_word}
use Rattle.machine_model.specs.Views.{Node, State, node_at, with_node, with_trace}
use Rattle.machine_model.specs.Words.{bytes_of_word}
use Rattle.machine_types.specs.declared.config.Config.{Config}
use Rattle.machine_model.specs.declared.act.Deed.{Deed}
use Rattle.machine_model.specs.declared.act.Deed.TheVariants as deed
use Rattle.machine_model.proofs.Nodes.{node_other, node_same}
use Rattle.machine_types.specs.declared.model.MemoryModel.{MemoryModel}
use Rattle.rv32_decode.specs.declared.instruction.Instr.{Instr}
use Rattle.store_buffer.specs.ByteMask.{marks_of_access}
use Rattle.store_buffer.specs.Entry.{entry_of}
use Rattle.store_buffer.specs.Groups.{Groups, after_seal, after_take, oldest}
use Rattle.machine_model.specs.History.{History, entries_of, with_entry, with_performed, with_status}

-- all that is shown but memory
pub record Sees (s : State) (f : Flat) : Type 0 where
  pub config : f.config ≡ s.views.config
  pub count : length f.nodes ≡ length s.views.nodes
  pub nodes : (h : ℕ) → h < length s.views.nodes → IsShownBy (node_at s h) (of_flat.node_at f h)
  pub trace : f.trace ≡ without_log s.trace

-- ---- nodes

pub shown_as : (a b : Node) (c d : FlatNode) → b ≡ a → d ≡ c → IsShownBy a c → IsShownBy b d
shown_as a b c d e g i = rw (e, g) i

-- what stands in a list is found with any default
pub at_any : {A : Type 0} → (xs : List A) (k : ℕ) (d e : A) → k < length xs → slice_index_or xs k d ≡ slice_index_or xs k e
at_any [] k d e l = absurd (omega (arith, l))
at_any (x ∷ xs) zero d e l = refl
at_any (x ∷ xs) (suc k) d e l = at_any xs k d e (omega (arith, l))

flat_same : (h : ℕ) (n : FlatNode) (f : Flat) → h < length f.nodes → of_flat.node_at (of_flat.with_node h n f) h ≡ n
flat_same h n f l = get_or-set_same f.nodes h n _ l

flat_other : (h k : ℕ) (n : FlatNode) (f : Flat) → k ≢ h → of_flat.node_at (of_flat.with_node h n f) k ≡ of_flat.node_at f k
flat_other h k n f d = get_or-set_other f.nodes h k n _ d

-- a hart's node becomes another on both sides
pub sees_node : (h : ℕ) (n : Node) (m : FlatNode) (s : State) (f : Flat) → h < length s.views.nodes → IsShownBy n m → Sees s f → Sees (with_node h n s) (of_flat.with_node h m f)
sees_node h n m s f l i v = record {
  config = v.config;
  count = length-set f.nodes h m ∙ (v.count ∙ sym (length-set s.views.nodes h n));
  nodes = λ k b. at k b (eqb_tells k h);
  trace = v.trace;
}
  where
    inside : h < length f.nodes
    inside = let c = v.count in omega (arith, l, c)

    at : (k : ℕ) → k < length (with_node h n s).views.nodes → ((nat_eq k h ≡ true) × (k ≡ h)) ⊎ ((nat_eq k h ≡ false) × (k ≢ h)) → IsShownBy (node_at (with_node h n s) k) (of_flat.node_at (of_flat.with_node h m f) k)
    at k b (inl q) = shown_as n (node_at (with_node h n s) k) m (of_flat.node_at (of_flat.with_node h m f) k) (ap (node_at (with_node h n s)) q.1 ∙ node_same h n s l) (ap (of_flat.node_at (of_flat.with_node h m f)) q.1 ∙ flat_same h m f inside) i
    at k b (inr q) = shown_as (node_at s k) _ (of_flat.node_at f k) _ (node_other h k n s q.1) (flat_other h k m f q.1) (v.nodes k (subst (λ c. k < c) (length-set s.views.nodes h n) b))

-- of the machine alone
pub sees_hidden : (h : ℕ) (n : Node) (s : State) (f : Flat) → h < length s.views.nodes → IsShownBy n (of_flat.node_at f h) → Sees s f → Sees (with_node h n s) f
sees_hidden h n s f l i v = record {
  config = v.config;
  count = v.count ∙ sym (length-set s.views.nodes h n);
  nodes = λ k b. at k b (eqb_tells k h);
  trace = v.trace;
}
  where
    at : (k : ℕ) → k < length (with_node h n s).views.nodes → ((nat_eq k h ≡ true) × (k ≡ h)) ⊎ ((nat_eq k h ≡ false) × (k ≢ h)) → IsShownBy (node_at (with_node h n s) k) (of_flat.node_at f k)
    at k b (inl q) = shown_as n (node_at (with_node h n s) k) (of_flat.node_at f h) (of_flat.node_at f k) (ap (node_at (with_node h n s)) q.1 ∙ node_same h n s l) (ap (of_flat.node_at f) q.1) i
    at k b (inr q) = shown_as (node_at s k) _ (of_flat.node_at f k) _ (node_other h k n s q.1) refl (v.nodes k (subst (λ c. k < c) (length-set s.views.nodes h n) b))

-- another trace on both sides
pub sees_trace : (t u : History) (s : State) (f : Flat) → u ≡ without_log t → Sees s f → Sees (with_trace t s) (of_flat.with_trace u f)
sees_trace t u s f e v = record {
  config = v.config;
  count = v.count;
  nodes = λ k b. shown_as (node_at s k) _ (of_flat.node_at f k) _ (at_any s.views.nodes k _ _ b) (at_any f.nodes k _ _ (let c = v.count in omega (arith, b, c))) (v.nodes k b);
  trace = e;
}

pub sees_memory : (memory : List ℕ) (s : State) (f : Flat) → Sees s f → Sees s (record f { memory = memory })
sees_memory memory s f v = record { config = v.config; count = v.count; nodes = v.nodes; trace = v.trace }

-- ---- accesses

abbrev left_by : Config → (h address k : ℕ) → FlatNode → FlatNode
left_by c h a k n = record n { reserved = reservation_after c h a k n.reserved }

from_at : (c : Config) (h a j : ℕ) (ns : List FlatNode) (k : ℕ) (d e : FlatNode) → k < length ns → slice_index_or (accessed_from c h a j ns) k d ≡ left_by c h a (j + k) (slice_index_or ns k e)
from_at c h a j [] k d e l = absurd (omega (arith, l))
from_at c h a j (n ∷ ns) zero d e l = ap (λ i. left_by c h a i n) (omega arith)
from_at c h a j (n ∷ ns) (suc k) d e l = from_at c h a (j + 1) ns k d e (omega (arith, l)) ∙ ap (λ i. left_by c h a i (slice_index_or ns k e)) (omega arith)

from_count : (c : Config) (h a j : ℕ) (ns : List FlatNode) → length (accessed_from c h a j ns) ≡ length ns
from_count c h a j [] = refl
from_count c h a j (n ∷ ns) = ap suc (from_count c h a (j + 1) ns)

-- each reservation of the machine outlasts an access of this address by the hart h
abbrev pub Outlast : State → Config → (h address : ℕ) → Type 0
Outlast s c h a = (k word : ℕ) → k < length s.views.nodes → (node_at s k).reserved ≡ Some word → reservation_after c h a k (Some word) ≡ Some word

-- an access anywhere, or none
abbrev pub Outlasts : State → Config → ℕ → Option ℕ → Type 0
Outlasts s c h None = Unit {0}
Outlasts s c h (Some a) = Outlast s c h a

pub sees_accessed : (h : ℕ) (o : Option ℕ) (s : State) (f : Flat) → Outlasts s f.config h o → Sees s f → Sees s (accessed h o f)
sees_accessed h None s f w v = v
sees_accessed h (Some a) s f w v = record {
  config = v.config;
  count = from_count f.config h a 0 f.nodes ∙ v.count;
  nodes = λ k b. shown_as (node_at s k) (node_at s k) (left_by f.config h a k (of_flat.node_at f k)) (of_flat.node_at (accessed h (Some a) f) k) refl (at k b) (left k b (v.nodes k b));
  trace = v.trace;
}
  where
    at : (k : ℕ) → k < length s.views.nodes → of_flat.node_at (accessed h (Some a) f) k ≡ left_by f.config h a k (of_flat.node_at f k)
    at k b = from_at f.config h a 0 f.nodes k _ _ (let c = v.count in omega (arith, b, c)) ∙ ap (λ i. left_by f.config h a i (of_flat.node_at f k)) (omega arith)

    left : (k : ℕ) → k < length s.views.nodes → IsShownBy (node_at s k) (of_flat.node_at f k) → IsShownBy (node_at s k) (left_by f.config h a k (of_flat.node_at f k))
    left k b i = record { hart = i.hart; output = i.output; buffer = i.buffer; reserved = λ word e. ap (reservation_after f.config h a k) (i.reserved word e) ∙ w k word b e }

pub accessed_count : (h : ℕ) (o : Option ℕ) (f : Flat) → length (accessed h o f).nodes ≡ length f.nodes
accessed_count h None f = refl
accessed_count h (Some a) f = from_count f.config h a 0 f.nodes

-- ---- performed operations

pub sees_performs : (h : ℕ) (places : List ℕ) (s : State) (f : Flat) → Sees s f → Sees (performs h places s) (flat.performs h places f)
sees_performs h [] s f v = v
sees_performs h (place ∷ places) s f v =
    sees_performs h places _ _ (sees_trace (with_performed (record { hart = h; place = place }) s.trace) (with_performed (record { hart = h; place = place }) f.trace) s f (ap (with_performed (record { hart = h; place = place })) v.trace) v)

pub same_place : (h : ℕ) (s : State) (f : Flat) → Sees s f → flat.next_place f h ≡ next_place s h
same_place h s f v = ap (λ (t : History). length (entries_of t h)) v.trace

sees_own : (h : ℕ) (s : State) (f : Flat) → Sees s f → Sees (performs_own h s) (flat.performs_own h f)
sees_own h s f v = subst (λ p. Sees (performs_own h s) (flat.performs h (p ∷ []) f)) (sym (same_place h s f v)) (sees_performs h (next_place s h ∷ []) s f v)

-- ---- deeds

sees_buffer : (h : ℕ) (b c : Groups) (s : State) (f : Flat) → h < length s.views.nodes → c ≡ b → Sees s f → Sees (with_buffer h b s) (flat.with_buffer h c f)
sees_buffer h b c s f l e v = let i = v.nodes h l in sees_node h (record (node_at s h) { buffer = b }) (record (of_flat.node_at f h) { buffer = c }) s f l (record { hart = i.hart; output = i.output; buffer = e; reserved = i.reserved }) v

sees_reservation : (h : ℕ) (o : Option ℕ) (s : State) (f : Flat) → h < length s.views.nodes → Sees s f → Sees (with_reservation h o s) (flat.with_reservation h o f)
sees_reservation h o s f l v = let i = v.nodes h l in sees_node h (record (node_at s h) { reserved = o }) (record (of_flat.node_at f h) { reserved = o }) s f l (record { hart = i.hart; output = i.output; buffer = i.buffer; reserved = λ w e. e }) v

sees_write : (h word : ℕ) (marks : List Bool) (bytes : List ℕ) (s : State) (f : Flat) → h < length s.views.nodes → Sees s f → Sees (writes_word h word marks bytes s) (flat.writes_word word marks bytes f)
sees_write h word marks bytes s f l v = let i = v.nodes h l in sees_memory _ (writes_word h word marks bytes s) f (sees_hidden h _ s f l (record { hart = i.hart; output = i.output; buffer = i.buffer; reserved = i.reserved }) v)

wrote_count : (h word : ℕ) (marks : List Bool) (bytes : List ℕ) (s : State) → h < length s.views.nodes → h < length (writes_word h word marks bytes s).views.nodes
wrote_count h word marks bytes s l = subst (λ c. h < c) (sym (length-set s.views.nodes h _)) l

pub sees_does : (model : MemoryModel) (h : ℕ) (d : Deed) (s : State) (f : Flat) → h < length s.views.nodes → Sees s f → Sees (does model h d s) (flat.does model h d f)
sees_does model h deed.Private s f l v = v
sees_does model h (deed.Output number) s f l v = let i = v.nodes h l in sees_node h _ _ s f l (record { hart = i.hart; output = ap (λ o. o ++ number ∷ []) i.output; buffer = i.buffer; reserved = i.reserved }) v
sees_does model h deed.Load s f l v = sees_own h s f v
sees_does model h (deed.Store store) s f l v = sees_buffer h _ _ s f l (ap (put_behind model store) (v.nodes h l).buffer) v
sees_does model h deed.Seal s f l v = sees_buffer h _ _ s f l (ap after_seal (v.nodes h l).buffer) v
sees_does model h (deed.Lr word) s f l v = sees_reservation h (Some word) (performs_own h s) (flat.performs_own h f) l (sees_own h s f v)
sees_does model h deed.Fail s f l v = sees_reservation h None s f l v
sees_does model h (deed.Sc word value) s f l v =
    sees_reservation h None _ _ (wrote_count h word (marks_of_access 0 4) (bytes_of_word value) (performs_own h s) l) (sees_write h word (marks_of_access 0 4) (bytes_of_word value) (performs_own h s) (flat.performs_own h f) l (sees_own h s f v))
sees_does model h (deed.Amo word value) s f l v = sees_write h word (marks_of_access 0 4) (bytes_of_word value) (performs_own h s) (flat.performs_own h f) l (sees_own h s f v)

-- ---- retiring, stopping, draining

quiet_halt : (h : ℕ) (status : Status) (t : History) → with_halt h status (without_log t) ≡ without_log (with_halt h status t)
quiet_halt h Running t = refl
quiet_halt h (Stopped code) t = refl
quiet_halt h (Exited code) t = refl

pub sees_retired : (h : ℕ) (entry : Retired) (i : Instr) (s : State) (f : Flat) → h < length s.views.nodes → Sees s f → Sees (retired h entry i s) (flat.retired h entry i f)
sees_retired h entry i s f l v =
    let x = v.nodes h l in
    let to : Hart = after_instr (node_at s h).hart entry (Some i) in
    let from : Hart = after_instr (of_flat.node_at f h).hart entry (Some i) in
    let same : from ≡ to = ap (λ (k : Hart). after_instr k entry (Some i)) x.hart in
    sees_trace _ _ _ _ (ap (λ (k : Hart). with_halt h k.status (with_entry h entry f.trace)) same ∙ (ap (λ t. with_halt h to.status (with_entry h entry t)) v.trace ∙ quiet_halt h to.status (with_entry h entry s.trace)))
    (sees_node h (record (node_at s h) { hart = to }) (record (of_flat.node_at f h) { hart = from }) s f l (record { hart = same; output = x.output; buffer = x.buffer; reserved = x.reserved }) v)

pub sees_stopped : (h code : ℕ) (s : State) (f : Flat) → h < length s.views.nodes → Sees s f → Sees (stopped h code s) (flat.stopped h code f)
sees_stopped h code s f l v =
    let x = v.nodes h l in
    sees_trace _ _ _ _ (ap (with_status h (Stopped code)) v.trace)
    (sees_node h (record (node_at s h) { hart = record (node_at s h).hart { status = Stopped code } }) (record (of_flat.node_at f h) { hart = record (of_flat.node_at f h).hart { status = Stopped code } }) s f l (record { hart = ap (λ (k : Hart). record k { status = Stopped code }) x.hart; output = x.output; buffer = x.buffer; reserved = x.reserved }) v)

performs_views : (h : ℕ) (places : List ℕ) (s : State) → (performs h places s).views ≡ s.views
performs_views h [] s = refl
performs_views h (place ∷ places) s = performs_views h places (with_trace (with_performed (record { hart = h; place = place }) s.trace) s)

pub sees_drained : (h word : ℕ) (s : State) (f : Flat) → h < length s.views.nodes → Sees s f → Sees (drained h word s) (flat.drained h word f)
sees_drained h word s f l v = subst (λ b. Sees (drained h word s) (flat.with_buffer h (after_take word b) (flat.writes_word word (entry_of word (oldest b)).mask (entry_of word (oldest b)).bytes (flat.performs h (entry_of word (oldest b)).ops f)))) (sym (v.nodes h l).buffer) by_entry
  where
    by_entry : Sees (drained h word s) (let e = entry_of word (oldest (node_at s h).buffer) in flat.with_buffer h (after_take word (node_at s h).buffer) (flat.writes_word word e.mask e.bytes (flat.performs h e.ops f)))
    by_entry =
        let e = entry_of word (oldest (node_at s h).buffer) in
        let did = performs h e.ops s in
        let on : h < length did.views.nodes = subst (λ c. h < c) (sym (ap (λ x. length x.nodes) (performs_views h e.ops s))) l in
        sees_buffer h _ _ _ _ (wrote_count h word e.mask e.bytes did on) refl (sees_write h word e.mask e.bytes did _ on (sees_performs h e.ops s f v))

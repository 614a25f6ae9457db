-- What a hart does alone keeps the manager's notes, and changes no permission but of a copy that it may write.
use Rattle.std.proofs.Common.{ℕ, Bool, true, false, List, [], ◌∷◌, ◌≡◌, Option, Some, None, refl, ap, ◌∙◌, sym, subst, slice_index_or}
use Rattle.std.specs.Prelude.{◌==◌}
use Rattle.std.proofs.lemmas.Bool.Decides.{eqb_tells}
use mathlib.Core.Logic.{◌⊎◌, inl, inr}
use Rattle.client_cache.proofs.AtLines.{put_own, put_other}
use Rattle.client_cache.specs.Cache.{Cache, copy_at, word_written, word_written_in}
use Rattle.client_cache.specs.Held.{bytes_in, perm_of}
use Rattle.client_cache.specs.Word.{with_word}
use Rattle.client_cache.specs.declared.held.Held.{Held}
use Rattle.client_cache.specs.declared.held.Held.TheVariants.{Trunk}
use Rattle.hart.specs.declared.state.Hart.{Hart}
use Rattle.machine_model.specs.Changing.{acted, does, performs, writes_word}
use Rattle.machine_model.specs.Deliveries.{is_trunk}
use Rattle.machine_model.specs.Views.{Node, State, Views, no_node, node_at, with_node, with_trace}
use Rattle.machine_model.specs.declared.act.Act.{Act}
use Rattle.machine_model.specs.declared.act.Act.TheVariants as act
use Rattle.machine_model.specs.declared.act.Deed.{Deed}
use Rattle.machine_model.specs.declared.act.Deed.TheVariants as deed
use Rattle.machine_model.proofs.Nodes.{same-set, related-set}
use Rattle.machine_model.proofs.log.Acts.{IsAlone}
use Rattle.machine_types.specs.declared.model.MemoryModel.{MemoryModel}
use Rattle.store_buffer.specs.Entry.{entry_of}
use Rattle.store_buffer.specs.Groups.{oldest}
use Rattle.tl_types.specs.Line.{line_of}
use Rattle.trace_recorder.specs.History.{History, with_performed}
use Rattle.machine_model.proofs.Parts.{KeptByDeeds, does_by, drained_by}

-- ---- notes

performs_views : (h : ℕ) (places : List ℕ) (s : State) → (performs h places s).views ≡ s.views
performs_views h [] s = refl
performs_views h (place ∷ places) s = performs_views h places (with_trace (with_performed (record { hart = h; place = place }) s.trace) s)

does_notes : (model : MemoryModel) (h : ℕ) (d : Deed) (s : State) → (does model h d s).views.notes ≡ s.views.notes
does_notes model h deed.Private s = refl
does_notes model h (deed.Output number) s = refl
does_notes model h deed.Load s = refl
does_notes model h (deed.Store store) s = refl
does_notes model h deed.Seal s = refl
does_notes model h (deed.Lr word) s = refl
does_notes model h deed.Fail s = refl
does_notes model h (deed.Sc word value) s = refl
does_notes model h (deed.Amo word value) s = refl

pub alone_notes : (h : ℕ) (a : Act) (s : State) → IsAlone a → (acted h a s).views.notes ≡ s.views.notes
alone_notes h (act.Stop code) s is = refl
alone_notes h (act.Retire entry i d) s is = does_notes s.views.config.model h d s
alone_notes h (act.Drain word) s is = ap (λ (v : Views). v.notes) (performs_views h (entry_of word (oldest (node_at s h).buffer)).ops s)
alone_notes h (act.Local count) s is = refl
alone_notes h _ s is = absurd is

-- ---- permissions

-- each copy of the new node that can't be written has the permission that it had
abbrev Keeps : Node → Node → Type 0
Keeps x y = (l : ℕ) → is_trunk (perm_of (copy_at x.cache l)) ≡ false → perm_of (copy_at x.cache l) ≡ perm_of (copy_at y.cache l)

pub record KeepsPerms (s t : State) : Type 0 where
  pub same : (k : ℕ) (d : Node) (l : ℕ) → is_trunk (perm_of (copy_at (slice_index_or t.views.nodes k d).cache l)) ≡ false → perm_of (copy_at (slice_index_or t.views.nodes k d).cache l) ≡ perm_of (copy_at (slice_index_or s.views.nodes k d).cache l)

keeps_node : (h : ℕ) (n : Node) (s : State) → n.cache ≡ (node_at s h).cache → KeepsPerms s (with_node h n s)
keeps_node h n s e = record { same = λ k d l f. ap (λ (c : Cache). perm_of (copy_at c l)) (same-set (λ (x : Node). x.cache) s.views.nodes h k n d (no_node s) e) }

then : (a b c : State) → KeepsPerms a b → KeepsPerms b c → KeepsPerms a c
then a b c f g = record { same = λ k d l e. g.same k d l e ∙ f.same k d l (sym (ap is_trunk (g.same k d l e)) ∙ e) }

same_views : (s t : State) → t.views ≡ s.views → KeepsPerms s t
same_views s t e = record { same = λ k d l f. ap (λ (v : Views). perm_of (copy_at (slice_index_or v.nodes k d).cache l)) e }

written_keeps : (c : Cache) (line word : ℕ) (marks : List Bool) (bytes : List ℕ) (o : Option Held) (l : ℕ) → is_trunk (perm_of (copy_at (word_written_in c line word marks bytes o) l)) ≡ false → perm_of (copy_at (word_written_in c line word marks bytes o) l) ≡ perm_of (copy_at c l)
written_keeps c line word marks bytes None l f = refl
written_keeps c line word marks bytes (Some x) l f = go (eqb_tells l line)
  where
    held : Option Held
    held = Some (Trunk true (with_word (bytes_in x) word marks bytes))

    go : (((l == line) ≡ true) × (l ≡ line)) ⊎ (((l == line) ≡ false) × (l ≡ line → ⊥)) → perm_of (copy_at (word_written_in c line word marks bytes (Some x)) l) ≡ perm_of (copy_at c l)
    go (inl e) =
        let here : is_trunk (perm_of (copy_at (word_written_in c line word marks bytes (Some x)) line)) ≡ true = ap (λ o. is_trunk (perm_of o)) (put_own c.copies line held) in
        let off : is_trunk (perm_of (copy_at (word_written_in c line word marks bytes (Some x)) line)) ≡ false = subst (λ q. is_trunk (perm_of (copy_at (word_written_in c line word marks bytes (Some x)) q)) ≡ false) e.1 f in
        cc (here, off)
    go (inr e) = ap perm_of (put_other c.copies line held l e.1)

writes_keep : (h word : ℕ) (marks : List Bool) (bytes : List ℕ) (s : State) → KeepsPerms s (writes_word h word marks bytes s)
writes_keep h word marks bytes s =
    let n : Node = node_at s h in
    let line : ℕ = line_of n.cache.shape.size word in
    record { same = λ k d. related-set Keeps (λ x l f. refl) s.views.nodes h k (record n { cache = word_written n.cache line word marks bytes }) d (no_node s) (written_keeps n.cache line word marks bytes (copy_at n.cache line)) }

by_deeds : (s : State) → KeptByDeeds (KeepsPerms s)
by_deeds s = record {
  performs = λ h place t k. record { same = k.same };
  puts_out = λ h numbers t k. then s t _ k (keeps_node h _ t refl);
  buffers = λ h b t k. then s t _ k (keeps_node h _ t refl);
  reserves = λ h o t k. then s t _ k (keeps_node h _ t refl);
  writes = λ h word marks bytes t k. then s t _ k (writes_keep h word marks bytes t);
}

perms_not : (s : State) → KeepsPerms s s
perms_not s = same_views s s refl

hart_keeps : (h : ℕ) (hart : Hart) (t : History) (s : State) → KeepsPerms s (with_trace t (with_node h (record (node_at s h) { hart = hart }) s))
hart_keeps h hart t s =
    let moved : State = with_node h (record (node_at s h) { hart = hart }) s in
    then s moved (with_trace t moved) (keeps_node h (record (node_at s h) { hart = hart }) s refl) (same_views moved (with_trace t moved) refl)

pub alone_perms : (h : ℕ) (a : Act) (s : State) → IsAlone a → KeepsPerms s (acted h a s)
alone_perms h (act.Stop code) s is = hart_keeps h _ _ s
alone_perms h (act.Retire entry i d) s is =
    let did : State = does s.views.config.model h d s in
    then s did _ (does_by (KeepsPerms s) (by_deeds s) s.views.config.model h d s (perms_not s)) (hart_keeps h _ _ did)
alone_perms h (act.Drain word) s is = drained_by (KeepsPerms s) (by_deeds s) h word s (perms_not s)
alone_perms h (act.Local count) s is = hart_keeps h _ _ s
alone_perms h _ s is = absurd is

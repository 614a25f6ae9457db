-- Each act only adds to the trace, and leaves image and configuration.
use Rattle.std.proofs.Common.{◌≡◌, ◌+◌, ℕ, zero, suc, List, [], ◌∷◌, ◌++◌, refl, sym, ap, ◌∙◌, slice_index_or, slice_set}
use Rattle.std.proofs.lemmas.List.{append-nil, append_assoc}
use Rattle.hart.specs.declared.retired.Retired.{Retired}
use Rattle.hart.specs.Local.{private_row}
use Rattle.hart.specs.declared.status.Status.{Status}
use Rattle.hart.specs.declared.status.Status.TheVariants.{Running, Stopped, Exited}
use Rattle.machine_model.specs.declared.act.Act.{Act}
use Rattle.machine_model.specs.declared.act.Act.TheVariants as act
use Rattle.machine_types.specs.declared.event.Event.{Event}
use Rattle.machine_types.specs.declared.outcome.Outcome.{Outcome}
use Rattle.machine_model.specs.Changing.{acted, with_halt, with_entries, retired}
use Rattle.machine_model.specs.Deliveries.{taken}
use Rattle.machine_model.specs.Events.{Verdict, counted, verdict, happens, hart_of}
use Rattle.machine_model.specs.Laws.{Grows, KeepsImageAndConfig}
use Rattle.machine_model.specs.LawfulLog.{IsBeginningOf}
use Rattle.machine_model.specs.Views.{State, node_at, with_trace, sent}
use Rattle.rv32_decode.specs.declared.instruction.Instr.{Instr}
use Rattle.tl_types.specs.declared.message.Msg.{Msg}
use Rattle.trace_recorder.specs.History.{History, entries_of, with_entry}
use Rattle.machine_model.proofs.Events.{by_event, has_moved}
use Rattle.machine_model.proofs.Parts.{KeptByDeeds, KeptByMessages, delivered_by, does_by, drained_by, given_up_by, missed_by}

-- ---- beginnings

begins : {X : Type 0} (xs : List X) → IsBeginningOf xs xs
begins xs = ([], append-nil xs)

begins_then : {X : Type 0} (xs ys zs : List X) → IsBeginningOf xs ys → IsBeginningOf ys zs → IsBeginningOf xs zs
begins_then xs ys zs a b = (a.0 ++ b.0, sym (append_assoc xs a.0 b.0) ∙ ap (λ (l : List _). l ++ b.0) a.1 ∙ b.1)

begins_with : {X : Type 0} (xs more : List X) → IsBeginningOf xs (xs ++ more)
begins_with xs more = (more, refl)

-- one list of lists has grown at one place
grown_at : {X : Type 0} (l : List (List X)) (i j : ℕ) (more : List X) → IsBeginningOf (slice_index_or l j []) (slice_index_or (slice_set l i (slice_index_or l i [] ++ more)) j [])
grown_at [] i j more = begins _
grown_at (x ∷ l) zero zero more = begins_with x more
grown_at (x ∷ l) zero (suc j) more = begins _
grown_at (x ∷ l) (suc i) zero more = begins x
grown_at (x ∷ l) (suc i) (suc j) more = grown_at l i j more

-- ---- states

-- what an act, or a part of one, leaves
pub record Follows (old new : State) : Type 0 where
  pub grows : Grows old.trace new.trace
  pub stays : KeepsImageAndConfig old new
  pub changes : new.views.changes ≡ old.views.changes

grows_not : (t : History) → Grows t t
grows_not t = record { performed = begins t.performed; entries = λ h. begins (entries_of t h); log = begins t.log }

still : (s t : State) → t.trace ≡ s.trace → t.views.config ≡ s.views.config → t.views.changes ≡ s.views.changes → Follows s t
still s t e c n = record { grows = rw e (grows_not s.trace); stays = record { image = ap (λ (t : History). t.image) e; line = ap (λ (t : History). t.line) e; config = c }; changes = n }

grows_then : (a b c : History) → Grows a b → Grows b c → Grows a c
grows_then a b c f g = record {
  performed = begins_then _ _ _ f.performed g.performed;
  entries = λ h. begins_then _ _ _ (f.entries h) (g.entries h);
  log = begins_then _ _ _ f.log g.log;
}

stays_then : (a b c : State) → KeepsImageAndConfig a b → KeepsImageAndConfig b c → KeepsImageAndConfig a c
stays_then a b c f g = record { image = g.image ∙ f.image; line = g.line ∙ f.line; config = g.config ∙ f.config }

follows_then : (a b c : State) → Follows a b → Follows b c → Follows a c
follows_then a b c f g = record { grows = grows_then _ _ _ f.grows g.grows; stays = stays_then _ _ _ f.stays g.stays; changes = g.changes ∙ f.changes }

-- ---- messages

sent_follows : (h : ℕ) (m : Msg) (s : State) → Follows s (sent h m s)
sent_follows h m s = record { grows = record { performed = begins _; entries = λ k. begins _; log = begins_with s.trace.log _ }; stays = record { image = refl; line = refl; config = refl }; changes = refl }

taken_follows : (h : ℕ) (m : Msg) (s : State) → Follows s (taken h m s)
taken_follows h m s = record { grows = record { performed = begins _; entries = λ k. begins _; log = begins_with s.trace.log _ }; stays = record { image = refl; line = refl; config = refl }; changes = refl }

by_messages : (s : State) → KeptByMessages (Follows s)
by_messages s = record {
  sends = λ h m t k. follows_then s t _ k (sent_follows h m t);
  takes = λ h m t k. follows_then s t _ k (taken_follows h m t);
  caches = λ h n t e k. follows_then s t _ k (still t _ refl refl refl);
  stores = λ memory notes t k. follows_then s t _ k (still t _ refl refl refl);
}

by_deeds : (s : State) → KeptByDeeds (Follows s)
by_deeds s = record {
  performs = λ h place t k. follows_then s t _ k (record { grows = record { performed = begins_with t.trace.performed _; entries = λ j. begins _; log = begins _ }; stays = record { image = refl; line = refl; config = refl }; changes = refl });
  puts_out = λ h numbers t k. follows_then s t _ k (still t _ refl refl refl);
  buffers = λ h b t k. follows_then s t _ k (still t _ refl refl refl);
  reserves = λ h o t k. follows_then s t _ k (still t _ refl refl refl);
  writes = λ h word marks bytes t k. follows_then s t _ k (still t _ refl refl refl);
}

follows_not : (s : State) → Follows s s
follows_not s = still s s refl refl refl

-- a halt changes a status alone
halt_grows : (h : ℕ) (status : Status) (old t : History) → Grows old t → Grows old (with_halt h status t)
halt_grows h Running old t g = g
halt_grows h (Stopped code) old t g = record { performed = g.performed; entries = g.entries; log = g.log }
halt_grows h (Exited code) old t g = record { performed = g.performed; entries = g.entries; log = g.log }

image-with_halt : (h : ℕ) (status : Status) (t : History) → (with_halt h status t).image ≡ t.image
image-with_halt h Running t = refl
image-with_halt h (Stopped code) t = refl
image-with_halt h (Exited code) t = refl

line-with_halt : (h : ℕ) (status : Status) (t : History) → (with_halt h status t).line ≡ t.line
line-with_halt h Running t = refl
line-with_halt h (Stopped code) t = refl
line-with_halt h (Exited code) t = refl

entry_grows : (h : ℕ) (entry : Retired) (t : History) → Grows t (with_entry h entry t)
entry_grows h entry t = record { performed = begins _; entries = λ k. grown_at t.entries h k (entry ∷ []); log = begins _ }

retired_follows : (h : ℕ) (entry : Retired) (i : Instr) (s : State) → Follows s (retired h entry i s)
retired_follows h entry i s = record { grows = halt_grows h _ s.trace (with_entry h entry s.trace) (entry_grows h entry s.trace); stays = record { image = image-with_halt h _ _; line = line-with_halt h _ _; config = refl }; changes = refl }

entries_follow : (h : ℕ) (entries : List Retired) (s : State) → Follows s (with_trace (with_entries h entries s.trace) s)
entries_follow h [] s = still s s refl refl refl
entries_follow h (entry ∷ rest) s = follows_then s (with_trace (with_entry h entry s.trace) s) _ (record { grows = entry_grows h entry s.trace; stays = record { image = refl; line = refl; config = refl }; changes = refl }) (entries_follow h rest (with_trace (with_entry h entry s.trace) s))

-- ---- acts

pub acted_follows : (h : ℕ) (a : Act) (s : State) → Follows s (acted h a s)
acted_follows h (act.Stop code) s = record { grows = record { performed = begins _; entries = λ k. begins _; log = begins _ }; stays = record { image = refl; line = refl; config = refl }; changes = refl }
acted_follows h (act.Retire entry i d) s = follows_then _ _ _ (does_by (Follows s) (by_deeds s) s.views.config.model h d s (follows_not s)) (retired_follows h entry i _)
acted_follows h (act.Miss line grow) s = missed_by (Follows s) (by_messages s) h line grow s (follows_not s)
acted_follows h (act.Drain word) s = drained_by (Follows s) (by_deeds s) h word s (follows_not s)
acted_follows h (act.Evict line) s = given_up_by (Follows s) (by_messages s) h line s (follows_not s)
acted_follows h (act.Deliver m) s = delivered_by (Follows s) (by_messages s) h m s (follows_not s)
acted_follows h (act.Local count) s = follows_then s (with_trace (with_entries h row s.trace) s) _ (entries_follow h row s) (still _ _ refl refl refl)
  where
    row : List Retired
    row = private_row s.trace.image (node_at s h).hart count

-- ---- events

pub record Happens (old new : State) : Type 0 where
  pub grows : Grows old.trace new.trace
  pub stays : KeepsImageAndConfig old new

pub happens_not : (s : State) → Happens s s
happens_not s = record { grows = grows_not s.trace; stays = record { image = refl; line = refl; config = refl } }

pub happens_then : (a b c : State) → Happens a b → Happens b c → Happens a c
happens_then a b c f g = record { grows = grows_then _ _ _ f.grows g.grows; stays = stays_then _ _ _ f.stays g.stays }

happens_counted : (s t : State) → Follows s t → Happens s (counted t)
happens_counted s t f = record { grows = f.grows; stays = record { image = f.stays.image; line = f.stays.line; config = f.stays.config } }

pub happens_follows : (s : State) (e : Event) → Happens s (happens s e)
happens_follows s e = by_event (Happens s) s e (happens_not s) (λ a m. happens_counted s (acted (hart_of e) a s) (acted_follows (hart_of e) a s))

-- ---- the count of changes

pub is_counted : (s : State) (e : Event) (o : Outcome) (new : State) → verdict s e ≡ Verdict.Moves o new → new.views.changes ≡ s.views.changes + 1
is_counted s e o new moves =
    let m = has_moved s e o new moves in
    ap (λ (t : State). t.views.changes) m.new_is ∙ ap (λ (n : ℕ). n + 1) (acted_follows (hart_of e) m.act s).changes

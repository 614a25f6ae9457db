-- What each act leaves of the harts' reservations.
use Rattle.std.proofs.Common.{◌≡◌, ◌≢◌, ℕ, ◌<◌, List, [], ◌∷◌, Option, Some, None, refl, sym, ap, ◌∙◌, subst, length}
use Rattle.std.proofs.lemmas.List.{length-set}
use Rattle.machine_model.specs.declared.act.Deed.{Deed}
use Rattle.machine_model.specs.declared.act.Deed.TheVariants as deed
use Rattle.machine_model.specs.Changing.{acted, does, performs, performs_own, drained, writes_word, with_reservation}
use Rattle.machine_model.specs.Deliveries.{taken}
use Rattle.machine_model.specs.Views.{Node, State, no_node, node_at, with_node, with_trace, sent}
use Rattle.machine_model.specs.Words.{bytes_of_word}
use Rattle.machine_model.proofs.Nodes.{node_same, node_other, related-set}
use Rattle.machine_types.specs.declared.model.MemoryModel.{MemoryModel}
use Rattle.store_buffer.specs.ByteMask.{marks_of_access}
use Rattle.store_buffer.specs.Entry.{entry_of}
use Rattle.store_buffer.specs.Groups.{oldest}
use Rattle.tl_types.specs.declared.message.Msg.{Msg}
use Rattle.trace_recorder.specs.History.{with_performed}
use Rattle.machine_model.proofs.Parts.{IsLess, KeptByMessages, delivered_by, given_up_by, missed_by}
use Rattle.machine_model.specs.declared.act.Act.{Act}
use Rattle.machine_model.specs.declared.act.Act.TheVariants as act
use Rattle.machine_model.proofs.order.Buffers.{IsQuiet}

-- ---- no hart has a reservation that it hadn't

pub record LosesReservations (old new : State) : Type 0 where
  pub less : (h : ℕ) → IsLess (node_at new h).reserved (node_at old h).reserved

less_not : (s : State) → LosesReservations s s
less_not s = record { less = λ h w f. f }

pub less_then : (a b c : State) → LosesReservations a b → LosesReservations b c → LosesReservations a c
less_then a b c f g = record { less = λ h w e. f.less h w (g.less h w e) }

pub node_less : (h : ℕ) (n : Node) (s : State) → IsLess n.reserved (node_at s h).reserved → LosesReservations s (with_node h n s)
node_less h n s e = record { less = λ k. related-set (λ x y. IsLess x.reserved y.reserved) (λ x w f. f) s.views.nodes h k n (no_node s) (no_node s) e }

sent_less : (h : ℕ) (m : Msg) (s : State) → LosesReservations s (sent h m s)
sent_less h m s = let k = node_less h _ s (λ w f. f) in record { less = k.less }

taken_less : (h : ℕ) (m : Msg) (s : State) → LosesReservations s (taken h m s)
taken_less h m s = let k = node_less h _ s (λ w f. f) in record { less = k.less }

pub less_still : (s t : State) → t.trace ≡ s.trace → t.views.config ≡ s.views.config → t.views.nodes ≡ s.views.nodes → LosesReservations s t
less_still s t e c n = record { less = λ h w f. subst (λ o. o ≡ Some w) (rw (n, c, e) refl) f }

by_messages : (s : State) → KeptByMessages (LosesReservations s)
by_messages s = record {
  sends = λ h m t k. less_then s t _ k (sent_less h m t);
  takes = λ h m t k. less_then s t _ k (taken_less h m t);
  caches = λ h n t e k. less_then s t _ k (node_less h n t e.reserved);
  stores = λ memory notes t k. less_then s t _ k (less_still t _ refl refl refl);
}

pub quiet_less : (h : ℕ) (a : Act) (s : State) → IsQuiet a → LosesReservations s (acted h a s)
quiet_less h (act.Stop code) s is = let k = node_less h _ s (λ w f. f) in record { less = k.less }
quiet_less h (act.Miss line grow) s is = missed_by (LosesReservations s) (by_messages s) h line grow s (less_not s)
quiet_less h (act.Evict line) s is = given_up_by (LosesReservations s) (by_messages s) h line s (less_not s)
quiet_less h (act.Deliver m) s is = delivered_by (LosesReservations s) (by_messages s) h m s (less_not s)
quiet_less h _ s is = absurd is

performs_less : (h : ℕ) (places : List ℕ) (s : State) → LosesReservations s (performs h places s)
performs_less h [] s = less_not s
performs_less h (place ∷ places) s = let k = performs_less h places (with_trace (with_performed (record { hart = h; place = place }) s.trace) s) in record { less = k.less }

pub drained_less : (h word : ℕ) (s : State) → LosesReservations s (drained h word s)
drained_less h word s =
    let e = entry_of word (oldest (node_at s h).buffer) in
    let did = performs h e.ops s in
    let stored = writes_word h word e.mask e.bytes did in
    less_then s did _ (performs_less h e.ops s) (less_then did stored _ (node_less h _ did (λ w f. f)) (node_less h _ stored (λ w f. f)))

-- ---- deeds

abbrev pub reserved_by : Deed → Option ℕ → Option ℕ
reserved_by (deed.Lr word) o = Some word
reserved_by deed.Fail o = None
reserved_by (deed.Sc word value) o = None
reserved_by _ o = o

pub record Reserved (h : ℕ) (reserved : Option ℕ) (old new : State) : Type 0 where
  pub here : IsLess (node_at new h).reserved reserved
  pub there : (k : ℕ) → k ≢ h → IsLess (node_at new k).reserved (node_at old k).reserved

less_by : (h : ℕ) (s t : State) → LosesReservations s t → Reserved h (node_at s h).reserved s t
less_by h s t k = record { here = k.less h; there = λ j d. k.less j }

reserved_to : (h : ℕ) (o : Option ℕ) (s t : State) → length t.views.nodes ≡ length s.views.nodes → LosesReservations s t → h < length s.views.nodes → Reserved h o s (with_reservation h o t)
reserved_to h o s t count k l = record {
  here = λ w e. sym (ap (λ (n : Node). n.reserved) (node_same h _ t (subst (λ c. h < c) (sym count) l))) ∙ e;
  there = λ j d w e. k.less j w (sym (ap (λ (n : Node). n.reserved) (node_other h j _ t d)) ∙ e);
}

pub does_reserved : (model : MemoryModel) (h : ℕ) (d : Deed) (s : State) → h < length s.views.nodes → Reserved h (reserved_by d (node_at s h).reserved) s (does model h d s)
does_reserved model h deed.Private s l = less_by h s _ (less_not s)
does_reserved model h (deed.Output number) s l = less_by h s _ (node_less h _ s (λ w f. f))
does_reserved model h deed.Load s l = less_by h s _ (record { less = λ k w f. f })
does_reserved model h (deed.Store store) s l = less_by h s _ (node_less h _ s (λ w f. f))
does_reserved model h deed.Seal s l = less_by h s _ (node_less h _ s (λ w f. f))
does_reserved model h (deed.Lr word) s l = reserved_to h (Some word) s (performs_own h s) refl (record { less = λ k w f. f }) l
does_reserved model h deed.Fail s l = reserved_to h None s s refl (less_not s) l
does_reserved model h (deed.Sc word value) s l =
    let did = performs_own h s in
    let stored = writes_word h word (marks_of_access 0 4) (bytes_of_word value) did in
    reserved_to h None s stored (length-set did.views.nodes h _) (less_then s did stored (record { less = λ k w f. f }) (node_less h _ did (λ w f. f))) l
does_reserved model h (deed.Amo word value) s l =
    let did = performs_own h s in
    less_by h s _ (less_then s did _ (record { less = λ k w f. f }) (node_less h _ did (λ w f. f)))

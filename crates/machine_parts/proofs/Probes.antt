-- Room for the Probes that an Acquire has sent.
use Rattle.std.proofs.Common.{◌≡◌, ℕ, zero, suc, ◌+◌, ◌-◌, ◌<◌, ◌≤◌, Bool, true, false, cond, List, [], ◌∷◌, All, refl, sym, subst, length, slice_index_or, slice_set}
use Rattle.std.specs.List.{filter, range_with_len}
use Rattle.std.proofs.lemmas.List.{length-append}
use Rattle.std.proofs.lemmas.List.Elements.{All-head, All-tail}
use native.Mathlib.Omega.{arith}
use Rattle.directory.specs.Directory.{Notes, SendsToHarts, acquired, line_at}
use Rattle.directory.specs.Harts.{harts_below}
use Rattle.directory.specs.Lines.{Line, acquired_by, acquired_in, probed}
use Rattle.directory.specs.declared.answer.Acquired.{Acquired}
use Rattle.directory.specs.declared.answer.Acquired.TheVariants.{Handled, Busy}
use Rattle.directory.specs.declared.answer.Sent.{Sent}
use Rattle.directory.specs.declared.answer.Sent.TheVariants.{Probes, Granting}
use Rattle.directory.specs.declared.answer.Transaction.{Transaction}
use Rattle.directory.specs.declared.answer.Transaction.TheVariants.{Idle, Probing, Granted}
use Rattle.machine_model.specs.Deliveries.{on_acquire, sent_any, sent_if_handled, sent_probes, with_notes}
use Rattle.machine_model.specs.Laws.{QueuesFit}
use Rattle.machine_model.specs.Views.{Node, State, line_size, node_at, place_of, sent}
use Rattle.machine_parts.specs.Handled.{count_of}
use Rattle.machine_parts.proofs.Rooms.{had_room_in}
use Rattle.tilelink_channels.specs.Queues.{room_of}
use Rattle.tl_types.specs.declared.message.Body.TheVariants.{ProbeBlock}
use Rattle.tl_types.specs.declared.message.Channel.TheVariants.{B}
use Rattle.tl_types.specs.declared.message.Msg.{Msg}
use Rattle.tl_types.specs.declared.permission.Cap.{Cap}
use Rattle.tl_types.specs.declared.permission.Grow.{Grow}

-- ---- queues only grow while Probes are sent

grown_at : (nodes : List Node) (h k : ℕ) (n d : Node) → length (slice_index_or nodes h d).queues.b ≤ length n.queues.b → length (slice_index_or nodes k d).queues.b ≤ length (slice_index_or (slice_set nodes h n) k d).queues.b
grown_at [] h k n d le = omega arith
grown_at (x ∷ xs) zero zero n d le = le
grown_at (x ∷ xs) zero (suc k) n d le = omega arith
grown_at (x ∷ xs) (suc h) zero n d le = omega arith
grown_at (x ∷ xs) (suc h) (suc k) n d le = grown_at xs h k n d le

abbrev probe_of : ℕ → Cap → Msg
probe_of line cap = record { line = line; body = ProbeBlock cap }

probe_grows : (h k line : ℕ) (cap : Cap) (s : State) → length (node_at s k).queues.b ≤ length (node_at (sent h (probe_of line cap) s) k).queues.b
probe_grows h k line cap s = grown_at s.views.nodes h k _ _ (omega (arith, length-append (node_at s h).queues.b (probe_of line cap ∷ [])))

probes_grow : (harts : List ℕ) (k line : ℕ) (cap : Cap) (s : State) → length (node_at s k).queues.b ≤ length (node_at (sent_probes harts line cap s) k).queues.b
probes_grow [] k line cap s = omega arith
probes_grow (h ∷ harts) k line cap s = omega (arith, probe_grows h k line cap s, probes_grow harts k line cap (sent h (probe_of line cap) s))

-- the first Probe has room
pub had_room_for_probe : (h : ℕ) (harts : List ℕ) (line : ℕ) (cap : Cap) (s : State) → h < length s.views.nodes → QueuesFit (sent_probes (h ∷ harts) line cap s) → length (node_at s h).queues.b < room_of B
had_room_for_probe h harts line cap s in_h fit =
    let all : length (node_at (sent_probes harts line cap (sent h (probe_of line cap) s)) h).queues.b ≤ room_of B = fit h B in
    had_room_in h (probe_of line cap) s in_h (omega (arith, all, probes_grow harts h line cap (sent h (probe_of line cap) s)))

-- ---- there are no more Probes than harts

few_below : (p : ℕ → Bool) (a n k : ℕ) → All (λ (h : ℕ). h < k) (filter p (range_with_len a n)) → length (filter p (range_with_len a n)) ≤ k - a
few_below p a zero k all = omega arith
few_below p a (suc n) k all = go (p a) (few_below p (a + 1) n k) all
  where
    rest : List ℕ
    rest = filter p (range_with_len (a + 1) n)

    go : (b : Bool) → (All (λ (h : ℕ). h < k) rest → length rest ≤ k - (a + 1)) → All (λ (h : ℕ). h < k) (cond b (a ∷ rest) rest) → length (cond b (a ∷ rest) rest) ≤ k - a
    go true later all = let first : a < k = All-head (λ (h : ℕ). h < k) a rest all in omega (arith, first, later (All-tail (λ (h : ℕ). h < k) a rest all))
    go false later all = omega (arith, later all)

below_all : (n k : ℕ) → n ≤ k - 0 → n ≤ k
below_all n k le = omega (arith, le)

few_probed : (l : Line) (h : ℕ) (grow : Grow) (k : ℕ) → All (λ (j : ℕ). j < k) (probed l h grow) → length (probed l h grow) ≤ k
unfolding harts_below
few_probed l h grow k all = below_all _ k (few_below _ 0 (length l.known) k all)

abbrev harts_in : Acquired → List ℕ
harts_in (Handled (Probes cap harts)) = harts
harts_in (Handled (Granting grant)) = []
harts_in Busy = []

few_harts : (t : Transaction) (l : Line) (h : ℕ) (grow : Grow) (k : ℕ) → All (λ (j : ℕ). j < k) (harts_in (acquired_in t l h grow).0) → length (harts_in (acquired_in t l h grow).0) ≤ k
few_harts Idle l h grow k all = go (probed l h grow) refl all
  where
    go : (ps : List ℕ) → probed l h grow ≡ ps → All (λ (j : ℕ). j < k) (harts_in (acquired_by l h grow ps).0) → length (harts_in (acquired_by l h grow ps).0) ≤ k
    go [] e all = omega arith
    go (p ∷ ps) e all = subst (λ (xs : List ℕ). length xs ≤ k) e (few_probed l h grow k (subst (All (λ (j : ℕ). j < k)) (sym e) all))
few_harts (Probing other wanted) l h grow k all = omega arith
few_harts (Granted other) l h grow k all = omega arith

few_in : (answer : Acquired) (sends : Sent) (k : ℕ) → (All (λ (j : ℕ). j < k) (harts_in answer) → length (harts_in answer) ≤ k) → Handled sends ≡ answer → 0 < k → SendsToHarts k sends → count_of sends ≤ k
few_in answer (Probes cap harts) k few e some all = subst (λ (a : Acquired). All (λ (j : ℕ). j < k) (harts_in a) → length (harts_in a) ≤ k) (sym e) few all
few_in answer (Granting grant) k few e some all = omega (arith, some)

-- what an Acquire has the manager send to so many harts is no more messages
pub few_sent : (notes : Notes) (place h : ℕ) (grow : Grow) (sends : Sent) (k : ℕ) → Handled sends ≡ (acquired notes place h grow).0 → 0 < k → SendsToHarts k sends → count_of sends ≤ k
few_sent notes place h grow sends k e some all = few_in (acquired notes place h grow).0 sends k (few_harts (line_at notes place).transaction (line_at notes place) h grow k) e some all

-- ---- the queues have room for what an Acquire has sent

abbrev FitHandled : ℕ → Acquired × Notes → State → Type 0
FitHandled line answer s = QueuesFit (sent_if_handled line answer.0 (with_notes answer.1 s))

pub fit_handled : (h line : ℕ) (grow : Grow) (s : State) (sends : Sent) (notes : Notes)
    → (Handled sends, notes) ≡ acquired s.views.notes (place_of (line_size s) line) h grow
    → QueuesFit (on_acquire h line grow s)
    → QueuesFit (sent_any line sends (with_notes notes s))
fit_handled h line grow s sends notes e fit = subst (λ (a : Acquired × Notes). FitHandled line a s) (sym e) fit

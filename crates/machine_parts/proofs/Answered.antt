-- That what the manager sends by its notes is what the state that comes of it has.
use Rattle.std.proofs.Common.{◌≡◌, ℕ, ◌<◌, ◌∙◌, List, Option, Some, None, ap, refl, sym, subst, length}
use Rattle.std.proofs.lemmas.List.{length-set}
use Rattle.directory.specs.Directory.{Notes, probe_acked, released}
use Rattle.directory.specs.declared.answer.Grant.{Grant}
use Rattle.machine_model.specs.Deliveries.{on_probe_ack, on_release, sent_grant, sent_if_granted}
use Rattle.machine_model.specs.Laws.{QueuesFit}
use Rattle.machine_model.specs.Views.{State, line_size, node_at, place_of, sent}
use Rattle.machine_parts.specs.Handled.{written_back}
use Rattle.machine_parts.proofs.Rooms.{had_room}
use Rattle.tilelink_channels.specs.Queues.{queue_of, room_of}
use Rattle.tl_types.specs.declared.line.LineData.{LineData}
use Rattle.tl_types.specs.declared.message.Body.TheVariants.{ReleaseAck}
use Rattle.tl_types.specs.declared.message.Channel.TheVariants.{D}
use Rattle.tl_types.specs.declared.message.Msg.{Msg}
use Rattle.tl_types.specs.declared.permission.Change.{Change}

abbrev with_parts : Notes → List LineData → State → State
with_parts notes memory s = record s { views = record s.views { memory = memory; notes = notes } }

-- the ReleaseAck had room
pub had_room_released : (h line : ℕ) (bytes : Option LineData) (s : State) → h < length s.views.nodes → QueuesFit (on_release h line bytes s) → length (queue_of (node_at s h).queues D) < room_of D
had_room_released h line bytes s in_h fit = had_room h (record { line = line; body = ReleaseAck }) (with_parts (released s.views.notes place h) (written_back place bytes s.views.memory) s) in_h (go bytes fit)
  where
    place : ℕ
    place = place_of (line_size s) line

    go : (bytes : Option LineData) → QueuesFit (on_release h line bytes s) → QueuesFit (sent h (record { line = line; body = ReleaseAck }) (with_parts (released s.views.notes place h) (written_back place bytes s.views.memory) s))
    go None fit = fit
    go (Some bytes) fit = fit

abbrev FitGranted : ℕ → Option Grant × Notes → List LineData → State → Type 0
FitGranted line answer memory s = QueuesFit (sent_if_granted line answer.0 (with_parts answer.1 memory s))

fit_answered : (h line : ℕ) (change : Change) (bytes : Option LineData) (s : State) → QueuesFit (on_probe_ack h line change bytes s)
    → FitGranted line (probe_acked s.views.notes (place_of (line_size s) line) h change) (written_back (place_of (line_size s) line) bytes s.views.memory) s
fit_answered h line change None s fit = fit
fit_answered h line change (Some bytes) s fit = fit

-- the queues have room for the Grant that a ProbeAck has sent
pub fit_granted : (h line : ℕ) (change : Change) (bytes : Option LineData) (s : State) (grant : Grant) (notes : Notes) (memory : List LineData)
    → (Some grant, notes) ≡ probe_acked s.views.notes (place_of (line_size s) line) h change
    → memory ≡ written_back (place_of (line_size s) line) bytes s.views.memory
    → QueuesFit (on_probe_ack h line change bytes s)
    → QueuesFit (sent_grant line grant (with_parts notes memory s))
fit_granted h line change bytes s grant notes memory e m fit =
    let written = written_back (place_of (line_size s) line) bytes s.views.memory in
    let answered : FitGranted line (Some grant, notes) written s = subst (λ (a : Option Grant × Notes). FitGranted line a written s) (sym e) (fit_answered h line change bytes s fit) in
    subst (λ (ls : List LineData). FitGranted line (Some grant, notes) ls s) (sym m) answered

-- ---- what comes of it

pub count_back : (place : ℕ) (bytes : Option LineData) (memory : List LineData) → length (written_back place bytes memory) ≡ length memory
count_back place None memory = refl
count_back place (Some bytes) memory = length-set memory place bytes

pub released_is : (h line : ℕ) (bytes : Option LineData) (s : State) (notes : Notes) (memory : List LineData) → notes ≡ released s.views.notes (place_of (line_size s) line) h → memory ≡ written_back (place_of (line_size s) line) bytes s.views.memory
    → sent h (record { line = line; body = ReleaseAck }) (with_parts notes memory s) ≡ on_release h line bytes s
released_is h line bytes s notes memory n m =
    let place = place_of (line_size s) line in
    let message : Msg = record { line = line; body = ReleaseAck } in
    ap (λ (x : Notes). sent h message (with_parts x memory s)) n ∙ (ap (λ (ls : List LineData). sent h message (with_parts (released s.views.notes place h) ls s)) m ∙ go bytes)
  where
    go : (b : Option LineData) → sent h (record { line = line; body = ReleaseAck }) (with_parts (released s.views.notes (place_of (line_size s) line) h) (written_back (place_of (line_size s) line) b s.views.memory) s) ≡ on_release h line b s
    go None = refl
    go (Some b) = refl

pub probe_acked_is : (h line : ℕ) (change : Change) (bytes : Option LineData) (s : State) (answer : Option Grant) (notes : Notes) (memory : List LineData)
    → (answer, notes) ≡ probe_acked s.views.notes (place_of (line_size s) line) h change
    → memory ≡ written_back (place_of (line_size s) line) bytes s.views.memory
    → sent_if_granted line answer (with_parts notes memory s) ≡ on_probe_ack h line change bytes s
probe_acked_is h line change bytes s answer notes memory e m =
    let place = place_of (line_size s) line in
    let acked = probe_acked s.views.notes place h change in
    ap (λ (a : Option Grant × Notes). sent_if_granted line a.0 (with_parts a.1 memory s)) e ∙ (ap (λ (ls : List LineData). sent_if_granted line acked.0 (with_parts acked.1 ls s)) m ∙ go bytes)
  where
    go : (b : Option LineData) → sent_if_granted line (probe_acked s.views.notes (place_of (line_size s) line) h change).0 (with_parts (probe_acked s.views.notes (place_of (line_size s) line) h change).1 (written_back (place_of (line_size s) line) b s.views.memory) s) ≡ on_probe_ack h line change b s
    go None = refl
    go (Some b) = refl

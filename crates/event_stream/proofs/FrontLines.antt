-- The line of a message in front of a queue lies in memory, so the manager has notes of it.
use Rattle.std.proofs.Common.{◌≡◌, ℕ, ◌<◌, List, [], ◌∷◌, Some, None, refl, ap, ◌∙◌, length, ◌≤◌, arith, sym, subst}
use Rattle.std.specs.Prelude.{Contains, option_map}
use Rattle.std.proofs.lemmas.List.{get_or_past}
use Rattle.coherent_machine.specs.Machine.{IsReached}
use Rattle.coherent_machine.proofs.Reached.{law_of}
use Rattle.directory.specs.Directory.{Notes}
use Rattle.machine_model.specs.Ready.{IsSound, SoundAlways}
use Rattle.machine_model.specs.Views.{Node, State, line_size, no_node, node_at, place_of}
use Rattle.machine_model.proofs.coherence.LinePlaces.{piece, place_inside}
use Rattle.tilelink_channels.specs.Queues.{front_of, none_waiting, queue_of}
use Rattle.tl_types.specs.Line.{length_of}
use Rattle.tl_types.specs.declared.message.Channel.{Channel}
use Rattle.tl_types.specs.declared.message.Channel.TheVariants.{A, B, C, D, E}
use Rattle.tl_types.specs.declared.message.Msg.{Msg}
use Rattle.event_stream.specs.Stalls.{IsNoted, front_line}

front_waits : (ms : List Msg) (m : Msg) → front_of ms ≡ Some m → Contains ms m
front_waits [] m e = cc
front_waits (x ∷ ms) m e = (0, omega arith, cc)

pub is_noted : SoundAlways → (s : State) → IsReached s → (h : ℕ) (channel : Channel) (m : Msg) → front_of (queue_of (node_at s h).queues channel) ≡ Some m → IsNoted s m.line
is_noted law s r h channel m e =
    let z : IsSound s = law_of (λ image config t. IsSound t) law s r in
    let inside = z.queued h channel m (front_waits (queue_of (node_at s h).queues channel) m e) in
    record {
      from = (piece s.trace.image m.line (length_of (line_size s)) inside).low;
      place = subst (λ (n : ℕ). place_of (line_size s) m.line < n) (sym z.noted_lines) (place_inside s.trace.image (line_size s) m.line inside);
    }

none_waits : (channel : Channel) → front_of (queue_of none_waiting channel) ≡ None
none_waits A = refl
none_waits B = refl
none_waits C = refl
none_waits D = refl
none_waits E = refl

-- nor does any at a hart that isn't there
pub nothing_in_front : (s : State) (h : ℕ) (channel : Channel) → length s.views.nodes ≤ h → front_line s h channel ≡ None
nothing_in_front s h channel beyond =
    ap (λ (n : Node). option_map (λ (m : Msg). m.line) (front_of (queue_of n.queues channel))) (get_or_past s.views.nodes h (no_node s) beyond)
    ∙ ap (option_map (λ (m : Msg). m.line)) (none_waits channel)

-- the place of such a line is one of the notes' places
pub noted_place : (s : State) (line place : ℕ) (notes : Notes) → IsNoted s line → place ≡ place_of (line_size s) line → notes ≡ s.views.notes → place < length notes.lines
noted_place s line place notes is at same =
    subst (λ (n : ℕ). n < length notes.lines) (sym at) (subst (λ (d : Notes). place_of (line_size s) line < length d.lines) (sym same) is.place)

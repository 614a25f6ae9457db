-- The reports of a stream together are its trace.
use Rattle.std.proofs.Common.{◌≡◌, ℕ, zero, suc, ◌+◌, ◌==◌, List, [], ◌∷◌, ◌++◌, length, drop, replicate, slice_index_or, Bool, true, false, cond, refl, sym, ap, ◌∙◌, append_assoc}
use Rattle.std.proofs.lemmas.Bool.{eq-eqb, eqb-true}
use Rattle.std.proofs.lemmas.List.{append-nil}
use Rattle.std.proofs.lemmas.List.Concat.{flat_map-cons}
use Rattle.std.proofs.Math.Seq.{drop-append_seam}
use Rattle.std.specs.List.{flat_map, range_with_len}
use Rattle.coherent_machine.specs.Machine.{Replayed, replayed_from, unless_refused}
use Rattle.hart.specs.declared.retired.Retired.{Retired}
use Rattle.machine_types.specs.declared.event.Event.{Event}
use Rattle.machine_types.specs.declared.outcome.Outcome.{Outcome}
use Rattle.machine_model.specs.Events.{Verdict, happens, hart_of, verdict}
use Rattle.machine_model.specs.Events.Verdict.{IsBad, Keeps, IsLimited, Moves}
use Rattle.machine_model.specs.LawfulLog.{IsBeginningOf}
use Rattle.machine_model.specs.Laws.{NothingIsRewritten}
use Rattle.machine_model.specs.Views.{State, no_node, opening}
use Rattle.trace_text.specs.History.{entries_of}
use Rattle.event_stream.specs.declared.strictness.Strictness.{Strictness}
use Rattle.event_stream.specs.declared.strictness.Strictness.TheVariants.{Lenient, Strict}
use Rattle.event_stream.specs.Laws.{StreamIsTheTrace, entries_in, output_in}
use Rattle.event_stream.specs.Reports.{Report, StreamEnding, ending, ending_by, grown, outputs_of, report, reports, reports_by}
use Rattle.event_stream.proofs.OtherHarts.{others_stay}
use Rattle.event_stream.proofs.Outputs.{nothing_at, puts_out}

-- a list and what it has grown by
grows_to : {X : Type 0} (old new : List X) → IsBeginningOf old new → old ++ grown old new ≡ new
grows_to {X = X} old new (rest, whole) =
    ap (λ (l : List X). old ++ drop (length old) l) (sym whole) ∙ (ap (λ (l : List X). old ++ l) (drop-append_seam old rest) ∙ whole)

-- ---- any list that each event makes longer by what its report tells

-- the state that events end in
abbrev state_of : State → StreamEnding → State
state_of other (StreamEnding.Reached s) = s
state_of other (StreamEnding.Refused index error) = other
state_of other (StreamEnding.Idle index o) = other

one_more : {X : Type 0} (told : Report → List X) (here next last : List X) (r : Report) (rest : List Report) → here ++ told r ≡ next → next ++ flat_map told rest ≡ last → here ++ flat_map told (r ∷ rest) ≡ last
one_more {X = X} told here next last r rest one more =
    ap (λ (l : List X). here ++ l) (flat_map-cons told r rest) ∙ (sym (append_assoc here (told r) (flat_map told rest)) ∙ (ap (λ (l : List X). l ++ flat_map told rest) one ∙ more))

by_verdict : {X : Type 0} (told : Report → List X) (list : State → List X) (v : Verdict) (m : Strictness) (i : ℕ) (s : State) (e : Event) (final : State) (rest : List Report) (end : StreamEnding)
    → ((o : Outcome) → list s ++ told (report i s e o) ≡ list (happens s e)) → (end ≡ StreamEnding.Reached final → list (happens s e) ++ flat_map told rest ≡ list final)
    → ending_by v m i end ≡ StreamEnding.Reached final → list s ++ flat_map told (reports_by v m i s e rest) ≡ list final
by_verdict told list IsBad m i s e final rest end one more h = absurd (cc (h))
by_verdict told list IsLimited m i s e final rest end one more h = absurd (cc (h))
by_verdict told list (Keeps o) Lenient i s e final rest end one more h = one_more told (list s) (list (happens s e)) (list final) (report i s e o) rest (one o) (more h)
by_verdict told list (Keeps o) Strict i s e final rest end one more h = absurd (cc (h))
by_verdict told list (Moves o new) m i s e final rest end one more h = one_more told (list s) (list (happens s e)) (list final) (report i s e o) rest (one o) (more h)

all_events : {X : Type 0} (told : Report → List X) (list : State → List X) → ((i : ℕ) (s : State) (e : Event) (o : Outcome) → list s ++ told (report i s e o) ≡ list (happens s e))
    → (m : Strictness) (events : List Event) (i : ℕ) (s final : State) → ending m i s events ≡ StreamEnding.Reached final → list s ++ flat_map told (reports m i s events) ≡ list final
all_events told list one m [] i s final h = append-nil (list s) ∙ ap (λ (end : StreamEnding). list (state_of s end)) h
all_events told list one m (e ∷ events) i s final h =
    by_verdict told list (verdict s e) m i s e final (reports m (i + 1) (happens s e) events) (ending m (i + 1) (happens s e) events)
    (one i s e) (all_events told list one m events (i + 1) (happens s e) final) h

-- ---- the lists of a trace

entries_by : NothingIsRewritten → (h : ℕ) (i : ℕ) (s : State) (e : Event) (o : Outcome) → entries_of s.trace h ++ entries_in h (report i s e o) ≡ entries_of (happens s e).trace h
entries_by grows h i s e o = go (hart_of e == h) refl
  where
    go : (same : Bool) → (hart_of e == h) ≡ same → entries_of s.trace h ++ cond same (grown (entries_of s.trace (hart_of e)) (entries_of (happens s e).trace (hart_of e))) [] ≡ entries_of (happens s e).trace h
    go true is =
        let own = eqb-true (hart_of e) h is in
        ap (λ (k : ℕ). entries_of s.trace h ++ grown (entries_of s.trace k) (entries_of (happens s e).trace k)) own ∙ grows_to (entries_of s.trace h) (entries_of (happens s e).trace h) ((grows s e).entries h)
    go false is = append-nil (entries_of s.trace h) ∙ sym (others_stay s e h (λ own. let yes = eq-eqb (hart_of e) h own in cc))

outputs_by : (h : ℕ) (i : ℕ) (s : State) (e : Event) (o : Outcome) → outputs_of s h ++ output_in h (report i s e o) ≡ outputs_of (happens s e) h
outputs_by h i s e o = go (hart_of e == h) refl
  where
    go : (same : Bool) → (hart_of e == h) ≡ same → outputs_of s h ++ cond same (grown (outputs_of s (hart_of e)) (outputs_of (happens s e) (hart_of e))) [] ≡ outputs_of (happens s e) h
    go true is =
        let own = eqb-true (hart_of e) h is in
        ap (λ (k : ℕ). outputs_of s h ++ grown (outputs_of s k) (outputs_of (happens s e) k)) own ∙ grows_to (outputs_of s h) (outputs_of (happens s e) h) (puts_out s e h).0
    go false is = append-nil (outputs_of s h) ∙ sym ((puts_out s e h).1 (λ own. let yes = eq-eqb (hart_of e) h own in cc))

-- nothing has retired at reset
none_at : (harts h : ℕ) → slice_index_or (replicate {A = List Retired} harts []) h [] ≡ []
none_at zero h = refl
none_at (suc harts) zero = refl
none_at (suc harts) (suc h) = none_at harts h

-- ---- a replay of the events

replays_by : (v : Verdict) (m : Strictness) (i : ℕ) (end : StreamEnding) (rest : Replayed) (final : State) → (end ≡ StreamEnding.Reached final → rest ≡ Replayed.Reached final) → ending_by v m i end ≡ StreamEnding.Reached final → unless_refused v i rest ≡ Replayed.Reached final
replays_by IsBad m i end rest final more h = absurd (cc (h))
replays_by IsLimited m i end rest final more h = absurd (cc (h))
replays_by (Keeps o) Lenient i end rest final more h = more h
replays_by (Keeps o) Strict i end rest final more h = absurd (cc (h))
replays_by (Moves o new) m i end rest final more h = more h

replays : (m : Strictness) (events : List Event) (i : ℕ) (s final : State) → ending m i s events ≡ StreamEnding.Reached final → replayed_from i s events ≡ Replayed.Reached final
replays m [] i s final h = ap (λ (end : StreamEnding). Replayed.Reached (state_of s end)) h
replays m (e ∷ events) i s final h =
    replays_by (verdict s e) m i (ending m (i + 1) (happens s e) events) (replayed_from (i + 1) (happens s e) events) final (replays m events (i + 1) (happens s e) final) h

pub stream_is_the_trace : NothingIsRewritten → StreamIsTheTrace
stream_is_the_trace grows m image config events s h = (
  replays m events 0 (opening image config) s h,
  (
    record {
      entries = λ k.
          ap (λ (l : List Retired). l ++ flat_map (entries_in k) (reports m 0 (opening image config) events)) (sym (none_at config.harts k))
          ∙ all_events (entries_in k) (λ t. entries_of t.trace k) (entries_by grows k) m events 0 (opening image config) s h;
      performed = all_events (λ r. r.performed) (λ t. t.trace.performed) (λ i t e o. grows_to _ _ (grows t e).performed) m events 0 (opening image config) s h;
      log = all_events (λ r. r.log) (λ t. t.trace.log) (λ i t e o. grows_to _ _ (grows t e).log) m events 0 (opening image config) s h;
    },
    λ k.
        ap (λ (l : List ℕ). l ++ flat_map (output_in k) (reports m 0 (opening image config) events)) (sym (nothing_at image config (range_with_len 0 config.harts) k (no_node (opening image config)) refl))
        ∙ all_events (output_in k) (λ t. outputs_of t k) (outputs_by k) m events 0 (opening image config) s h,
  ),
)

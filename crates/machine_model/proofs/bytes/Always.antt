-- In every state that a list of events leads to, each copy of a line has the bytes that were performed last, and so the completed order keeps load values.
use Rattle.std.proofs.Common.{◌≡◌, ℕ, ◌-◌, ◌%◌, ◌<◌, Bool, true, false, List, [], ◌∷◌, Some, None, refl, ap, sym, ◌∙◌, subst, arith, length}
use Rattle.std.specs.Prelude.{◌+◌, ◌&&◌, ◌==◌, nat_le}
use Rattle.std.proofs.lemmas.Bool.{and_parts, eqb-true}
use Rattle.client_cache.specs.Cache.{copy_at}
use Rattle.client_cache.specs.Held.{bytes_in}
use Rattle.client_cache.specs.declared.held.Held.{Held}
use Rattle.elf_loader.specs.Image.{Initial, end_of}
use Rattle.elf_loader.specs.Size.{base}
use Rattle.machine_types.specs.declared.config.Config.{Config}
use Rattle.machine_types.specs.declared.event.Event.{Event}
use Rattle.machine_model.specs.Changing.{acted}
use Rattle.machine_model.specs.Coherent.{IsCoherent}
use Rattle.machine_model.specs.Events.{after_events, counted, happens, hart_of, is_piece}
use Rattle.machine_model.specs.JointLaws.{LoadValuesAlways}
use Rattle.machine_model.specs.Laws.{Always, CoherentAlways}
use Rattle.machine_model.specs.Views.{State, line_size, node_at, opening}
use Rattle.machine_model.proofs.bytes.Acts.{Agrees, acted_agrees, agrees_still}
use Rattle.machine_model.proofs.bytes.Lines.{IsOf, image_line}
use Rattle.machine_model.proofs.coherence.LineStands.{IsLast, Side, newest}
use Rattle.machine_model.proofs.order.Buffers.{still}
use Rattle.machine_model.proofs.order.Events.{happens_kept, opening_kept, opening_stand, rests_fit}
use Rattle.machine_model.proofs.order.Joint.{CopiesFit, coherent_holds}
use Rattle.machine_model.proofs.order.Moves.{OrderKept}
use Rattle.machine_model.proofs.order.Returns as returns
use Rattle.machine_model.proofs.order.Returns.{HoldAlways}
use Rattle.machine_model.proofs.runs.Runs.{AllStand, happens_stand}
use Rattle.machine_model.proofs.coherence.WorldEvents.{act_aligned, act_fits, counted_fits}
use Rattle.machine_model.proofs.coherence.WorldFits.{IsFit}
use Rattle.machine_model.proofs.coherence.WorldOpening.{one_writer, opening_is_fit, opening_last}
use Rattle.machine_model.proofs.coherence.WorldSteps.{last_after}
use Rattle.memory_model.specs.Traces.{last_performed}
use Rattle.tl_types.specs.Line.{length_of}
use Rattle.tl_types.specs.declared.line.LineData.{LineData}
use Rattle.machine_model.proofs.Events.{by_event}

-- the lines' last writes fit the state, and have the bytes that were performed last
pub record Joins (s : State) (last : ℕ → LineData) : Type 0 where
  pub fit : IsFit s last
  pub agrees : Agrees s last

abbrev pub Joint : State → Type 0
Joint s = (last : ℕ → LineData) × Joins s last

-- ---- events

happens_joint : (s : State) (e : Event) → AllStand s → OrderKept s → Joint s → Joint (happens s e)
happens_joint s e st k j =
    by_event Joint s e j (λ a m.
    let next = acted (hart_of e) a s in
    let later = last_after s (hart_of e) a j.0 in
    let agrees = acted_agrees (hart_of e) a s j.0 (subst (λ n. hart_of e < n) st.nodes m.in_h) st (rests_fit s e a m.rests) (act_aligned s e a m) k j.1.agrees in
    (later, record { fit = counted_fits next later (act_fits s j.0 j.1.fit e a m); agrees = agrees_still next (counted next) later (still next (counted next) refl refl refl) agrees }))

events_joint : (events : List Event) (s : State) → AllStand s → OrderKept s → Joint s → Joint (after_events s events)
events_joint [] s st k j = j
events_joint (e ∷ events) s st k j = events_joint events (happens s e) (happens_stand s e st) (happens_kept s e st k) (happens_joint s e st k j)

opening_joint : (image : Initial) (config : Config) → length image.bytes % 4096 ≡ 0 → Joint (opening image config)
opening_joint image config pages = (opening_last image config, record { fit = opening_is_fit image config pages; agrees = λ q on. image_line config.line image q on })

pub joint_always : Always (λ image config s. Joint s)
joint_always image config events is = events_joint events (opening image config) (opening_stand image config) (opening_kept image config) (opening_joint image config is.legal_size.whole_pages)

-- ---- copies

no_copy : (held : Held) → Some held ≡ None → ⊥
no_copy held e = cc

-- a copy of a line has the bytes that were performed last
copy_is : (s : State) → Joint s → (h line : ℕ) (held : Held) → copy_at (node_at s h).cache line ≡ Some held → IsOf (line_size s) (last_performed s.trace) line (bytes_in held)
copy_is s j h line held e = go (is_piece s.trace.image line (length_of (line_size s))) refl
  where
    go : (b : Bool) → is_piece s.trace.image line (length_of (line_size s)) ≡ b → IsOf (line_size s) (last_performed s.trace) line (bytes_in held)
    go true on =
        let is_newest : bytes_in held ≡ j.0 line = subst (IsLast (j.0 line)) e (newest ((j.1.fit.well.kept line on).stands h)) in
        subst (IsOf (line_size s) (last_performed s.trace) line) (sym is_newest) (j.1.agrees line on)
    go false off = absurd (no_copy held (sym e ∙ ap (λ (x : Side). x.copy) (j.1.fit.well.outside line off h)))

-- a copy is of a line of memory
line_is : (s : State) → Joint s → (h line : ℕ) (held : Held) → copy_at (node_at s h).cache line ≡ Some held → line % length_of (line_size s) ≡ 0
line_is s j h line held e = go (is_piece s.trace.image line (length_of (line_size s))) refl
  where
    go : (b : Bool) → is_piece s.trace.image line (length_of (line_size s)) ≡ b → line % length_of (line_size s) ≡ 0
    go true on =
        let bytes = length_of (line_size s) in
        let inside = and_parts (line % bytes == 0 && nat_le base line) (nat_le (line + bytes) (end_of s.trace.image)) on in
        eqb-true (line % bytes) 0 (and_parts (line % bytes == 0) (nat_le base line) inside.0).0
    go false off = absurd (no_copy held (sym e ∙ ap (λ (x : Side). x.copy) (j.1.fit.well.outside line off h)))

coherent : (s : State) → Joint s → IsCoherent s
coherent s j = record {
  aligned = line_is s j;
  one_writer = one_writer s (j.0, j.1.fit);
  last_write = λ h line x held e low high. (copy_is s j h line held e).bytes (x - line) (omega (arith, low, high)) ∙ ap (λ y. Some (last_performed s.trace y)) (omega (arith, low));
}

copies_fit : (s : State) → Joint s → CopiesFit s
copies_fit s j = record {
  caches = λ h l. j.1.fit.sized h;
  copies = λ h line held l e. (copy_is s j h line held e).sized;
}

pub coherent_always : CoherentAlways
coherent_always image config events is = coherent (after_events (opening image config) events) (joint_always image config events is)

-- ---- load values

hold_always : HoldAlways
hold_always image config events is =
    let s = after_events (opening image config) events in
    let j = joint_always image config events is in
    coherent_holds s (coherent s j) (copies_fit s j)

pub load_values_always : LoadValuesAlways
load_values_always = returns.load_values_always hold_always

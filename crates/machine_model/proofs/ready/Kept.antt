-- How large everything is, in each state that a list of events leads to.
use Rattle.std.proofs.Common.{ℕ, zero, suc, ◌<◌, ◌≤◌, ◌%◌, Bool, true, false, List, [], ◌∷◌, ◌≡◌, refl, ap, sym, ◌∙◌, subst, length, map, slice_index_or}
use Rattle.std.specs.Prelude.{◌==◌, if◌then◌else◌}
use Rattle.std.proofs.lemmas.Bool.{cases_lt}
use Rattle.std.proofs.lemmas.Bool.Decides.{eqb_tells}
use Rattle.std.proofs.lemmas.List.{get_or-replicate, get_or_past, length-replicate}
use Rattle.std.proofs.lemmas.List.FromFn.{length-map-range_with_len}
use Rattle.machine_types.specs.declared.limits.TheConstants.{MAX_CHANGES, MAX_ENTRIES}
use mathlib.Core.Logic.{◌⊎◌, inl, inr}
use native.Mathlib.Omega.{arith}
use Rattle.backing_memory.specs.Memory.{lines_of, pieces_of}
use Rattle.client_cache.specs.Word.{with_word}
use Rattle.elf_loader.specs.Image.{Initial}
use Rattle.hart.specs.declared.retired.Retired.{Retired}
use Rattle.machine_model.specs.Changing.{acted}
use Rattle.machine_model.specs.Events.{after_events, counted, entries_by, happens, hart_of, is_piece}
use Rattle.machine_model.specs.Laws.{KeepsImageAndConfig}
use Rattle.machine_model.specs.Ready.{IsReadyAct, IsReadyBody, shape_of}
use Rattle.machine_model.specs.Views.{Node, State, line_size, no_node, node_at, opening, opening_node, place_of}
use Rattle.machine_model.specs.declared.act.Act.{Act}
use Rattle.machine_model.specs.declared.act.Act.TheVariants as act
use Rattle.machine_model.specs.declared.act.Deed.{Deed}
use Rattle.machine_model.specs.declared.act.Deed.TheVariants as deed
use Rattle.machine_types.specs.declared.config.Config.{Config}
use Rattle.machine_types.specs.declared.event.Event.{Event}
use Rattle.machine_model.proofs.Growth.{happens_follows}
use Rattle.machine_model.proofs.coherence.LinePlaces.{place_inside}
use Rattle.machine_model.proofs.log.Events.{happens_order, opening_order}
use Rattle.machine_model.proofs.log.Fronts.{front_of_move}
use Rattle.machine_model.proofs.log.Queues.{IsInOrder}
use Rattle.machine_model.proofs.order.Events.{fresh, opening_stand}
use Rattle.machine_model.proofs.ready.Lists.{IsLonger, acted_longer}
use Rattle.machine_model.proofs.ready.Messages.{IsLine, ready_message}
use Rattle.machine_model.proofs.ready.Deeds.{deed_ready, drain_ready}
use Rattle.machine_model.proofs.ready.Sizes.{AllSized, IsSizedAct, Keeps, acted_keeps, word_size}
use Rattle.machine_model.proofs.runs.Runs.{AllStand, happens_stand}
use Rattle.machine_model.proofs.coherence.WorldEvents.{act_fits, counted_fits}
use Rattle.machine_model.proofs.coherence.WorldFits.{IsFit}
use Rattle.machine_model.proofs.coherence.WorldOpening.{opening_is_fit, opening_last}
use Rattle.machine_model.proofs.coherence.WorldSteps.{last_after, last_by, wrote_word}
use Rattle.store_buffer.specs.Entry.{entry_of}
use Rattle.store_buffer.specs.Groups.{oldest}
use Rattle.tl_types.specs.Line.{length_of, line_of, size_of}
use Rattle.tl_types.specs.declared.line.LineData.{LineData}
use Rattle.tl_types.specs.declared.line.LineData.TheVariants as data_of
use Rattle.tl_types.specs.declared.line.LineSize.{LineSize}
use Rattle.tl_types.specs.declared.line.LineSize.TheVariants.{Bytes16, Bytes64}
use Rattle.tl_types.specs.declared.message.Body.{Body}
use Rattle.tl_types.specs.declared.message.Body.TheVariants.{ProbeAckData, ReleaseData}
use Rattle.trace_recorder.specs.History.{entries_of}
use Rattle.machine_model.proofs.Events.{IsMove, IsUnlimited, by_event, move_is, unlimited}

pub record IsSized (s : State) : Type 0 where
  pub stand : AllStand s
  pub order : IsInOrder s
  pub last : ℕ → LineData
  pub fit : IsFit s last
  pub lines : (l : ℕ) → IsLine s l → size_of (last l) ≡ line_size s
  pub cells : AllSized (line_size s) s.views.memory
  pub shapes : (h : ℕ) → (node_at s h).cache.shape ≡ shape_of s
  pub harts : s.views.notes.harts ≡ s.views.config.harts
  pub changes : s.views.changes ≤ MAX_CHANGES
  pub places : (h : ℕ) → length (entries_of s.trace h) ≤ MAX_ENTRIES

-- ---- lines' last writes

wrote_size : (size : LineSize) (last : ℕ → LineData) (word : ℕ) (marks : List Bool) (bytes : List ℕ) (q : ℕ) → size_of (wrote_word size last word marks bytes q) ≡ size_of (last q)
wrote_size size last word marks bytes q = go (q == line_of size word)
  where
    go : (t : Bool) → size_of (if t then with_word (last q) word marks bytes else last q) ≡ size_of (last q)
    go true = word_size (last q) word marks bytes
    go false = refl

by_deed : (size : LineSize) (d : Deed) (last : ℕ → LineData) (q : ℕ) → size_of (last_by size d last q) ≡ size_of (last q)
by_deed size (deed.Sc word value) last q = wrote_size size last word _ _ q
by_deed size (deed.Amo word value) last q = wrote_size size last word _ _ q
by_deed size _ last q = refl

last_size : (s : State) (h : ℕ) (a : Act) (last : ℕ → LineData) (q : ℕ) → size_of (last_after s h a last q) ≡ size_of (last q)
last_size s h (act.Retire entry i d) last q = by_deed (line_size s) d last q
last_size s h (act.Drain word) last q = let e = entry_of word (oldest (node_at s h).buffer) in wrote_size (line_size s) last word e.mask e.bytes q
last_size s h _ last q = refl

-- ---- an act

-- an event that changes the machine
module _ (s : State) (k : IsSized s) (e : Event) (a : Act) (m : IsMove s e a) where
  abbrev hart : ℕ
  hart = hart_of e

  pub act_ready : IsReadyAct hart a s
  act_ready = go a m
    where
      go : (b : Act) → IsMove s e b → IsReadyAct hart b s
      go (act.Retire entry i d) x = deed_ready s k.last k.fit hart entry i d x.rests.1
      go (act.Drain word) x = drain_ready s k.last k.fit e word x
      go (act.Deliver msg) x = ready_message s k.last k.fit k.lines hart msg (front_of_move s k.order e msg x)
      go _ x = tt

  sized : IsSizedAct (line_size s) a
  sized = go a act_ready
    where
      carried : (line : ℕ) (body : Body) → IsReadyBody hart line body s → IsSizedAct (line_size s) (act.Deliver (record { line = line; body = body }))
      carried line (ProbeAckData change bytes) is = is.1
      carried line (ReleaseData change bytes) is = is
      carried line _ is = tt

      go : (b : Act) → IsReadyAct hart b s → IsSizedAct (line_size s) b
      go (act.Deliver m) is = carried m.line m.body is.body
      go _ is = tt

  moves : happens s e ≡ counted (acted hart a s)
  moves = move_is s e a m

  stays : KeepsImageAndConfig s (counted (acted hart a s))
  stays = subst (KeepsImageAndConfig s) moves (happens_follows s e).stays

  kept : Keeps (line_size s) s.views (acted hart a s).views
  kept = acted_keeps (line_size s) hart a s sized

  longer : IsLonger hart (entries_by a) s.trace.entries (acted hart a s).trace.entries
  longer = acted_longer hart a s

  few : IsUnlimited s hart a
  few = unlimited s hart a m.free

  pub moved_sized : IsSized (counted (acted hart a s))
  moved_sized = record {
    stand = subst AllStand moves (happens_stand s e k.stand);
    order = subst IsInOrder moves (happens_order s e k.order);
    last = last_after s hart a k.last;
    fit = counted_fits (acted hart a s) (last_after s hart a k.last) (act_fits s k.last k.fit e a m);
    lines = λ l on. last_size s hart a k.last l ∙ (k.lines l (there l on) ∙ same_size);
    cells = subst (λ size. AllSized size (acted hart a s).views.memory) same_size (kept.cells k.cells);
    shapes = shapes;
    harts = kept.harts ∙ (k.harts ∙ ap (λ (c : Config). c.harts) (sym stays.config));
    changes = omega (arith, kept.changes, few.few_changes);
    places = λ j. places j (eqb_tells j hart);
  }
    where
      same_size : line_size s ≡ line_size (counted (acted hart a s))
      same_size = ap (λ (c : Config). c.line) (sym stays.config)

      there : (l : ℕ) → IsLine (counted (acted hart a s)) l → IsLine s l
      there l on = subst (λ (image : Initial). is_piece image l (length_of (line_size s)) ≡ true) stays.image (subst (λ size. is_piece (acted hart a s).trace.image l (length_of size) ≡ true) (sym same_size) on)

      blank : no_node (counted (acted hart a s)) ≡ no_node s
      blank = rw (stays.image, stays.config) refl

      shapes : (j : ℕ) → (node_at (counted (acted hart a s)) j).cache.shape ≡ shape_of (counted (acted hart a s))
      shapes j =
          kept.shapes j (no_node (counted (acted hart a s)))
          ∙ (ap (λ (d : Node). (slice_index_or s.views.nodes j d).cache.shape) blank
          ∙ (k.shapes j ∙ ap (λ (c : Config). record { sets = c.sets; ways = c.ways; size = c.line }) (sym stays.config)))

      places : (j : ℕ) → (((j == hart) ≡ true) × (j ≡ hart)) ⊎ (((j == hart) ≡ false) × (j ≡ hart → ⊥)) → length (entries_of (counted (acted hart a s)).trace j) ≤ MAX_ENTRIES
      places j (inl is) = subst (λ i. length (entries_of (counted (acted hart a s)).trace i) ≤ MAX_ENTRIES) (sym is.1) (omega (arith, longer.here, few.few_entries))
      places j (inr is) = subst (λ (row : List Retired). length row ≤ MAX_ENTRIES) (sym (longer.there j is.1)) (k.places j)

-- ---- any event

happens_sized : (s : State) (e : Event) → IsSized s → IsSized (happens s e)
happens_sized s e k = by_event IsSized s e k (moved_sized s k e)

pub events_sized : (events : List Event) (s : State) → IsSized s → IsSized (after_events s events)
events_sized [] s k = k
events_sized (e ∷ events) s k = events_sized events (happens s e) (happens_sized s e k)

-- ---- from reset

lines_sized : (size : LineSize) (bytes : List ℕ) → AllSized size (lines_of size bytes)
lines_sized Bytes16 bytes = go (pieces_of 16 bytes)
  where
    go : (pieces : List (List ℕ)) → AllSized Bytes16 (map data_of.Bytes16 pieces)
    go [] k lt = absurd (omega arith)
    go (piece ∷ pieces) zero lt = refl
    go (piece ∷ pieces) (suc k) lt = go pieces k (omega arith)
lines_sized Bytes64 bytes = go (pieces_of 64 bytes)
  where
    go : (pieces : List (List ℕ)) → AllSized Bytes64 (map data_of.Bytes64 pieces)
    go [] k lt = absurd (omega arith)
    go (piece ∷ pieces) zero lt = refl
    go (piece ∷ pieces) (suc k) lt = go pieces k (omega arith)

pub opening_sized : (image : Initial) (config : Config) → length image.bytes % 4096 ≡ 0 → IsSized (opening image config)
opening_sized image config pages = record {
  stand = opening_stand image config;
  order = opening_order image config;
  last = opening_last image config;
  fit = fit;
  lines = λ l on. cells (place_of size l) (rw fit.well.memory_room (place_inside image size l on));
  cells = cells;
  shapes = λ h. shapes h (cases_lt h config.harts);
  harts = refl;
  changes = omega arith;
  places = λ h. places h (cases_lt h config.harts);
}
  where
    size : LineSize
    size = config.line

    fit : IsFit (opening image config) (opening_last image config)
    fit = opening_is_fit image config pages

    cells : AllSized config.line (lines_of config.line image.bytes)
    cells = lines_sized config.line image.bytes

    shapes : (h : ℕ) → (h < config.harts) ⊎ (config.harts ≤ h) → (node_at (opening image config) h).cache.shape ≡ shape_of (opening image config)
    shapes h (inl lt) = ap (λ (n : Node). n.cache.shape) (fresh image config h lt)
    shapes h (inr past) = ap (λ (n : Node). n.cache.shape) (get_or_past (opening image config).views.nodes h (no_node (opening image config)) (rw (length-map-range_with_len (opening_node image config) 0 config.harts) past))

    none : (row : List Retired) → row ≡ [] → length row ≤ MAX_ENTRIES
    none row e = rw e (omega arith)

    places : (h : ℕ) → (h < config.harts) ⊎ (config.harts ≤ h) → length (entries_of (opening image config).trace h) ≤ MAX_ENTRIES
    places h (inl lt) = none (entries_of (opening image config).trace h) (get_or-replicate config.harts h [] [] lt)
    places h (inr past) = none (entries_of (opening image config).trace h) (get_or_past (opening image config).trace.entries h [] (rw (length-replicate {A = List Retired} config.harts []) past))

-- What an act makes of the manager's notes and of memory.
use Rattle.std.proofs.Common.{ℕ, ◌<◌, ◌≤◌, Bool, true, false, List, ◌≡◌, refl, ap, sym, ◌∙◌, subst, length}
use Rattle.std.specs.Prelude.{◌≢◌, ◌==◌, ◌&&◌, if◌then◌else◌, slice_index_or, slice_set}
use Rattle.std.proofs.lemmas.Bool.{cases_lt}
use Rattle.std.proofs.lemmas.Bool.Decides.{eqb_tells}
use Rattle.std.proofs.lemmas.List.{get_or-set_same, get_or-set_other, get_or_past}
use Rattle.std.proofs.lemmas.List.FromFn.{get_or-map-range_with_len, length-map-range_with_len}
use mathlib.Core.Logic.{◌⊎◌, inl, inr}
use native.Mathlib.Omega.{arith}
use Rattle.backing_memory.specs.Memory as memory
use Rattle.directory.specs.Directory.{Notes, line_at, quiet, with_line}
use Rattle.directory.specs.Lines.{Line, is_probed, known_at, probing, unknown}
use Rattle.directory.specs.declared.answer.Known.{Known}
use Rattle.machine_logs.proofs.Told.{IsTold, after, told_as}
use Rattle.machine_logs.proofs.Copies.{IsAlike}
use Rattle.machine_logs.specs.Laws.{noted_at}
use Rattle.machine_model.proofs.coherence.LinePlaces.{place_inside, place_own}
use Rattle.machine_model.proofs.coherence.WorldFits.{IsFit}
use Rattle.machine_model.specs.Coherent.{perm_at}
use Rattle.machine_model.specs.Deliveries.{line_in_memory}
use Rattle.machine_model.specs.Events.{is_piece}
use Rattle.machine_model.specs.Views.{State, line_size, place_of}
use Rattle.tl_types.specs.Line.{length_of}
use Rattle.tl_types.specs.declared.line.LineData.{LineData}
use Rattle.tl_types.specs.declared.line.LineSize.{LineSize}
use Rattle.tl_types.specs.declared.permission.Grow.{Grow}
use Rattle.tl_types.specs.declared.permission.Perm.{Perm}
use Rattle.elf_loader.specs.Image.{Initial}
use Rattle.machine_types.specs.declared.config.Config.{Config}
use Rattle.trace_recorder.specs.declared.logged.Logged.{Logged}

-- a line of memory begins there
abbrev pub on_at : State → ℕ → Bool
on_at s = λ (l : ℕ). is_piece s.trace.image l (length_of (line_size s))

-- the log tells the state's permissions, notes and memory
abbrev pub Told : State → Type 0
Told s = IsTold s.trace.image (on_at s) s.trace.log (λ k l. perm_at s k l) (λ k l. noted_at s k l) (λ l. line_in_memory s l)

-- what an act that sends nothing leaves
pub alike_told : (s t : State) → IsAlike s t → Told s → Told t
alike_told s t q i =
    told_as _ _ _
    (subst (λ (im : Initial). IsTold im (λ l. is_piece im l (length_of t.views.config.line)) t.trace.log (λ k l. perm_at s k l) (λ k l. noted_at s k l) (λ l. line_in_memory s l)) (sym q.image)
    (subst (λ (c : Config). IsTold s.trace.image (λ l. is_piece s.trace.image l (length_of c.line)) t.trace.log (λ k l. perm_at s k l) (λ k l. noted_at s k l) (λ l. line_in_memory s l)) (sym q.config)
    (subst (λ (log : List Logged). IsTold s.trace.image (on_at s) log (λ k l. perm_at s k l) (λ k l. noted_at s k l) (λ l. line_in_memory s l)) (sym q.log) i)))
    q.perms
    (λ k l on. ap (λ (n : Notes). (known_at (line_at n (place_of (line_size t) l)) k).perm) q.notes ∙ ap (λ (c : Config). (known_at (line_at s.views.notes (place_of c.line l)) k).perm) q.config)
    (λ l on. ap (λ (m : List LineData). memory.line_data m (place_of (line_size t) l)) q.memory ∙ ap (λ (c : Config). memory.line_data s.views.memory (place_of c.line l)) q.config)

-- ---- notes and memory of one line

module _ (s : State) (last : ℕ → LineData) (i : IsFit s last) (line : ℕ) (on : on_at s line ≡ true) where
  abbrev place : ℕ → ℕ
  place l = place_of (line_size s) l

  apart : (l : ℕ) → l ≢ line → on_at s l ≡ true → place l ≢ place line
  apart l ne there same = ne (place_own s.trace.image (line_size s) l line there on same)

  pub entry_here : (y : Line) → line_at (with_line s.views.notes (place line) y) (place line) ≡ y
  entry_here y = get_or-set_same s.views.notes.lines (place line) y (quiet s.views.notes.harts) (rw i.well.notes_room (place_inside s.trace.image (line_size s) line on))

  pub entry_there : (y : Line) (l : ℕ) → l ≢ line → on_at s l ≡ true → line_at (with_line s.views.notes (place line) y) (place l) ≡ line_at s.views.notes (place l)
  entry_there y l ne there = get_or-set_other s.views.notes.lines (place line) (place l) y (quiet s.views.notes.harts) (apart l ne there)

  -- the line's bytes become these
  pub home_turned : (bytes : LineData) (l : ℕ) → on_at s l ≡ true → memory.line_data (slice_set s.views.memory (place line) bytes) (place l) ≡ (if line == l then bytes else line_in_memory s l)
  home_turned bytes l there = go (eqb_tells line l)
    where
      go : (((line == l) ≡ true) × (line ≡ l)) ⊎ (((line == l) ≡ false) × (line ≡ l → ⊥)) → memory.line_data (slice_set s.views.memory (place line) bytes) (place l) ≡ (if line == l then bytes else line_in_memory s l)
      go (inl e) = rw e.0 (subst (λ q. memory.line_data (slice_set s.views.memory (place line) bytes) (place q) ≡ bytes) e.1 (get_or-set_same s.views.memory (place line) bytes memory.no_line (rw i.well.memory_room (place_inside s.trace.image (line_size s) line on))))
      go (inr e) = rw e.0 (get_or-set_other s.views.memory (place line) (place l) bytes memory.no_line (apart l (λ q. e.1 (sym q)) there))

-- ---- one hart's note

abbrev pub perm_in_line : Line → ℕ → Perm
perm_in_line y k = (known_at y k).perm

-- a hart's note of the line becomes this
pub note_turned : (old y : Line) (h : ℕ) (p : Perm) → perm_in_line y h ≡ p → ((k : ℕ) → k ≢ h → perm_in_line y k ≡ perm_in_line old k) → (k : ℕ) → perm_in_line y k ≡ (if h == k then p else perm_in_line old k)
note_turned old y h p own other k = go (eqb_tells h k)
  where
    go : (((h == k) ≡ true) × (h ≡ k)) ⊎ (((h == k) ≡ false) × (h ≡ k → ⊥)) → perm_in_line y k ≡ (if h == k then p else perm_in_line old k)
    go (inl e) = rw e.0 (subst (λ j. perm_in_line y j ≡ p) e.1 own)
    go (inr e) = rw e.0 (other k (λ q. e.1 (sym q)))

-- where the line's entry becomes `y`, and others stay
pub noted_turned : (size : LineSize) (on : ℕ → Bool) (before after : Notes) (line h : ℕ) (p : Perm) (y : Line)
    → line_at after (place_of size line) ≡ y → ((l : ℕ) → l ≢ line → on l ≡ true → line_at after (place_of size l) ≡ line_at before (place_of size l))
    → ((k : ℕ) → perm_in_line y k ≡ (if h == k then p else perm_in_line (line_at before (place_of size line)) k))
    → (k l : ℕ) → on l ≡ true → perm_in_line (line_at after (place_of size l)) k ≡ (if h == k && line == l then p else perm_in_line (line_at before (place_of size l)) k)
noted_turned size on before after line h p y here there turned k l o = go (eqb_tells line l)
  where
    right : (t : Bool) (a b : Perm) → (if t then a else b) ≡ (if t && true then a else b)
    right true a b = refl
    right false a b = refl

    wrong : (t : Bool) (a b : Perm) → b ≡ (if t && false then a else b)
    wrong true a b = refl
    wrong false a b = refl

    go : (((line == l) ≡ true) × (line ≡ l)) ⊎ (((line == l) ≡ false) × (line ≡ l → ⊥)) → perm_in_line (line_at after (place_of size l)) k ≡ (if h == k && line == l then p else perm_in_line (line_at before (place_of size l)) k)
    go (inl e) = rw e.0 (subst (λ q. perm_in_line (line_at after (place_of size q)) k ≡ (if h == k && true then p else perm_in_line (line_at before (place_of size q)) k)) e.1
        (ap (λ z. perm_in_line z k) here ∙ turned k ∙ right (h == k) p (perm_in_line (line_at before (place_of size line)) k)))
    go (inr e) = rw e.0 (ap (λ z. perm_in_line z k) (there l (λ q. e.1 (sym q)) o) ∙ wrong (h == k) p (perm_in_line (line_at before (place_of size l)) k))

-- where the line's entry keeps each permission
pub noted_same : (size : LineSize) (on : ℕ → Bool) (before after : Notes) (line : ℕ) (y : Line)
    → line_at after (place_of size line) ≡ y → ((l : ℕ) → l ≢ line → on l ≡ true → line_at after (place_of size l) ≡ line_at before (place_of size l))
    → ((k : ℕ) → perm_in_line y k ≡ perm_in_line (line_at before (place_of size line)) k)
    → (k l : ℕ) → on l ≡ true → perm_in_line (line_at after (place_of size l)) k ≡ perm_in_line (line_at before (place_of size l)) k
noted_same size on before after line y here there same k l o = go (eqb_tells line l)
  where
    go : (((line == l) ≡ true) × (line ≡ l)) ⊎ (((line == l) ≡ false) × (line ≡ l → ⊥)) → perm_in_line (line_at after (place_of size l)) k ≡ perm_in_line (line_at before (place_of size l)) k
    go (inl e) = subst (λ q. perm_in_line (line_at after (place_of size q)) k ≡ perm_in_line (line_at before (place_of size q)) k) e.1 (ap (λ z. perm_in_line z k) here ∙ same k)
    go (inr e) = ap (λ z. perm_in_line z k) (there l (λ q. e.1 (sym q)) o)

-- probing leaves permissions
pub probing_perm : (y : Line) (h : ℕ) (g : Grow) (k : ℕ) → perm_in_line (probing y h g) k ≡ perm_in_line y k
probing_perm y h g k = go (cases_lt k (length y.known))
  where
    F : ℕ → Known
    F j = record (known_at y j) { awaited = is_probed y h g j }

    go : (k < length y.known) ⊎ (length y.known ≤ k) → perm_in_line (probing y h g) k ≡ perm_in_line y k
    go (inl lt) = ap (λ (z : Known). z.perm) (get_or-map-range_with_len F 0 (length y.known) k k unknown lt (omega arith))
    go (inr past) =
        ap (λ (z : Known). z.perm) (get_or_past _ k unknown (rw (length-map-range_with_len F 0 (length y.known)) past)) ∙ sym (ap (λ (z : Known). z.perm) (get_or_past y.known k unknown past))

-- one record of a line
pub known_set : (y : Line) (h : ℕ) (z : Known) (old : List Known) → y.known ≡ slice_set old h z → h < length old → (known_at y h ≡ z) × ((k : ℕ) → k ≢ h → known_at y k ≡ slice_index_or old k unknown)
known_set y h z old is within = (
  ap (λ (ks : List Known). slice_index_or ks h unknown) is ∙ get_or-set_same old h z unknown within,
  λ k ne. ap (λ (ks : List Known). slice_index_or ks k unknown) is ∙ get_or-set_other old h k z unknown ne,
)

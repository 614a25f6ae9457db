-- What holds of all lines at every moment, over what each hart has of caches and queues, and that each act keeps it.
use Rattle.std.proofs.Common.{ℕ, Bool, true, false, List, [], ◌∷◌, ◌≡◌, ◌<◌, refl, ap, sym, ◌∙◌, subst, length}
use Rattle.std.specs.Prelude.{◌≢◌, slice_set}
use Rattle.std.proofs.lemmas.List.{get_or-set_same, get_or-set_other, length-set, set-get_or}
use Rattle.backing_memory.specs.Memory as memory
use Rattle.client_cache.specs.Cache.{Cache}
use Rattle.client_cache.specs.Held.{perm_of}
use Rattle.directory.specs.Directory.{Notes, line_at, quiet, with_line}
use Rattle.directory.specs.Lines.{Line, known_at, unknown}
use Rattle.directory.specs.declared.answer.Known.{Known}
use Rattle.directory.specs.declared.answer.Transaction.TheVariants.{Probing}
use Rattle.elf_loader.specs.Image.{Initial}
use Rattle.machine_model.specs.Deliveries.{is_trunk}
use Rattle.machine_model.specs.Events.{is_piece}
use Rattle.machine_model.specs.Views.{place_of}
use Rattle.machine_model.proofs.coherence.LineKept as kept
use Rattle.machine_model.proofs.coherence.LineKept.{IsKept, Changed, part_of, not_eq, split, stored}
use Rattle.machine_model.proofs.coherence.LinePlaces.{count_of, place_inside, place_own}
use Rattle.machine_model.proofs.coherence.LineStands.{Side, quiet_side, Moves, wrote}
use Rattle.machine_model.proofs.coherence.LineViews.{seen}
use Rattle.tilelink_channels.specs.Queues.{Waiting}
use Rattle.tl_types.specs.Line.{length_of}
use Rattle.tl_types.specs.declared.line.LineData.{LineData}
use Rattle.tl_types.specs.declared.line.LineSize.{LineSize}
use Rattle.tl_types.specs.declared.message.Body.{Body}
use Rattle.tl_types.specs.declared.permission.Grow.{Grow}

-- what coherence asks of a hart
pub record Kit : Type 0 where
  pub cache : Cache
  pub queues : Waiting

abbrev pub side : Kit → Known → ℕ → Side
side x z l = seen x.cache x.queues z l

pub record KitChanged (f k : ℕ → Kit) (h : ℕ) (x : Kit) : Type 0 where
  pub here : k h ≡ x
  pub there : (j : ℕ) → j ≢ h → k j ≡ f j

module _ (image : Initial) (size : LineSize) (harts : ℕ) where
  abbrev pub is_line : ℕ → Bool
  is_line l = is_piece image l (length_of size)

  abbrev pub place : ℕ → ℕ
  place l = place_of size l

  abbrev pub entry : Notes → ℕ → Line
  entry notes l = line_at notes (place l)

  abbrev pub sides : (ℕ → Kit) → Line → ℕ → ℕ → Side
  sides f y l h = side (f h) (known_at y h) l

  abbrev pub LineKept : (ℕ → Kit) → Line → LineData → ℕ → LineData → Type 0
  LineKept f y bytes l last = IsKept (sides f y l) bytes y.transaction last

  pub record IsWell (f : ℕ → Kit) (notes : Notes) (cells : List LineData) (last : ℕ → LineData) : Type 0 where
    pub kept : (l : ℕ) → is_line l ≡ true → LineKept f (entry notes l) (memory.line_data cells (place l)) l (last l)
    pub outside : (l : ℕ) → is_line l ≡ false → (h : ℕ) → side (f h) unknown l ≡ quiet_side
    pub notes_room : length notes.lines ≡ count_of image size
    pub memory_room : length cells ≡ count_of image size
    pub known : (l : ℕ) → is_line l ≡ true → length (entry notes l).known ≡ harts
    pub requester : (l r : ℕ) (g : Grow) → is_line l ≡ true → (entry notes l).transaction ≡ Probing r g → r < harts

  -- an act is about one line: from every other all harts look the same
  pub step : (f k : ℕ → Kit) (notes : Notes) (cells : List LineData) (last next : ℕ → LineData) (l : ℕ) (y : Line) (bytes : LineData) → is_line l ≡ true → IsWell f notes cells last →
      ((q : ℕ) → q ≢ l → (h : ℕ) (z : Known) → side (k h) z q ≡ side (f h) z q) → ((q : ℕ) → q ≢ l → next q ≡ last q) →
      LineKept k y bytes l (next l) → length y.known ≡ harts → ((r : ℕ) (g : Grow) → y.transaction ≡ Probing r g → r < harts) →
      IsWell k (with_line notes (place l) y) (slice_set cells (place l) bytes) next
  step f k notes cells last next l y bytes on i elsewhere same_last here known requester = record {
    kept = split (λ q. is_line q ≡ true → LineKept k (entry after q) (memory.line_data store (place q)) q (next q)) l
        (λ e. rw (entry_here, cell_here) here)
        (λ q ne e. rw (entry_there q ne e, cell_there q ne e, same_last q ne) (kept.same _ _ _ _ _ (i.kept q e) (λ h. elsewhere q ne h (known_at (entry notes q) h))));
    outside = λ q e h. elsewhere q (λ s. cc (on, e, ap is_line s)) h unknown ∙ i.outside q e h;
    notes_room = length-set notes.lines (place l) y ∙ i.notes_room;
    memory_room = length-set cells (place l) bytes ∙ i.memory_room;
    known = split (λ q. is_line q ≡ true → length (entry after q).known ≡ harts) l (λ e. rw entry_here known) (λ q ne e. rw (entry_there q ne e) (i.known q e));
    requester = λ q r g. split (λ q. is_line q ≡ true → (entry after q).transaction ≡ Probing r g → r < harts) l (λ e. rw entry_here (requester r g)) (λ q ne e. rw (entry_there q ne e) (i.requester q r g e)) q;
  }
    where
      after : Notes
      after = with_line notes (place l) y

      store : List LineData
      store = slice_set cells (place l) bytes

      inside : place l < count_of image size
      inside = place_inside image size l on

      apart : (q : ℕ) → q ≢ l → is_line q ≡ true → place q ≢ place l
      apart q ne e s = ne (place_own image size q l e on s)

      entry_here : entry after l ≡ y
      entry_here = get_or-set_same notes.lines (place l) y (quiet notes.harts) (rw i.notes_room inside)

      entry_there : (q : ℕ) → q ≢ l → is_line q ≡ true → entry after q ≡ entry notes q
      entry_there q ne e = get_or-set_other notes.lines (place l) (place q) y (quiet notes.harts) (apart q ne e)

      cell_here : memory.line_data store (place l) ≡ bytes
      cell_here = get_or-set_same cells (place l) bytes memory.no_line (rw i.memory_room inside)

      cell_there : (q : ℕ) → q ≢ l → is_line q ≡ true → memory.line_data store (place q) ≡ memory.line_data cells (place q)
      cell_there q ne e = get_or-set_other cells (place l) (place q) bytes memory.no_line (apart q ne e)

  -- a message in front of a queue is about one of the lines
  pub front_line : (f : ℕ → Kit) (notes : Notes) (cells : List LineData) (last : ℕ → LineData) (h l : ℕ) (body : Body) (rest : List Body) (queue : Side → List Body) → IsWell f notes cells last → queue quiet_side ≡ [] → queue (side (f h) unknown l) ≡ body ∷ rest → is_line l ≡ true
  front_line f notes cells last h l body rest queue i none front = go (is_line l) refl
    where
      go : (t : Bool) → is_line l ≡ t → t ≡ true
      go true e = refl
      go false e = cc (none, front, ap queue (i.outside l e h))

  module _ (f k : ℕ → Kit) (notes : Notes) (cells : List LineData) (last : ℕ → LineData) (l : ℕ) (on : is_line l ≡ true) (i : IsWell f notes cells last) where
    -- notes and memory stay
    pub still : (y : Line) (bytes : LineData) → entry notes l ≡ y → memory.line_data cells (place l) ≡ bytes → IsWell k (with_line notes (place l) y) (slice_set cells (place l) bytes) last → IsWell k notes cells last
    still y bytes e m w = subst (λ (c : List LineData). IsWell k notes c last) (ap (slice_set cells (place l)) (sym m) ∙ set-get_or cells (place l) memory.no_line)
        (subst (λ (ls : List Line). IsWell k (record notes { lines = ls }) (slice_set cells (place l) bytes) last) (ap (slice_set notes.lines (place l)) (sym e) ∙ set-get_or notes.lines (place l) (quiet notes.harts)) w)

    -- one hart acts alone
    pub acts : (h : ℕ) (x : Kit) → KitChanged f k h x → ((q : ℕ) → q ≢ l → (z : Known) → side x z q ≡ side (f h) z q) →
        Moves (last l) (part_of (entry notes l).transaction h) (sides f (entry notes l) l h) (side x (known_at (entry notes l) h) l) → IsWell k notes cells last
    acts h x c elsewhere moves = still (entry notes l) (memory.line_data cells (place l)) refl refl
        (step f k notes cells last last l (entry notes l) (memory.line_data cells (place l)) on i
        (λ q ne. split (λ j. (z : Known) → side (k j) z q ≡ side (f j) z q) h (λ z. rw c.here (elsewhere q ne z)) (λ j nj z. rw (c.there j nj) refl))
        (λ q ne. refl)
        (kept.moved (sides f (entry notes l) l) _ _ _ _ (i.kept l on) h _ (record { here = ap (λ (y : Kit). side y (known_at (entry notes l) h) l) c.here; there = λ j nj. ap (λ (y : Kit). side y (known_at (entry notes l) j) l) (c.there j nj) }) moves)
        (i.known l on) (λ r g. i.requester l r g on))

    -- the hart that may write the line writes it
    pub writes : (h : ℕ) (next : ℕ → LineData) (bytes : LineData) → (x : Kit) → KitChanged f k h x → ((q : ℕ) → q ≢ l → (z : Known) → side x z q ≡ side (f h) z q) → ((z : Known) → side x z l ≡ wrote (side (f h) z l) bytes) →
        ((q : ℕ) → q ≢ l → next q ≡ last q) → next l ≡ bytes → is_trunk (perm_of (side (f h) unknown l).copy) ≡ true → IsWell k notes cells next
    writes h next bytes x c elsewhere here others newest may =
        subst (λ (m : List LineData). IsWell k notes m next) (set-get_or cells (place l) memory.no_line)
        (subst (λ (ls : List Line). IsWell k (record notes { lines = ls }) (slice_set cells (place l) (memory.line_data cells (place l))) next) (set-get_or notes.lines (place l) (quiet notes.harts))
        (step f k notes cells last next l (entry notes l) (memory.line_data cells (place l)) on i
        (λ q ne. split (λ j. (z : Known) → side (k j) z q ≡ side (f j) z q) h (λ z. rw c.here (elsewhere q ne z)) (λ j nj z. rw (c.there j nj) refl))
        others
        (rw newest (kept.written (sides f (entry notes l) l) _ _ _ _ (i.kept l on) h bytes (record { here = ap (λ (y : Kit). side y (known_at (entry notes l) h) l) c.here ∙ here (known_at (entry notes l) h); there = λ j nj. ap (λ (y : Kit). side y (known_at (entry notes l) j) l) (c.there j nj) }) may))
        (i.known l on) (λ r g. i.requester l r g on)))

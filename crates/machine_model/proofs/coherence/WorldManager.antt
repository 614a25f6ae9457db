-- What the manager does keeps what holds of all lines.
use Rattle.std.proofs.Common.{ℕ, zero, suc, Bool, true, false, List, [], ◌∷◌, ◌++◌, ◌≡◌, ◌<◌, ◌≤◌, Option, refl, ap, sym, ◌∙◌, subst, length}
use Rattle.std.specs.Prelude.{◌≢◌, ◌==◌, ◌&&◌, ◌||◌, if◌then◌else◌, not, slice_set, slice_index_or}
use Rattle.std.specs.List.{list_any}
use Rattle.std.proofs.lemmas.List.{get_or-set_same, get_or-set_other, length-set, get_or_past, set-get_or}
use Rattle.std.proofs.lemmas.List.FromFn.{get_or-map-range_with_len, length-map-range_with_len}
use Rattle.std.proofs.lemmas.Bool.{eq-eqb, cases_lt}
use mathlib.Core.Logic.{◌⊎◌, inl, inr}
use native.Mathlib.Omega.{arith}
use Rattle.backing_memory.specs.Memory as memory
use Rattle.directory.specs.Directory.{Notes, with_line}
use Rattle.directory.specs.Lines.{Line, conflicts, grant_acked, grant_for, granting, is_any_awaited, is_probed, known_at, probe_cap, probing, unknown}
use Rattle.directory.specs.declared.answer.Grant.{Grant as Granting}
use Rattle.directory.specs.declared.answer.Known.{Known}
use Rattle.directory.specs.declared.answer.Transaction.TheVariants.{Idle, Probing}
use Rattle.elf_loader.specs.Image.{Initial}
use Rattle.machine_model.specs.Deliveries.{grant_body}
use Rattle.machine_model.proofs.coherence.LineKept as kept
use Rattle.machine_model.proofs.coherence.LineKept.{IsKept, Changed, part_of, not_eq, split, stored}
use Rattle.machine_model.proofs.coherence.LineStands.{Side, Alone, Asking, Stands, Holds, Asks, Leaves, Left, Takes, EndsAt, end_stands, AsksAt, ask_stands, probe}
use Rattle.machine_model.proofs.coherence.LineViews.{of_line, of_line_same, pushed_elsewhere}
use Rattle.machine_model.proofs.coherence.WorldKept.{Kit, KitChanged, side, is_line, place, entry, sides, IsWell, step}
use Rattle.tilelink_channels.specs.Queues.{Waiting, pushed}
use Rattle.tl_types.specs.Permission.{granted_for, named_by}
use Rattle.tl_types.specs.declared.line.LineData.{LineData}
use Rattle.tl_types.specs.declared.line.LineSize.{LineSize}
use Rattle.tl_types.specs.declared.message.Body.{Body}
use Rattle.tl_types.specs.declared.message.Body.TheVariants.{AcquireBlock, ProbeBlock, Grant, GrantData, GrantAck}
use Rattle.tl_types.specs.declared.message.Msg.{Msg}
use Rattle.tl_types.specs.declared.permission.Grow.{Grow}
use Rattle.tl_types.specs.declared.permission.Grow.TheVariants.{NtoB, NtoT, BtoT}
use Rattle.tl_types.specs.declared.permission.Perm.TheVariants.{Nothing}

-- a Grant goes to queue D, with data or without
pub pushed_grant : (w : Waiting) (l : ℕ) (g : Granting) (bytes : LineData) → pushed w (record { line = l; body = grant_body g bytes }) ≡ record w { d = w.d ++ (record { line = l; body = grant_body g bytes }) ∷ [] }
pushed_grant w l g bytes = go g.with_data
  where
    go : (t : Bool) → pushed w (record { line = l; body = if t then GrantData g.cap bytes else Grant g.cap }) ≡ record w { d = w.d ++ (record { line = l; body = if t then GrantData g.cap bytes else Grant g.cap }) ∷ [] }
    go true = refl
    go false = refl

-- nobody is awaited outside a transaction's probes
pub rests : {last : LineData} {x : Side} → Stands last Alone x → x.awaited ≡ false
rests (Holds _ copy by is) = refl
rests (Asks _ copy h by is reader) = refl
rests (Leaves _ from change carried by is) = refl
rests (Left _ by) = refl

pub none_awaited : (ks : List Known) → list_any (λ (x : Known). x.awaited) ks ≡ false → (j : ℕ) → (slice_index_or ks j unknown).awaited ≡ false
none_awaited [] e j = refl
none_awaited (x ∷ xs) e zero = head x.awaited e
  where
    head : (t : Bool) → t || list_any (λ (x : Known). x.awaited) xs ≡ false → t ≡ false
    head true e = e
    head false e = refl
none_awaited (x ∷ xs) e (suc j) = none_awaited xs (tail x.awaited e) j
  where
    tail : (t : Bool) → t || list_any (λ (x : Known). x.awaited) xs ≡ false → list_any (λ (x : Known). x.awaited) xs ≡ false
    tail true e = cc e
    tail false e = e

pub nothing_conflicts : (g : Grow) → conflicts g Nothing ≡ false
nothing_conflicts NtoB = refl
nothing_conflicts NtoT = refl
nothing_conflicts BtoT = refl

pub own_unprobed : (y : Line) (h : ℕ) (g : Grow) → is_probed y h g h ≡ false
own_unprobed y h g = let e : (h == h) ≡ true = eq-eqb h h refl in rw e refl

other_probed : (y : Line) (h : ℕ) (g : Grow) (j : ℕ) → j ≢ h → is_probed y h g j ≡ conflicts g (known_at y j).perm
other_probed y h g j ne = rw (not_eq j h ne) refl

-- the notes of the probed harts, also of those that aren't there
known_probing : (y : Line) (h : ℕ) (g : Grow) (j : ℕ) → known_at (probing y h g) j ≡ record (known_at y j) { awaited = is_probed y h g j }
known_probing y h g j = go (cases_lt j (length y.known))
  where
    F : ℕ → Known
    F i = record (known_at y i) { awaited = is_probed y h g i }

    go : (j < length y.known) ⊎ (length y.known ≤ j) → known_at (probing y h g) j ≡ record (known_at y j) { awaited = is_probed y h g j }
    go (inl lt) = get_or-map-range_with_len F 0 (length y.known) j j unknown lt (omega arith)
    go (inr past) =
        let e : known_at y j ≡ unknown = get_or_past y.known j unknown past in
        get_or_past _ j unknown (rw (length-map-range_with_len F 0 (length y.known)) past) ∙ rw (e, nothing_conflicts g, off (not (j == h))) refl
      where
        off : (t : Bool) → t && false ≡ false
        off true = refl
        off false = refl

module _ (image : Initial) (size : LineSize) (harts : ℕ) (f k : ℕ → Kit) (notes : Notes) (cells : List LineData) (last : ℕ → LineData) (l : ℕ) (on : is_line image size harts l ≡ true) (i : IsWell image size harts f notes cells last) where
  abbrev own : Line
  own = entry image size harts notes l

  abbrev at_home : LineData
  at_home = memory.line_data cells (place image size harts l)

  abbrev given_notes : Line → Notes
  given_notes y = with_line notes (place image size harts l) y

  -- memory stays
  keeps_memory : (y : Line) → IsWell image size harts k (given_notes y) (slice_set cells (place image size harts l) at_home) last → IsWell image size harts k (given_notes y) cells last
  keeps_memory y w = subst (λ (c : List LineData). IsWell image size harts k (given_notes y) c last) (set-get_or cells (place image size harts l) memory.no_line) w

  elsewhere_by : (h : ℕ) (x : Kit) → KitChanged f k h x → ((q : ℕ) → q ≢ l → (z : Known) → side x z q ≡ side (f h) z q) → (q : ℕ) → q ≢ l → (j : ℕ) (z : Known) → side (k j) z q ≡ side (f j) z q
  elsewhere_by h x c elsewhere q ne = split (λ j. (z : Known) → side (k j) z q ≡ side (f j) z q) h (λ z. rw c.here (elsewhere q ne z)) (λ j nj z. rw (c.there j nj) refl)

  -- a GrantAck
  pub ends : (h : ℕ) (x : Kit) (rest : List Body) → KitChanged f k h x → ((q : ℕ) → q ≢ l → (z : Known) → side x z q ≡ side (f h) z q) → ((z : Known) → side x z l ≡ record (side (f h) z l) { e = rest }) →
      (side (f h) unknown l).e ≡ GrantAck ∷ rest → IsWell image size harts k (given_notes (grant_acked own)) cells last
  ends h x rest c elsewhere here front = keeps_memory (grant_acked own) (step image size harts f k notes cells last last l (grant_acked own) at_home on i (elsewhere_by h x c elsewhere) (λ q ne. refl)
      (kept.ended (sides image size harts f own l) _ _ _ _ (i.kept l on) h rest (record { here = ap (λ (y : Kit). side y (known_at own h) l) c.here ∙ here (known_at own h); there = λ j nj. ap (λ (y : Kit). side y (known_at own j) l) (c.there j nj) }) says.0 says.1)
      (i.known l on) (λ r g e. cc e))
    where
      says : EndsAt (last l) (part_of own.transaction h) (sides image size harts f own l h) (GrantAck ∷ rest)
      says = subst (EndsAt (last l) (part_of own.transaction h) (sides image size harts f own l h)) front (end_stands ((i.kept l on).stands h))

  -- a message of channel C
  pub takes : (h : ℕ) (x : Kit) (z : Known) (carried : Option LineData) → h < harts → KitChanged f k h x → ((q : ℕ) → q ≢ l → (z : Known) → side x z q ≡ side (f h) z q) →
      Takes (last l) (part_of own.transaction h) (sides image size harts f own l h) (side x z l) carried →
      IsWell image size harts k (given_notes (record own { known = slice_set own.known h z })) (slice_set cells (place image size harts l) (stored at_home carried)) last
  takes h x z carried in_h c elsewhere taken = step image size harts f k notes cells last last l y (stored at_home carried) on i (elsewhere_by h x c elsewhere) (λ q ne. refl)
      (kept.took (sides image size harts f own l) _ _ _ _ (i.kept l on) h (side x z l) carried (record {
        here = rw (c.here, get_or-set_same own.known h z unknown (rw (i.known l on) in_h)) refl;
        there = λ j nj. rw (c.there j nj, get_or-set_other own.known h j z unknown nj) refl;
      }) taken)
      (length-set own.known h z ∙ i.known l on) (λ r g. i.requester l r g on)
    where
      y : Line
      y = record own { known = slice_set own.known h z }

  -- the Grant, once nobody is awaited
  pub grants : (r : ℕ) (g : Grow) → own.transaction ≡ Probing r g → is_any_awaited own ≡ false →
      KitChanged f k r (record (f r) { queues = pushed (f r).queues (record { line = l; body = grant_body (grant_for own r g) at_home }) }) → IsWell image size harts k (given_notes (granting own r g)) cells last
  grants r g e none c = keeps_memory (granting own r g) (step image size harts f k notes cells last last l (granting own r g) at_home on i
      (elsewhere_by r _ c (λ q ne z. pushed_elsewhere _ (f r).queues z q (record { line = l; body = grant_body (grant_for own r g) at_home }) (λ s. ne (sym s))))
      (λ q ne. refl)
      (kept.granted (sides image size harts f own l) _ at_home (last l) r g (subst (λ t. IsKept (sides image size harts f own l) at_home t (last l)) e (i.kept l on)) (none_awaited own.known none) (record {
        here = rw (c.here, get_or-set_same own.known r noted_now unknown in_known, pushed_grant (f r).queues l (grant_for own r g) at_home, of_line_same l (f r).queues.d (grant_body (grant_for own r g) at_home)) refl;
        there = λ j nj. rw (c.there j nj, get_or-set_other own.known r j noted_now unknown nj) refl;
      }))
      (length-set own.known r noted_now ∙ i.known l on) (λ q h e. cc e))
    where
      noted_now : Known
      noted_now = record (known_at own r) { perm = named_by (granted_for g) }

      in_known : r < length own.known
      in_known = rw (i.known l on) (i.requester l r g on e)

  module _ (h : ℕ) (g : Grow) (x : Kit) (rest : List Body) (idle : own.transaction ≡ Idle) (front : (side (f h) unknown l).a ≡ AcquireBlock g ∷ rest) where
    still_idle : IsKept (sides image size harts f own l) at_home Idle (last l)
    still_idle = subst (λ t. IsKept (sides image size harts f own l) at_home t (last l)) idle (i.kept l on)

    waits : Stands (last l) (Asking g) (record (sides image size harts f own l h) { a = rest })
    waits = subst (AsksAt (last l) Alone (sides image size harts f own l h)) front (ask_stands (still_idle.stands h)) refl

    -- an Acquire: the hart's message is taken, and the others are probed
    pub probes : h < harts → k h ≡ x → ((q : ℕ) → q ≢ l → (z : Known) → side x z q ≡ side (f h) z q) → ((z : Known) → side x z l ≡ record (side (f h) z l) { a = rest }) →
        ((j : ℕ) → j ≢ h → k j ≡ (if is_probed own h g j then record (f j) { queues = pushed (f j).queues (record { line = l; body = ProbeBlock (probe_cap g) }) } else f j)) →
        IsWell image size harts k (given_notes (probing own h g)) cells last
    probes in_h here elsewhere same others = keeps_memory (probing own h g) (step image size harts f k notes cells last last l (probing own h g) at_home on i everywhere (λ q ne. refl)
        (kept.probing (sides image size harts f own l) _ at_home (last l) still_idle h g rest asker waits other)
        (length-map-range_with_len _ 0 (length own.known) ∙ i.known l on) (λ r q e. let s : h ≡ r = cc e in rw (← s) in_h))
      where
        m : Msg
        m = record { line = l; body = ProbeBlock (probe_cap g) }

        sent_elsewhere : (y : Kit) (t : Bool) (q : ℕ) → q ≢ l → (z : Known) → side (if t then record y { queues = pushed y.queues m } else y) z q ≡ side y z q
        sent_elsewhere y true q ne z = pushed_elsewhere _ y.queues z q m (λ s. ne (sym s))
        sent_elsewhere y false q ne z = refl

        everywhere : (q : ℕ) → q ≢ l → (j : ℕ) (z : Known) → side (k j) z q ≡ side (f j) z q
        everywhere q ne = split (λ j. (z : Known) → side (k j) z q ≡ side (f j) z q) h (λ z. rw here (elsewhere q ne z)) (λ j nj z. rw (others j nj) (sent_elsewhere (f j) (is_probed own h g j) q ne z))

        asker : sides image size harts k (probing own h g) l h ≡ record (sides image size harts f own l h) { a = rest }
        asker = rw (here, known_probing own h g h, own_unprobed own h g) (here_is (record (known_at own h) { awaited = false }) ∙ rw (rests (still_idle.stands h)) refl)
          where
            here_is : (z : Known) → side x z l ≡ record (side (f h) z l) { a = rest }
            here_is = λ z. same z

        sent_here : (y : Kit) (z : Known) (t : Bool) → side (if t then record y { queues = pushed y.queues m } else y) (record z { awaited = t }) l ≡ record (side y z l) { b = if t then of_line l y.queues.b ++ ProbeBlock (probe_cap g) ∷ [] else of_line l y.queues.b; awaited = t }
        sent_here y z true = rw (of_line_same l y.queues.b (ProbeBlock (probe_cap g))) refl
        sent_here y z false = refl

        other : (j : ℕ) → j ≢ h → sides image size harts k (probing own h g) l j ≡ probe g (sides image size harts f own l j)
        other j ne = rw (others j ne, known_probing own h g j, other_probed own h g j ne) (sent_here (f j) (known_at own j) (conflicts g (known_at own j).perm))

    -- an Acquire with nobody to probe: the Grant goes out at once
    pub grants_at_once : ((j : ℕ) → j < harts → is_probed own h g j ≡ false) → h < harts → KitChanged f k h x → ((q : ℕ) → q ≢ l → (z : Known) → side x z q ≡ side (f h) z q) →
        ((z : Known) → side x z l ≡ (let y = side (f h) z l in record y { a = rest; d = y.d ++ grant_body (grant_for own h g) at_home ∷ [] })) →
        IsWell image size harts k (given_notes (granting own h g)) cells last
    grants_at_once none in_h c elsewhere same = keeps_memory (granting own h g) (step image size harts f k notes cells last last l (granting own h g) at_home on i (elsewhere_by h x c elsewhere) (λ q ne. refl)
        (kept.granted middle _ at_home (last l) h g middle_kept unawaited (record {
          here = rw (c.here, get_or-set_same own.known h noted_now unknown in_known) (same noted_now ∙ rw (eq-eqb h h refl) refl);
          there = λ j nj. rw (c.there j nj, get_or-set_other own.known h j noted_now unknown nj, not_eq j h nj) refl;
        }))
        (length-set own.known h noted_now ∙ i.known l on) (λ q h e. cc e))
      where
        noted_now : Known
        noted_now = record (known_at own h) { perm = named_by (granted_for g) }

        in_known : h < length own.known
        in_known = rw (i.known l on) in_h

        middle : ℕ → Side
        middle j = if j == h then record (sides image size harts f own l h) { a = rest } else sides image size harts f own l j

        unprobed : (j : ℕ) → j ≢ h → conflicts g (known_at own j).perm ≡ false
        unprobed j ne = go (cases_lt j harts)
          where
            go : (j < harts) ⊎ (harts ≤ j) → conflicts g (known_at own j).perm ≡ false
            go (inl lt) = sym (other_probed own h g j ne) ∙ none j lt
            go (inr past) = let e : known_at own j ≡ unknown = get_or_past own.known j unknown (rw (i.known l on) past) in rw e (nothing_conflicts g)

        plain : (y : Side) → y.awaited ≡ false → conflicts g y.noted ≡ false → y ≡ probe g y
        plain y e n = rw (n, ← e) refl

        middle_kept : IsKept middle at_home (Probing h g) (last l)
        middle_kept = kept.probing (sides image size harts f own l) middle at_home (last l) still_idle h g rest (rw (eq-eqb h h refl) refl) waits
            (λ j ne. rw (not_eq j h ne) (plain (sides image size harts f own l j) (rests (still_idle.stands j)) (unprobed j ne)))

        unawaited : (j : ℕ) → (middle j).awaited ≡ false
        unawaited = split (λ j. (middle j).awaited ≡ false) h (rw (eq-eqb h h refl) (rests (still_idle.stands h))) (λ j ne. rw (not_eq j h ne) (rests (still_idle.stands j)))

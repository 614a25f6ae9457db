-- What an entry shows of its line, and how one hart's part of it changes.
use Rattle.std.proofs.Common.{◌≡◌, ◌≢◌, ℕ, ◌<◌, ◌≤◌, true, false, not, ◌&&◌, nat_eq, List, [], length, map, get_or, set, refl, sym, ap, ◌∙◌, arith, inl, inr, ◌⊎◌, get_or-set_same, get_or-set_other, None}
use Rattle.std.specs.Prelude.{if◌then◌else◌, slice_set}
use Rattle.std.specs.List.{range_with_len}
use Rattle.std.proofs.lemmas.Bool.{cases_eq}
use Rattle.std.proofs.lemmas.List.FromFn.{fill_by_all, get_or-map-range_with_len, length-map-range_with_len}
use Rattle.std.proofs.Math.ListN.{length-set}
use Rattle.std.proofs.lemmas.List.FromFn.{length-range_with_len}
use Rattle.std.proofs.lemmas.Simd.{splat_is_map}
use Rattle.tl_types.specs.declared.permission.Perm.{Perm}
use Rattle.tl_types.specs.declared.permission.Grow.{Grow}
use Rattle.tl_types.specs.declared.permission.Change.{Change}
use Rattle.tl_types.specs.Permission.{left_by, named_by, granted_for}
use Rattle.directory.specs.declared.answer.Known.{Known}
use Rattle.directory.specs.declared.answer.Transaction.{Transaction}
use Rattle.directory.specs.declared.answer.Transaction.TheVariants.{Idle, Granted}
use Rattle.directory.specs.declared.entry.Entry.{Entry}
use Rattle.directory.specs.Harts.{has, harts_below}
use Rattle.directory.specs.Lines.{Line, unknown, known_at, noted, acknowledged, granting}
use Rattle.directory.specs.Directory.{quiet}
use Rattle.directory.specs.Entries.{perm_of, known_of, notes_of_entry, IsNoted}
use Rattle.directory.proofs.Masks.{gone, stays}

-- what is noted of a hart that is there
pub known_at-line_of : (harts : ℕ) (e : Entry) (h : ℕ) → h < harts → known_at (notes_of_entry harts e) h ≡ known_of e h
unfolding notes_of_entry
known_at-line_of harts e h l = get_or-map-range_with_len (known_of e) 0 harts h h unknown l (omega arith)

pub length-line_of : (harts : ℕ) (e : Entry) → length (notes_of_entry harts e).known ≡ harts
unfolding notes_of_entry
length-line_of harts e = length-map-range_with_len (known_of e) 0 harts

-- one hart's part is replaced
pub line_of-put : (harts : ℕ) (e later : Entry) (h : ℕ) (k : Known) → h < harts → known_of later h ≡ k → ((i : ℕ) → i < harts → i ≢ h → known_of later i ≡ known_of e i) → notes_of_entry harts later ≡ record { known = slice_set (notes_of_entry harts e).known h k; transaction = later.transaction }
unfolding notes_of_entry
line_of-put harts e later h k l here others =
    let xs : List Known = map (known_of e) (range_with_len 0 harts) in
    let long : length (set xs h k) ≡ harts = simp length-set (length-map-range_with_len (known_of e) 0 harts) in
    ap (λ (known : List Known). record { known = known; transaction = later.transaction })
    (sym (fill_by_all (known_of later) (set xs h k) harts unknown long (λ i u. at i u (cases_eq i h))))
  where
    at : (i : ℕ) → i < harts → (i ≡ h) ⊎ (i ≢ h) → get_or (set (map (known_of e) (range_with_len 0 harts)) h k) i unknown ≡ known_of later i
    at i u (inl e_is) =
        let fits : h < length (map (known_of e) (range_with_len 0 harts)) = omega (arith, length-map-range_with_len (known_of e) 0 harts) in
        ap (λ n. get_or (set (map (known_of e) (range_with_len 0 harts)) h k) n unknown) e_is
        ∙ get_or-set_same (map (known_of e) (range_with_len 0 harts)) h k unknown fits
        ∙ sym here ∙ ap (known_of later) (sym e_is)
    at i u (inr d) =
        get_or-set_other (map (known_of e) (range_with_len 0 harts)) h i k unknown d
        ∙ get_or-map-range_with_len (known_of e) 0 harts i i unknown u (omega arith)
        ∙ sym (others i u d)

-- the record of one hart becomes another permission
pub line_of-noted : (harts : ℕ) (e later : Entry) (h : ℕ) (perm : Perm) → IsNoted e later h perm → h < harts → harts ≤ 8 → notes_of_entry harts later ≡ noted (notes_of_entry harts e) h perm
unfolding notes_of_entry
line_of-noted harts e later h perm n l few =
    line_of-put harts e later h (record { perm = perm; awaited = has e.awaited h }) l here others
    ∙ ap (λ (t : Transaction). record { known = slice_set (notes_of_entry harts e).known h (record { perm = perm; awaited = has e.awaited h }); transaction = t }) n.transaction
    ∙ ap (λ (k : Known). record { known = slice_set (notes_of_entry harts e).known h (record k { perm = perm }); transaction = e.transaction }) (sym (known_at-line_of harts e h l))
  where
    here : known_of later h ≡ record { perm = perm; awaited = has e.awaited h }
    here =
        let same : nat_eq h h ≡ true = grind arith in
        let p : perm_of later h ≡ perm = n.perms h (omega arith) ∙ ap (λ b. if b then perm else perm_of e h) same in
        let w : later.awaited ≡ e.awaited = n.awaited in
        rw (p, w) refl

    others : (i : ℕ) → i < harts → i ≢ h → known_of later i ≡ known_of e i
    others i u d =
        let off : nat_eq i h ≡ false = grind (arith, d) in
        let p : perm_of later i ≡ perm_of e i = n.perms i (omega arith) ∙ ap (λ b. if b then perm else perm_of e i) off in
        let w : later.awaited ≡ e.awaited = n.awaited in
        rw (p, w) refl

pub line_of-quiet : (harts : ℕ) → notes_of_entry harts (record { sharers = []; awaited = []; owner = None; transaction = Idle }) ≡ quiet harts
unfolding notes_of_entry
line_of-quiet harts = ap (λ (known : List Known). record { known = known; transaction = Idle }) (sym (splat_is_map (range_with_len 0 harts) harts unknown (length-range_with_len 0 harts)))

-- a hart's ProbeAck was taken
pub line_of-acknowledged : (harts : ℕ) (e later : Entry) (h : ℕ) (change : Change) (w : List ℕ) → IsNoted e later h (left_by change) → w ≡ harts_below 8 (λ i. not (nat_eq i h) && has later.awaited i) → h < harts → harts ≤ 8 → notes_of_entry harts (record later { awaited = w }) ≡ acknowledged (notes_of_entry harts e) h change
unfolding notes_of_entry
line_of-acknowledged harts e later h change w n w_is l few =
    line_of-put harts e (record later { awaited = w }) h (record { perm = left_by change; awaited = false }) l here others
    ∙ ap (λ (t : Transaction). record { known = slice_set (notes_of_entry harts e).known h (record { perm = left_by change; awaited = false }); transaction = t }) n.transaction
  where
    here : known_of (record later { awaited = w }) h ≡ record { perm = left_by change; awaited = false }
    here =
        let same : nat_eq h h ≡ true = grind arith in
        let p : perm_of later h ≡ left_by change = n.perms h (omega arith) ∙ ap (λ b. if b then left_by change else perm_of e h) same in
        let a : has w h ≡ false = ap (λ s. has s h) w_is ∙ gone later.awaited h (omega arith) in
        rw (p, a) refl

    others : (i : ℕ) → i < harts → i ≢ h → known_of (record later { awaited = w }) i ≡ known_of e i
    others i u d =
        let off : nat_eq i h ≡ false = grind (arith, d) in
        let p : perm_of later i ≡ perm_of e i = n.perms i (omega arith) ∙ ap (λ b. if b then left_by change else perm_of e i) off in
        let a : has w i ≡ has e.awaited i = ap (λ s. has s i) w_is ∙ stays later.awaited h i (omega arith) d ∙ ap (λ s. has s i) n.awaited in
        rw (p, a) refl

-- the Grant was sent
pub line_of-granting : (harts : ℕ) (e later : Entry) (h : ℕ) (grow : Grow) → IsNoted e later h (named_by (granted_for grow)) → h < harts → harts ≤ 8 → notes_of_entry harts (record later { transaction = Granted h }) ≡ granting (notes_of_entry harts e) h grow
unfolding notes_of_entry
line_of-granting harts e later h grow n l few =
    ap (λ (x : Line). record x { transaction = Granted h }) (line_of-noted harts e later h (named_by (granted_for grow)) n l few)

pub line_of-ended : (harts : ℕ) (e : Entry) → notes_of_entry harts (record e { transaction = Idle }) ≡ record (notes_of_entry harts e) { transaction = Idle }
unfolding notes_of_entry
line_of-ended harts e = refl

pub line_of-transaction : (harts : ℕ) (e : Entry) → (notes_of_entry harts e).transaction ≡ e.transaction
unfolding notes_of_entry
line_of-transaction harts e = refl

-- What the calls answer, from an entry's masks to its line.
use Rattle.std.proofs.Common.{◌≡◌, ◌≢◌, ℕ, zero, suc, ◌+◌, ◌<◌, ◌≤◌, Bool, true, false, not, ◌&&◌, ◌||◌, nat_eq, List, [], ◌∷◌, map, refl, sym, ap, ◌∙◌, subst, arith, inl, inr, ◌⊎◌, None}
use Rattle.std.specs.Prelude.{All}
use Rattle.std.specs.List.{range_with_len, list_any}
use Rattle.std.proofs.lemmas.Bool.{cases_eq, cases_lt}
use Rattle.tl_types.specs.declared.permission.Perm.TheVariants.{Nothing}
use Rattle.tl_types.specs.declared.permission.Grow.{Grow}
use Rattle.tl_types.specs.declared.permission.Grow.TheVariants.{NtoB, NtoT, BtoT}
use Rattle.tl_types.specs.declared.permission.Change.{Change}
use Rattle.directory.specs.declared.answer.Known.{Known}
use Rattle.directory.specs.declared.answer.Transaction.{Transaction}
use Rattle.directory.specs.declared.answer.Transaction.TheVariants.{Idle, Probing, Granted}
use Rattle.directory.specs.declared.answer.Acquired.TheVariants.{Handled, Busy}
use Rattle.directory.specs.declared.answer.Sent.TheVariants.{Probes}
use Rattle.directory.specs.declared.entry.Entry.{Entry}
use Rattle.directory.specs.Harts.{has, harts_below}
use Rattle.directory.specs.Lines.{Line, known_at, conflicts, probe_cap, is_probed, probed, probing, acquired, acquired_by, acquired_in, acknowledged, is_any_awaited, answered_in, probe_acked}
use Rattle.directory.specs.Entries.{perm_of, known_of, notes_of_entry, IsSoundEntry}
use Rattle.directory.proofs.Entries.{known_at-line_of, length-line_of, line_of-transaction}
use Rattle.directory.proofs.Sets.{harts_below-same, harts_below-fewer, harts_below-below, has-harts_below}
use Rattle.directory.proofs.Sound.{in_the_way, perm_of-none}

conflicts-Nothing : (grow : Grow) (b : Bool) → (b && conflicts grow Nothing) ≡ false
conflicts-Nothing NtoB true = refl
conflicts-Nothing NtoB false = refl
conflicts-Nothing NtoT true = refl
conflicts-Nothing NtoT false = refl
conflicts-Nothing BtoT true = refl
conflicts-Nothing BtoT false = refl

is_probed-line_of : (harts : ℕ) (e : Entry) (requester : ℕ) (grow : Grow) (h : ℕ) → h < harts → is_probed (notes_of_entry harts e) requester grow h ≡ (not (nat_eq h requester) && conflicts grow (perm_of e h))
is_probed-line_of harts e requester grow h l = ap (λ (k : Known). not (nat_eq h requester) && conflicts grow k.perm) (known_at-line_of harts e h l)

pub in_the_way-fewer : (harts : ℕ) (e : Entry) (requester : ℕ) (grow : Grow) → IsSoundEntry harts e → harts ≤ 8 → in_the_way e requester grow ≡ harts_below harts (λ h. not (nat_eq h requester) && conflicts grow (perm_of e h))
in_the_way-fewer harts e requester grow sound few = harts_below-fewer harts 8 (λ h. not (nat_eq h requester) && conflicts grow (perm_of e h)) few (λ h u v. ap (λ p. not (nat_eq h requester) && conflicts grow p) (perm_of-none harts e h sound u) ∙ conflicts-Nothing grow (not (nat_eq h requester)))

-- only harts that are there are probed
pub in_the_way-below : (harts : ℕ) (e : Entry) (requester : ℕ) (grow : Grow) (w : List ℕ) → w ≡ in_the_way e requester grow → IsSoundEntry harts e → harts ≤ 8 → All (λ h. h < harts) w
in_the_way-below harts e requester grow w w_is sound few = subst (λ (hs : List ℕ). All (λ h. h < harts) hs) (sym (w_is ∙ in_the_way-fewer harts e requester grow sound few)) (harts_below-below harts _)

pub probed-line_of : (harts : ℕ) (e : Entry) (requester : ℕ) (grow : Grow) → IsSoundEntry harts e → harts ≤ 8 → probed (notes_of_entry harts e) requester grow ≡ in_the_way e requester grow
probed-line_of harts e requester grow sound few =
    ap (λ n. harts_below n (is_probed (notes_of_entry harts e) requester grow)) (length-line_of harts e)
    ∙ harts_below-same harts (is_probed (notes_of_entry harts e) requester grow) (λ h. not (nat_eq h requester) && conflicts grow (perm_of e h)) (λ h l. is_probed-line_of harts e requester grow h l)
    ∙ sym (in_the_way-fewer harts e requester grow sound few)

map_same : (f g : ℕ → Known) (a n : ℕ) → ((h : ℕ) → a ≤ h → h < a + n → f h ≡ g h) → map f (range_with_len a n) ≡ map g (range_with_len a n)
map_same f g a zero same = refl
map_same f g a (suc n) same =
    let here : f a ≡ g a = same a (omega arith) (omega arith) in
    let rest : map f (range_with_len (a + 1) n) ≡ map g (range_with_len (a + 1) n) = map_same f g (a + 1) n (λ h l u. same h (omega arith) (omega arith)) in
    cc

line_of-probing : (harts : ℕ) (e : Entry) (requester : ℕ) (grow : Grow) (w : List ℕ) → w ≡ in_the_way e requester grow → harts ≤ 8 → notes_of_entry harts (record e { awaited = w; transaction = Probing requester grow }) ≡ probing (notes_of_entry harts e) requester grow
unfolding notes_of_entry
line_of-probing harts e requester grow w w_is few =
    ap (λ (known : List Known). record { known = known; transaction = Probing requester grow })
    (map_same (known_of (record e { awaited = w })) (λ h. record (known_at (notes_of_entry harts e) h) { awaited = is_probed (notes_of_entry harts e) requester grow h }) 0 harts same
    ∙ ap (λ n. map (λ h. record (known_at (notes_of_entry harts e) h) { awaited = is_probed (notes_of_entry harts e) requester grow h }) (range_with_len 0 n)) (sym (length-line_of harts e)))
  where
    same : (h : ℕ) → 0 ≤ h → h < 0 + harts → known_of (record e { awaited = w }) h ≡ record (known_at (notes_of_entry harts e) h) { awaited = is_probed (notes_of_entry harts e) requester grow h }
    same h l u =
        let bound : h < harts = omega arith in
        let known_is : known_at (notes_of_entry harts e) h ≡ known_of e h = known_at-line_of harts e h bound in
        let probed_is : is_probed (notes_of_entry harts e) requester grow h ≡ (not (nat_eq h requester) && conflicts grow (perm_of e h)) = is_probed-line_of harts e requester grow h bound in
        let has_is : has w h ≡ (not (nat_eq h requester) && conflicts grow (perm_of e h)) = ap (λ s. has s h) w_is ∙ has-harts_below 8 _ h (omega arith) in
        ap (λ b. record (known_of e h) { awaited = b }) (has_is ∙ sym probed_is)
        ∙ ap (λ (k : Known). record k { awaited = is_probed (notes_of_entry harts e) requester grow h }) (sym known_is)

acquired_by-some : (l : Line) (requester : ℕ) (grow : Grow) (harts : List ℕ) → harts ≢ [] → acquired_by l requester grow harts ≡ (Handled (Probes (probe_cap grow) harts), probing l requester grow)
acquired_by-some l requester grow [] some = absurd (some refl)
acquired_by-some l requester grow (h ∷ hs) some = refl

pub begun_by_probes : (harts : ℕ) (e : Entry) (requester : ℕ) (grow : Grow) (w : List ℕ) → w ≡ in_the_way e requester grow → w ≢ [] → IsSoundEntry harts e → harts ≤ 8 → (Handled (Probes (probe_cap grow) w), notes_of_entry harts (record e { awaited = w; transaction = Probing requester grow })) ≡ acquired_by (notes_of_entry harts e) requester grow (probed (notes_of_entry harts e) requester grow)
begun_by_probes harts e requester grow w w_is some sound few =
    ap (λ (l : Line). (Handled (Probes (probe_cap grow) w), l)) (line_of-probing harts e requester grow w w_is few)
    ∙ sym (acquired_by-some (notes_of_entry harts e) requester grow w some)
    ∙ ap (λ hs. acquired_by (notes_of_entry harts e) requester grow hs) (w_is ∙ sym (probed-line_of harts e requester grow sound few))

pub acquired-idle : (harts : ℕ) (e : Entry) (requester : ℕ) (grow : Grow) → e.transaction ≡ Idle → acquired (notes_of_entry harts e) requester grow ≡ acquired_by (notes_of_entry harts e) requester grow (probed (notes_of_entry harts e) requester grow)
acquired-idle harts e requester grow idle = ap (λ t. acquired_in t (notes_of_entry harts e) requester grow) (line_of-transaction harts e ∙ idle)

pub acquired-busy : (harts : ℕ) (e : Entry) (requester : ℕ) (grow : Grow) → e.transaction ≢ Idle → acquired (notes_of_entry harts e) requester grow ≡ (Busy, notes_of_entry harts e)
acquired-busy harts e requester grow other = ap (λ t. acquired_in t (notes_of_entry harts e) requester grow) (line_of-transaction harts e) ∙ go e.transaction other
  where
    go : (t : Transaction) → t ≢ Idle → acquired_in t (notes_of_entry harts e) requester grow ≡ (Busy, notes_of_entry harts e)
    go Idle d = absurd (d refl)
    go (Probing r g) d = refl
    go (Granted r) d = refl

none_of : (f : ℕ → Known) (a n : ℕ) → ((h : ℕ) → (f h).awaited ≡ false) → list_any (λ (k : Known). k.awaited) (map f (range_with_len a n)) ≡ false
none_of f a zero none = refl
none_of f a (suc n) none =
    let here : (f a).awaited ≡ false = none a in
    rw here (none_of f (a + 1) n none)

pub none-awaited : (harts : ℕ) (e : Entry) → e.awaited ≡ [] → is_any_awaited (notes_of_entry harts e) ≡ false
unfolding notes_of_entry
none-awaited harts e none = none_of (known_of e) 0 harts (λ h. ap (λ s. has s h) none)

one_of : (f : ℕ → Known) (a n h : ℕ) → a ≤ h → h < a + n → (f h).awaited ≡ true → list_any (λ (k : Known). k.awaited) (map f (range_with_len a n)) ≡ true
one_of f a zero h l u found = absurd (omega arith)
one_of f a (suc n) h l u found = go (cases_eq a h) (one_of f (a + 1) n h)
  where
    or_true : (b : Bool) → (b || true) ≡ true
    or_true true = refl
    or_true false = refl

    go : (a ≡ h) ⊎ (a ≢ h) → (a + 1 ≤ h → h < a + 1 + n → (f h).awaited ≡ true → list_any (λ (k : Known). k.awaited) (map f (range_with_len (a + 1) n)) ≡ true) → ((f a).awaited || list_any (λ (k : Known). k.awaited) (map f (range_with_len (a + 1) n))) ≡ true
    go (inl e_is) rest = ap (λ i. (f i).awaited || list_any (λ (k : Known). k.awaited) (map f (range_with_len (a + 1) n))) e_is ∙ ap (λ b. b || list_any (λ (k : Known). k.awaited) (map f (range_with_len (a + 1) n))) found
    go (inr d) rest = ap (λ b. (f a).awaited || b) (rest (omega arith) (omega arith) found) ∙ or_true (f a).awaited

pub some-awaited : (harts : ℕ) (e : Entry) → IsSoundEntry harts e → e.awaited ≢ [] → is_any_awaited (notes_of_entry harts e) ≡ true
unfolding notes_of_entry
some-awaited harts e sound some = go e.awaited refl
  where
    go : (s : List ℕ) → e.awaited ≡ s → list_any (λ (k : Known). k.awaited) (map (known_of e) (range_with_len 0 harts)) ≡ true
    go [] is = absurd (some is)
    go (h ∷ hs) is = at (cases_lt h harts)
      where
        first : has e.awaited h ≡ true
        first = ap (λ s. has s h) is ∙ (let same : nat_eq h h ≡ true = grind arith in rw same refl)

        at : (h < harts) ⊎ (harts ≤ h) → list_any (λ (k : Known). k.awaited) (map (known_of e) (range_with_len 0 harts)) ≡ true
        at (inl l) = one_of (known_of e) 0 harts h (omega arith) (omega arith) first
        at (inr l) = let clash : false ≡ true = sym (sound.awaited h l) ∙ first in cc

pub acked : (harts : ℕ) (e later : Entry) (h : ℕ) (change : Change) → notes_of_entry harts later ≡ acknowledged (notes_of_entry harts e) h change → probe_acked (notes_of_entry harts e) h change ≡ answered_in later.transaction (notes_of_entry harts later)
acked harts e later h change is =
    let same : (notes_of_entry harts e).transaction ≡ later.transaction = ap (λ (l : Line). l.transaction) (sym is) ∙ line_of-transaction harts later in
    ap (λ t. answered_in t (acknowledged (notes_of_entry harts e) h change)) same ∙ ap (λ l. answered_in later.transaction l) (sym is)

pub not_probing : (t : Transaction) (l : Line) → ((requester : ℕ) (grow : Grow) → t ≡ Probing requester grow → ⊥) → answered_in t l ≡ (None, l)
not_probing Idle l other = refl
not_probing (Probing requester grow) l other = absurd (other requester grow refl)
not_probing (Granted hart) l other = refl

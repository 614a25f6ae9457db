-- What each message keeps of an entry's soundness.
use Rattle.std.proofs.Common.{◌≡◌, ◌≢◌, ℕ, ◌<◌, ◌≤◌, Bool, true, false, not, ◌&&◌, ◌||◌, nat_eq, List, [], refl, sym, ap, ◌∙◌, subst, arith, inl, inr, ◌⊎◌, Option, Some, None}
use Rattle.std.specs.Prelude.{if◌then◌else◌}
use Rattle.std.proofs.lemmas.Bool.{cases_eq, cases_lt}
use Rattle.tl_types.specs.declared.permission.Perm.{Perm}
use Rattle.tl_types.specs.declared.permission.Perm.TheVariants.{Nothing, Branch, Trunk}
use Rattle.tl_types.specs.declared.permission.Grow.{Grow}
use Rattle.tl_types.specs.declared.permission.Grow.TheVariants.{NtoB, NtoT, BtoT}
use Rattle.tl_types.specs.declared.permission.Change.{Change}
use Rattle.tl_types.specs.Permission.{left_by}
use Rattle.directory.specs.declared.answer.Transaction.{Transaction}
use Rattle.directory.specs.declared.answer.Transaction.TheVariants.{Idle, Probing, Granted}
use Rattle.directory.specs.declared.entry.Entry.{Entry}
use Rattle.directory.specs.Harts.{has, harts_below}
use Rattle.directory.specs.Lines.{conflicts}
use Rattle.directory.specs.Entries.{is_owner, perm_of, other_than, owner_after, IsNoted, OwnerBelow, is_asked_back, TransactionFits, IsSoundEntry}
use Rattle.directory.proofs.Masks.{stays, none_added, without}
use Rattle.directory.proofs.Sets.{has-harts_below, has-harts_below_out}

pub owner-below : (harts : ℕ) (owner : Option ℕ) (h : ℕ) → OwnerBelow harts owner → OwnerBelow harts (other_than owner h)
owner-below harts None h below = tt
owner-below harts (Some one) h below = go (nat_eq one h)
  where
    go : (b : Bool) → OwnerBelow harts (if b then None else Some one)
    go true = tt
    go false = below

-- a hart whose record isn't there
pub perm_of-none : (harts : ℕ) (e : Entry) (h : ℕ) → IsSoundEntry harts e → harts ≤ h → perm_of e h ≡ Nothing
perm_of-none harts e h sound l =
    let owner_is : is_owner e.owner h ≡ false = go e.owner sound.owner in
    rw (owner_is, sound.sharers h l) refl
  where
    go : (owner : Option ℕ) → OwnerBelow harts owner → is_owner owner h ≡ false
    go None below = refl
    go (Some one) below = grind (arith, below, l)

pub sound-eight : (harts : ℕ) (e : Entry) → IsSoundEntry harts e → harts ≤ 8 → IsSoundEntry 8 e
sound-eight harts e sound few = record {
  sharers = λ h l. sound.sharers h (omega arith);
  awaited = λ h l. sound.awaited h (omega arith);
  owner = own e.owner sound.owner;
  transaction = fits e.transaction sound.transaction;
}
  where
    own : (owner : Option ℕ) → OwnerBelow harts owner → OwnerBelow 8 owner
    own None below = tt
    own (Some one) below = omega arith

    fits : (t : Transaction) → TransactionFits harts t e.owner e.awaited → TransactionFits 8 t e.owner e.awaited
    fits Idle f = tt
    fits (Probing requester grow) f = (omega arith, f.1)
    fits (Granted h) f = tt

asked_after : (harts : ℕ) (owner : Option ℕ) (awaited : List ℕ) (h requester : ℕ) → harts ≤ 8 → OwnerBelow harts owner → is_asked_back owner awaited requester ≡ true → is_asked_back (other_than owner h) (without awaited h) requester ≡ true
asked_after harts None awaited h requester few below asked = refl
asked_after harts (Some one) awaited h requester few below asked = go (cases_eq one h)
  where
    go : (one ≡ h) ⊎ (one ≢ h) → is_asked_back (other_than (Some one) h) (without awaited h) requester ≡ true
    go (inl e_is) = let same : nat_eq one h ≡ true = grind (arith, e_is) in rw same refl
    go (inr d) =
        let off : nat_eq one h ≡ false = grind (arith, d) in
        let kept : has (without awaited h) one ≡ has awaited one = stays awaited h one (omega arith) d in
        rw (off, kept) asked

pub sound-acknowledged : (harts : ℕ) (e later : Entry) (h : ℕ) (change : Change) (w : List ℕ) → IsNoted e later h (left_by change) → w ≡ harts_below 8 (λ i. not (nat_eq i h) && has later.awaited i) → left_by change ≢ Trunk → h < harts → harts ≤ 8 → IsSoundEntry harts e → IsSoundEntry harts (record later { awaited = w })
sound-acknowledged harts e later h change w n w_is shrinks l few sound = record {
  sharers = λ i u. n.sharers i (λ e_is. absurd (omega arith)) (sound.sharers i u);
  awaited = λ i u. ap (λ s. has s i) awaited_is ∙ none_added e.awaited h i (sound.awaited i u);
  owner = subst (OwnerBelow harts) (sym owner_is) (owner-below harts e.owner h sound.owner);
  transaction = subst (λ t. TransactionFits harts t later.owner w) (sym n.transaction) (fits e.transaction sound.transaction);
}
  where
    awaited_is : w ≡ without e.awaited h
    awaited_is = w_is ∙ ap (λ s. without s h) n.awaited

    shrunk : (p : Perm) → p ≢ Trunk → owner_after e.owner h p ≡ other_than e.owner h
    shrunk Nothing d = refl
    shrunk Branch d = refl
    shrunk Trunk d = absurd (d refl)

    owner_is : later.owner ≡ other_than e.owner h
    owner_is = n.owner ∙ shrunk (left_by change) shrinks

    fits : (t : Transaction) → TransactionFits harts t e.owner e.awaited → TransactionFits harts t later.owner w
    fits Idle f = tt
    fits (Probing requester grow) f = (f.0, ap (λ o. is_asked_back o w requester) owner_is ∙ ap (λ s. is_asked_back (other_than e.owner h) s requester) awaited_is ∙ asked_after harts e.owner e.awaited h requester few sound.owner f.1)
    fits (Granted hart) f = tt

-- whom a Probe goes to, and what follows where that is nobody
abbrev pub in_the_way : Entry → ℕ → Grow → List ℕ
in_the_way e requester grow = harts_below 8 (λ h. not (nat_eq h requester) && conflicts grow (perm_of e h))

conflicts-Trunk : (grow : Grow) → conflicts grow Trunk ≡ true
conflicts-Trunk NtoB = refl
conflicts-Trunk NtoT = refl
conflicts-Trunk BtoT = refl

conflicts-Nothing : (grow : Grow) → conflicts grow Nothing ≡ false
conflicts-Nothing NtoB = refl
conflicts-Nothing NtoT = refl
conflicts-Nothing BtoT = refl

owner_in_the_way : (e : Entry) (requester : ℕ) (grow : Grow) (one : ℕ) → e.owner ≡ Some one → one < 8 → one ≢ requester → has (in_the_way e requester grow) one ≡ true
owner_in_the_way e requester grow one owned l d =
    let off : nat_eq one requester ≡ false = grind (arith, d) in
    let same : nat_eq one one ≡ true = grind arith in
    let perm_is : perm_of e one ≡ Trunk = ap (λ o. if is_owner o one then Trunk else if has e.sharers one then Branch else Nothing) owned ∙ ap (λ b. if b then Trunk else if has e.sharers one then Branch else Nothing) same in
    has-harts_below 8 _ one l ∙ ap (λ b. not b && conflicts grow (perm_of e one)) off ∙ ap (conflicts grow) perm_is ∙ conflicts-Trunk grow

pub asked-in_the_way : (e : Entry) (requester : ℕ) (grow : Grow) → OwnerBelow 8 e.owner → is_asked_back e.owner (in_the_way e requester grow) requester ≡ true
asked-in_the_way e requester grow below = go e.owner refl below
  where
    or_true : (b : Bool) → (b || true) ≡ true
    or_true true = refl
    or_true false = refl

    go : (owner : Option ℕ) → e.owner ≡ owner → OwnerBelow 8 owner → is_asked_back owner (in_the_way e requester grow) requester ≡ true
    go None owned b = refl
    go (Some one) owned b = at (cases_eq one requester)
      where
        at : (one ≡ requester) ⊎ (one ≢ requester) → (nat_eq one requester || has (in_the_way e requester grow) one) ≡ true
        at (inl e_is) = let same : nat_eq one requester ≡ true = grind (arith, e_is) in rw same refl
        at (inr d) = rw (owner_in_the_way e requester grow one owned b d) (or_true (nat_eq one requester))

-- no other owner is left where none is awaited
pub alone : (owner : Option ℕ) (awaited : List ℕ) (requester : ℕ) → is_asked_back owner awaited requester ≡ true → awaited ≡ [] → other_than owner requester ≡ None
alone None awaited requester asked none = refl
alone (Some one) awaited requester asked none = go (nat_eq one requester) (ap (λ s. is_asked_back (Some one) s requester) (sym none) ∙ asked)
  where
    go : (b : Bool) → (b || false) ≡ true → (if b then None else Some one) ≡ None
    go true e_is = refl
    go false e_is = cc

pub sound-probing : (harts : ℕ) (e : Entry) (requester : ℕ) (grow : Grow) (w : List ℕ) → w ≡ in_the_way e requester grow → requester < harts → harts ≤ 8 → IsSoundEntry harts e → IsSoundEntry harts (record e { awaited = w; transaction = Probing requester grow })
sound-probing harts e requester grow w w_is l few sound = record {
  sharers = sound.sharers;
  awaited = λ h u. ap (λ s. has s h) w_is ∙ out h u (cases_lt h 8);
  owner = sound.owner;
  transaction = (l, ap (λ s. is_asked_back e.owner s requester) w_is ∙ asked-in_the_way e requester grow (sound-eight harts e sound few).owner);
}
  where
    and_false : (b : Bool) → (b && false) ≡ false
    and_false true = refl
    and_false false = refl

    out : (h : ℕ) → harts ≤ h → (h < 8) ⊎ (8 ≤ h) → has (in_the_way e requester grow) h ≡ false
    out h u (inl low) = has-harts_below 8 _ h low ∙ ap (λ p. not (nat_eq h requester) && conflicts grow p) (perm_of-none harts e h sound u) ∙ ap (λ b. not (nat_eq h requester) && b) (conflicts-Nothing grow) ∙ and_false (not (nat_eq h requester))
    out h u (inr high) = has-harts_below_out 8 _ h high

pub requester-below : (harts : ℕ) (e : Entry) (requester : ℕ) (grow : Grow) → IsSoundEntry harts e → e.transaction ≡ Probing requester grow → (requester < harts) × (is_asked_back e.owner e.awaited requester ≡ true)
requester-below harts e requester grow sound is = subst (λ t. TransactionFits harts t e.owner e.awaited) is sound.transaction

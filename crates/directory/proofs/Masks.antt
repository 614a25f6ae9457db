-- One hart's bit in an entry's masks, and the owner beside them.
use Rattle.std.proofs.Common.{◌≡◌, ◌≢◌, ℕ, ◌<◌, ◌≤◌, Bool, true, false, not, ◌&&◌, ◌||◌, nat_eq, List, [], refl, sym, ap, ◌∙◌, arith, inl, inr, ◌⊎◌, Option, Some, None}
use Rattle.std.specs.Prelude.{if◌then◌else◌}
use Rattle.std.proofs.lemmas.Bool.{cases_eq, cases_lt}
use Rattle.tl_types.specs.declared.permission.Perm.{Perm}
use Rattle.tl_types.specs.declared.permission.Perm.TheVariants.{Nothing, Branch, Trunk}
use Rattle.tl_types.specs.declared.permission.Grow.{Grow}
use Rattle.tl_types.specs.declared.permission.Grow.TheVariants.{NtoB, NtoT, BtoT}
use Rattle.directory.specs.declared.entry.Entry.{Entry}
use Rattle.directory.specs.Harts.{has, harts_below}
use Rattle.directory.specs.Lines.{conflicts}
use Rattle.directory.specs.Entries.{is_owner, perm_of, other_than, IsNoted}
use Rattle.directory.proofs.Sets.{has-harts_below, has-harts_below_out}

-- a set without a hart, and with one
abbrev pub without : List ℕ → ℕ → List ℕ
without xs hart = harts_below 8 (λ h. not (nat_eq h hart) && has xs h)

abbrev pub with : List ℕ → ℕ → List ℕ
with xs hart = harts_below 8 (λ h. nat_eq h hart || has xs h)

pub gone : (xs : List ℕ) (hart : ℕ) → hart < 8 → has (without xs hart) hart ≡ false
gone xs hart l =
    let same : nat_eq hart hart ≡ true = grind arith in
    has-harts_below 8 _ hart l ∙ ap (λ b. not b && has xs hart) same

pub stays : (xs : List ℕ) (hart i : ℕ) → i < 8 → i ≢ hart → has (without xs hart) i ≡ has xs i
stays xs hart i l d =
    let off : nat_eq i hart ≡ false = grind (arith, d) in
    has-harts_below 8 _ i l ∙ ap (λ b. not b && has xs i) off

and_false : (b : Bool) → (b && false) ≡ false
and_false true = refl
and_false false = refl

pub none_added : (xs : List ℕ) (hart i : ℕ) → has xs i ≡ false → has (without xs hart) i ≡ false
none_added xs hart i absent = go (cases_lt i 8)
  where
    go : (i < 8) ⊎ (8 ≤ i) → has (without xs hart) i ≡ false
    go (inl l) = has-harts_below 8 _ i l ∙ ap (λ b. not (nat_eq i hart) && b) absent ∙ and_false (not (nat_eq i hart))
    go (inr l) = has-harts_below_out 8 _ i l

pub came : (xs : List ℕ) (hart : ℕ) → hart < 8 → has (with xs hart) hart ≡ true
came xs hart l =
    let same : nat_eq hart hart ≡ true = grind arith in
    has-harts_below 8 _ hart l ∙ ap (λ b. b || has xs hart) same

pub was : (xs : List ℕ) (hart i : ℕ) → i < 8 → i ≢ hart → has (with xs hart) i ≡ has xs i
was xs hart i l d =
    let off : nat_eq i hart ≡ false = grind (arith, d) in
    has-harts_below 8 _ i l ∙ ap (λ b. b || has xs i) off

pub one_added : (xs : List ℕ) (hart i : ℕ) → i ≢ hart → has xs i ≡ false → has (with xs hart) i ≡ false
one_added xs hart i d absent = go (cases_lt i 8)
  where
    go : (i < 8) ⊎ (8 ≤ i) → has (with xs hart) i ≡ false
    go (inl l) = was xs hart i l d ∙ absent
    go (inr l) = has-harts_below_out 8 _ i l

pub is_owner-gone : (owner : Option ℕ) (hart : ℕ) → is_owner (other_than owner hart) hart ≡ false
is_owner-gone None hart = refl
is_owner-gone (Some one) hart = go (nat_eq one hart) refl
  where
    go : (b : Bool) → nat_eq one hart ≡ b → is_owner (if b then None else Some one) hart ≡ false
    go true e = refl
    go false e = e

pub is_owner-stays : (owner : Option ℕ) (hart i : ℕ) → i ≢ hart → is_owner (other_than owner hart) i ≡ is_owner owner i
is_owner-stays None hart i d = refl
is_owner-stays (Some one) hart i d = go (cases_eq one hart)
  where
    go : (one ≡ hart) ⊎ (one ≢ hart) → is_owner (other_than (Some one) hart) i ≡ nat_eq one i
    go (inl e) =
        let same : nat_eq one hart ≡ true = grind (arith, e) in
        let off : nat_eq one i ≡ false = grind (arith, e, d) in
        rw (same, off) refl
    go (inr n) =
        let off : nat_eq one hart ≡ false = grind (arith, n) in
        rw off refl

abbrev shown : Bool → Bool → Perm
shown owner sharer = if owner then Trunk else if sharer then Branch else Nothing

abbrev either : Bool → Perm → Perm → Perm
either b x y = if b then x else y

perms_after : (e later : Entry) (hart : ℕ) (perm : Perm) (h : ℕ) → (perm_of later hart ≡ perm) → (h ≢ hart → perm_of later h ≡ perm_of e h) → perm_of later h ≡ (if nat_eq h hart then perm else perm_of e h)
perms_after e later hart perm h here others = go (cases_eq h hart)
  where
    go : (h ≡ hart) ⊎ (h ≢ hart) → perm_of later h ≡ (if nat_eq h hart then perm else perm_of e h)
    go (inl e_is) =
        let same : nat_eq h hart ≡ true = grind (arith, e_is) in
        ap (perm_of later) e_is ∙ here ∙ sym (ap (λ b. either b perm (perm_of e h)) same)
    go (inr d) =
        let off : nat_eq h hart ≡ false = grind (arith, d) in
        others d ∙ sym (ap (λ b. either b perm (perm_of e h)) off)

pub noted_nothing : (e : Entry) (hart : ℕ) → hart < 8 → IsNoted e (record e { sharers = without e.sharers hart; owner = other_than e.owner hart }) hart Nothing
noted_nothing e hart l = record {
  perms = λ h u. perms_after e (record e { sharers = without e.sharers hart; owner = other_than e.owner hart }) hart Nothing h
      (rw (is_owner-gone e.owner hart, gone e.sharers hart l) refl)
      (λ d. rw (is_owner-stays e.owner hart h d, stays e.sharers hart h u d) refl);
  sharers = λ h d absent. none_added e.sharers hart h absent;
  owner = refl;
  awaited = refl;
  transaction = refl;
}

pub noted_branch : (e : Entry) (hart : ℕ) → hart < 8 → IsNoted e (record e { sharers = with e.sharers hart; owner = other_than e.owner hart }) hart Branch
noted_branch e hart l = record {
  perms = λ h u. perms_after e (record e { sharers = with e.sharers hart; owner = other_than e.owner hart }) hart Branch h
      (rw (is_owner-gone e.owner hart, came e.sharers hart l) refl)
      (λ d. rw (is_owner-stays e.owner hart h d, was e.sharers hart h u d) refl);
  sharers = λ h d absent. one_added e.sharers hart h d absent;
  owner = refl;
  awaited = refl;
  transaction = refl;
}

pub noted_trunk : (e : Entry) (hart : ℕ) → hart < 8 → other_than e.owner hart ≡ None → IsNoted e (record e { sharers = without e.sharers hart; owner = Some hart }) hart Trunk
noted_trunk e hart l alone = record {
  perms = λ h u. perms_after e (record e { sharers = without e.sharers hart; owner = Some hart }) hart Trunk h
      (let same : nat_eq hart hart ≡ true = grind arith in rw same refl)
      (λ d.
      let off : nat_eq hart h ≡ false = grind (arith, d) in
      let none : is_owner e.owner h ≡ false = sym (is_owner-stays e.owner hart h d) ∙ ap (λ o. is_owner o h) alone in
      rw (off, none, stays e.sharers hart h u d) refl);
  sharers = λ h d absent. none_added e.sharers hart h absent;
  owner = refl;
  awaited = refl;
  transaction = refl;
}

-- whose records are in the way
turned : (a b : ℕ) → nat_eq a b ≡ nat_eq b a
turned a b = grind arith

pub reading : (e : Entry) (one : ℕ) → e.owner ≡ Some one → (h : ℕ) → h < 8 → has (with [] one) h ≡ conflicts NtoB (perm_of e h)
reading e one owned h l =
    has-harts_below 8 _ h l ∙ go (nat_eq h one) (nat_eq one h) (turned h one) (has e.sharers h)
    ∙ ap (λ o. conflicts NtoB (shown (is_owner o h) (has e.sharers h))) (sym owned)
  where
    go : (a b : Bool) → a ≡ b → (s : Bool) → (a || false) ≡ conflicts NtoB (shown b s)
    go true true e_is s = refl
    go true false e_is s = cc
    go false true e_is s = cc
    go false false e_is true = refl
    go false false e_is false = refl

pub writing : (e : Entry) (grow : Grow) (one : ℕ) → grow ≢ NtoB → e.owner ≡ Some one → (h : ℕ) → h < 8 → has (with e.sharers one) h ≡ conflicts grow (perm_of e h)
writing e grow one other owned h l =
    has-harts_below 8 _ h l ∙ go grow other (nat_eq h one) (nat_eq one h) (turned h one) (has e.sharers h)
    ∙ ap (λ o. conflicts grow (shown (is_owner o h) (has e.sharers h))) (sym owned)
  where
    go : (grow : Grow) → grow ≢ NtoB → (a b : Bool) → a ≡ b → (s : Bool) → (a || s) ≡ conflicts grow (shown b s)
    go NtoB other a b e_is s = absurd (other refl)
    go NtoT other true true e_is s = refl
    go NtoT other true false e_is s = cc
    go NtoT other false true e_is s = cc
    go NtoT other false false e_is true = refl
    go NtoT other false false e_is false = refl
    go BtoT other true true e_is s = refl
    go BtoT other true false e_is s = cc
    go BtoT other false true e_is s = cc
    go BtoT other false false e_is true = refl
    go BtoT other false false e_is false = refl

pub sharing : (e : Entry) (grow : Grow) → grow ≢ NtoB → e.owner ≡ None → (h : ℕ) → has e.sharers h ≡ conflicts grow (perm_of e h)
sharing e grow other owned h = go grow other (has e.sharers h) ∙ ap (λ o. conflicts grow (shown (is_owner o h) (has e.sharers h))) (sym owned)
  where
    go : (grow : Grow) → grow ≢ NtoB → (s : Bool) → s ≡ conflicts grow (shown false s)
    go NtoB other s = absurd (other refl)
    go NtoT other true = refl
    go NtoT other false = refl
    go BtoT other true = refl
    go BtoT other false = refl

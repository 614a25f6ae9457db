-- What holds of one line at every moment, over the sides of all harts, and that each act keeps it.
use Rattle.std.proofs.Common.{ℕ, Bool, true, false, List, ◌≡◌, Option, Some, None, refl, ap, sym, ◌∙◌, subst}
use Rattle.std.specs.Prelude.{◌≢◌, ◌==◌, if◌then◌else◌}
use Rattle.std.proofs.lemmas.Bool.Decides.{eqb_tells}
use Rattle.std.proofs.lemmas.Bool.{eqb-true, eq-eqb}
use mathlib.Core.Logic.{◌⊎◌, inl, inr}
use Rattle.client_cache.specs.Held.{perm_of}
use Rattle.directory.specs.declared.answer.Transaction.{Transaction}
use Rattle.directory.specs.declared.answer.Transaction.TheVariants.{Idle, Probing, Granted}
use Rattle.directory.specs.Lines.{conflicts}
use Rattle.machine_model.specs.Deliveries.{is_trunk}
use Rattle.machine_model.proofs.coherence.LineStands.{Side, wrote, probe, given, Part, Alone, Probed, Asking, Taking, Holds, Asks, Leaves, Left, Waits, Stands, Lowers, owes, Moves, Takes, not_conflicting, is_writer, noted_writer, owes_nothing, write_stands, elsewhere, probe_stands, give_stands, rest_stands}
use Rattle.tl_types.specs.Permission.{granted_for, named_by}
use Rattle.tl_types.specs.declared.line.LineData.{LineData}
use Rattle.tl_types.specs.declared.message.Body.{Body}
use Rattle.tl_types.specs.declared.permission.Grow.{Grow}
use Rattle.tl_types.specs.declared.permission.Grow.TheVariants.{NtoB, NtoT, BtoT}
use Rattle.tl_types.specs.declared.permission.Perm.{Perm}
use Rattle.tl_types.specs.declared.permission.Perm.TheVariants.{Nothing, Branch, Trunk}

-- the part that a transaction gives a hart
abbrev pub part_of : Transaction → ℕ → Part
part_of Idle h = Alone
part_of (Probing r g) h = if h == r then Asking g else Probed g
part_of (Granted r) h = if h == r then Taking else Alone

-- each side stands in one of its states; where one record is Trunk, the others are Nothing; and where nobody owes data, memory has what was written last
pub record IsKept (f : ℕ → Side) (memory : LineData) (t : Transaction) (last : LineData) : Type 0 where
  pub stands : (h : ℕ) → Stands last (part_of t h) (f h)
  pub apart : (i j : ℕ) → i ≢ j → (f i).noted ≡ Trunk → (f j).noted ≡ Nothing
  pub home : ((h : ℕ) → owes (f h) ≡ false) → memory ≡ last

-- one hart's side becomes this
pub record Changed (f k : ℕ → Side) (h : ℕ) (y : Side) : Type 0 where
  pub here : k h ≡ y
  pub there : (j : ℕ) → j ≢ h → k j ≡ f j

abbrev pub stored : LineData → Option LineData → LineData
stored memory None = memory
stored memory (Some bytes) = bytes

pub not_eq : (j h : ℕ) → j ≢ h → (j == h) ≡ false
not_eq j h ne = go (eqb_tells j h)
  where
    go : (((j == h) ≡ true) × (j ≡ h)) ⊎ (((j == h) ≡ false) × (j ≡ h → ⊥)) → (j == h) ≡ false
    go (inl e) = absurd (ne e.1)
    go (inr e) = e.0

pub split : (P : ℕ → Type 0) (h : ℕ) → P h → ((j : ℕ) → j ≢ h → P j) → (j : ℕ) → P j
split P h here there j = go (eqb_tells j h)
  where
    go : (((j == h) ≡ true) × (j ≡ h)) ⊎ (((j == h) ≡ false) × (j ≡ h → ⊥)) → P j
    go (inl e) = subst P (sym e.1) here
    go (inr e) = there j e.1

each : (P : ℕ → Side → Type 0) (f k : ℕ → Side) (h : ℕ) (y : Side) → Changed f k h y → P h y → ((j : ℕ) → j ≢ h → P j (f j)) → (j : ℕ) → P j (k j)
each P f k h y c here others = split (λ j. P j (k j)) h (rw c.here here) (λ j ne. rw (c.there j ne) (others j ne))

same_lowers : {p q : Perm} → q ≡ p → Lowers p q
same_lowers e = record { writer = λ f. sym e ∙ f; none = λ f. e ∙ f }

lowered : (f k : ℕ → Side) → ((i j : ℕ) → i ≢ j → (f i).noted ≡ Trunk → (f j).noted ≡ Nothing) → ((j : ℕ) → Lowers (f j).noted (k j).noted) → (i j : ℕ) → i ≢ j → (k i).noted ≡ Trunk → (k j).noted ≡ Nothing
lowered f k apart lowers i j ne e = (lowers j).none (apart i j ne ((lowers i).writer e))

pub taking_granted : (t : Transaction) (h : ℕ) → part_of t h ≡ Taking → t ≡ Granted h
taking_granted Idle h e = cc e
taking_granted (Probing r g) h e = go (h == r) e
  where
    go : (b : Bool) → (if b then Asking g else Probed g) ≡ Taking → Probing r g ≡ Granted h
    go true e = cc e
    go false e = cc e
taking_granted (Granted r) h e = go (h == r) refl e
  where
    go : (b : Bool) → (h == r) ≡ b → (if b then Taking else Alone) ≡ Taking → Granted r ≡ Granted h
    go true f e = ap Granted (sym (eqb-true h r f))
    go false f e = cc e

asking_reader : {last : LineData} {x : Side} {g : Grow} → Stands last (Asking g) x → is_trunk x.noted ≡ false
asking_reader (Waits g copy is reader) = reader
asking_reader (Holds _ copy by is) = elim by [ ]
asking_reader (Asks _ copy h by is reader) = elim by [ ]
asking_reader (Leaves _ from change carried by is) = elim by [ ]
asking_reader (Left _ by) = elim by [ ]

passed_over : {last : LineData} {x : Side} {g : Grow} → Stands last (Probed g) x → x.awaited ≡ false → conflicts g x.noted ≡ false
passed_over (Holds part copy by is) e = by
passed_over (Asks part copy h by is reader) e = by
passed_over (Leaves part from change carried by is) e = by
passed_over (Left part by) e = by
passed_over _ e = cc e

granted_writer : (g : Grow) (p : Perm) → conflicts g p ≡ false → named_by (granted_for g) ≡ Trunk → p ≡ Nothing
granted_writer NtoB p e f = cc f
granted_writer NtoT Nothing e f = refl
granted_writer NtoT Branch e f = cc e
granted_writer NtoT Trunk e f = cc e
granted_writer BtoT Nothing e f = refl
granted_writer BtoT Branch e f = cc e
granted_writer BtoT Trunk e f = cc e

module _ (f k : ℕ → Side) (m : LineData) (t : Transaction) (last : LineData) (i : IsKept f m t last) where
  -- the same at each hart
  pub same : ((j : ℕ) → k j ≡ f j) → IsKept k m t last
  same e = record {
    stands = λ j. rw (e j) (i.stands j);
    apart = lowered f k i.apart (λ j. same_lowers (ap (λ (x : Side). x.noted) (e j)));
    home = λ none. i.home (λ j. sym (ap owes (e j)) ∙ none j);
  }

  -- one hart acts alone
  pub moved : (h : ℕ) (y : Side) → Changed f k h y → Moves last (part_of t h) (f h) y → IsKept k m t last
  moved h y c mv = record {
    stands = each (λ j x. Stands last (part_of t j) x) f k h y c mv.stands (λ j ne. i.stands j);
    apart = lowered f k i.apart (each (λ j x. Lowers (f j).noted x.noted) f k h y c (same_lowers mv.noted) (λ j ne. same_lowers refl));
    home = λ none. i.home (λ j. sym (each (λ j x. owes x ≡ owes (f j)) f k h y c mv.owes (λ j ne. refl) j) ∙ none j);
  }

  -- the manager takes a message of channel C
  pub took : (h : ℕ) (y : Side) (carried : Option LineData) → Changed f k h y → Takes last (part_of t h) (f h) y carried → IsKept k (stored m carried) t last
  took h y carried c takes = record {
    stands = each (λ j x. Stands last (part_of t j) x) f k h y c takes.stands (λ j ne. i.stands j);
    apart = lowered f k i.apart (each (λ j x. Lowers (f j).noted x.noted) f k h y c takes.lowers (λ j ne. same_lowers refl));
    home = home carried takes.stored takes.nothing;
  }
    where
      home : (carried : Option LineData) → ((bytes : LineData) → carried ≡ Some bytes → bytes ≡ last) → (carried ≡ None → owes y ≡ owes (f h)) → ((j : ℕ) → owes (k j) ≡ false) → stored m carried ≡ last
      home (Some bytes) is nothing none = is bytes refl
      home None is nothing none = i.home (λ j. sym (each (λ j x. owes x ≡ owes (f j)) f k h y c (nothing refl) (λ j ne. refl) j) ∙ none j)

  -- the writer writes
  pub written : (h : ℕ) (v : LineData) → Changed f k h (wrote (f h) v) → is_trunk (perm_of (f h).copy) ≡ true → IsKept k m t v
  written h v c e = record {
    stands = each (λ j x. Stands v (part_of t j) x) f k h _ c (write_stands v (i.stands h) e) (λ j ne. elsewhere v (i.stands j) (i.apart h j (λ q. ne (sym q)) (noted_writer (i.stands h) (is_writer _ e))));
    apart = lowered f k i.apart (each (λ j x. Lowers (f j).noted x.noted) f k h _ c (same_lowers refl) (λ j ne. same_lowers refl));
    home = λ none. let owed : owes (k h) ≡ true = rw c.here refl in cc (owed, none h);
  }

  -- the GrantAck ends the transaction
  pub ended : (h : ℕ) (rest : List Body) → Changed f k h (record (f h) { e = rest }) → part_of t h ≡ Taking → Stands last Alone (record (f h) { e = rest }) → IsKept k m Idle last
  ended h rest c p stands = record {
    stands = each (λ j x. Stands last Alone x) f k h _ c stands others;
    apart = lowered f k i.apart (each (λ j x. Lowers (f j).noted x.noted) f k h _ c (same_lowers refl) (λ j ne. same_lowers refl));
    home = λ none. i.home (λ j. sym (each (λ j x. owes x ≡ owes (f j)) f k h _ c refl (λ j ne. refl) j) ∙ none j);
  }
    where
      others : (j : ℕ) → j ≢ h → Stands last Alone (f j)
      others j ne =
          let q : part_of (Granted h) j ≡ Alone = rw (not_eq j h ne) refl in
          subst (λ p. Stands last p (f j)) (ap (λ t. part_of t j) (taking_granted t h p) ∙ q) (i.stands j)

-- an Acquire is taken, and the others are probed
pub probing : (f k : ℕ → Side) (m last : LineData) (i : IsKept f m Idle last) (h : ℕ) (g : Grow) (rest : List Body) → k h ≡ record (f h) { a = rest } → Stands last (Asking g) (record (f h) { a = rest }) → ((j : ℕ) → j ≢ h → k j ≡ probe g (f j)) → IsKept k m (Probing h g) last
probing f k m last i h g rest here asks there = record {
  stands = split (λ j. Stands last (part_of (Probing h g) j) (k j)) h (rw (eq-eqb h h refl, here) asks) (λ j ne. rw (not_eq j h ne, there j ne) (probe_stands g (i.stands j)));
  apart = lowered f k i.apart (split (λ j. Lowers (f j).noted (k j).noted) h (same_lowers (ap (λ (x : Side). x.noted) here)) (λ j ne. same_lowers (ap (λ (x : Side). x.noted) (there j ne))));
  home = λ none. i.home (λ j. sym (split (λ j. owes (k j) ≡ owes (f j)) h (ap owes here) (λ j ne. ap owes (there j ne)) j) ∙ none j);
}

-- nobody is awaited: the Grant is sent
pub granted : (f k : ℕ → Side) (m last : LineData) (r : ℕ) (g : Grow) (i : IsKept f m (Probing r g) last) → ((j : ℕ) → (f j).awaited ≡ false) → Changed f k r (given (f r) g m) → IsKept k m (Granted r) last
granted f k m last r g i awaited c = record {
  stands = each (λ j x. Stands last (part_of (Granted r) j) x) f k r _ c (rw (eq-eqb r r refl) (give_stands g m waits home)) (λ j ne. rw (not_eq j r ne) (rest_stands g (other j ne) (awaited j)));
  apart = λ a b ne e. apart a b ne e (eqb_tells a r);
  home = λ _. home;
}
  where
    waits : Stands last (Asking g) (f r)
    waits = let e : part_of (Probing r g) r ≡ Asking g = rw (eq-eqb r r refl) refl in subst (λ p. Stands last p (f r)) e (i.stands r)

    other : (j : ℕ) → j ≢ r → Stands last (Probed g) (f j)
    other j ne = let e : part_of (Probing r g) j ≡ Probed g = rw (not_eq j r ne) refl in subst (λ p. Stands last p (f j)) e (i.stands j)

    probed : (j : ℕ) → j ≢ r → conflicts g (f j).noted ≡ false
    probed j ne = passed_over (other j ne) (awaited j)

    home : m ≡ last
    home = i.home (split (λ j. owes (f j) ≡ false) r (owes_nothing waits (asking_reader waits)) (λ j ne. owes_nothing (other j ne) (not_conflicting g (f j).noted (probed j ne))))

    apart : (a b : ℕ) → a ≢ b → (k a).noted ≡ Trunk → (((a == r) ≡ true) × (a ≡ r)) ⊎ (((a == r) ≡ false) × (a ≡ r → ⊥)) → (k b).noted ≡ Nothing
    apart a b ne e (inl q) =
        let e' : (k r).noted ≡ Trunk = subst (λ n. (k n).noted ≡ Trunk) q.1 e in
        let nb : b ≡ r → ⊥ = λ s. ne (q.1 ∙ sym s) in
        ap (λ (x : Side). x.noted) (c.there b nb) ∙ granted_writer g (f b).noted (probed b nb) (sym (ap (λ (x : Side). x.noted) c.here) ∙ e')
    apart a b ne e (inr q) = cc (ap (λ (x : Side). x.noted) (c.there a q.1), e, not_conflicting g (f a).noted (probed a q.1))

-- Each load returned its sources' bytes: what a performed operation leaves of that.
use Rattle.std.proofs.Common.{◌≡◌, ℕ, List, [], ◌∷◌, ◌++◌, Bool, true, false, Option, Some, None, refl, cond, sym, ap, ◌∙◌, subst, not, ◌&&◌, append_assoc, append-nil, arith, length, map, ◌⊎◌, inl, inr}
use Rattle.std.specs.Prelude.{nat_eq, option_and_then}
use Rattle.std.specs.List.{AllByRecursion as Each, filter, list_any, last_or}
use Rattle.std.proofs.lemmas.Bool.{true≢false, and_right, and_parts, or_left, or_right}
use Rattle.std.proofs.lemmas.List.Elements.{filter-append}
use Rattle.machine_model.specs.declared.act.Deed.{Deed}
use Rattle.machine_model.specs.declared.act.Deed.TheVariants as deed
use Rattle.machine_model.specs.Words.{word_of}
use Rattle.machine_model.proofs.order.Kept.{joined, of_word, IsWaiting, IsBelow, get_new}
use Rattle.machine_model.proofs.order.Lists.{Each-always, filter-filter, last_or-append, byte_from-later, candidates-append, others}
use Rattle.machine_model.proofs.order.Rules.{precedes_not, precedes_yes, touches_word}
use Rattle.machine_model.proofs.order.Split.{absent, gave_at, ops_of, new_name, split_store, split_at_once, split_item}
use Rattle.machine_model.proofs.order.Steps.{HartKept, Performs, names_by}
use Rattle.machine_types.specs.declared.model.MemoryModel.{MemoryModel}
use Rattle.memory_model.specs.declared.operation.Operation.{Operation}
use Rattle.memory_model.specs.Items.{Item}
use Rattle.memory_model.specs.Operations.{reads, writes, same, precedes, touches, stores_to, read_at}
use Rattle.memory_model.specs.Order.{source, last_of, byte_from, last_write, candidates}
use Rattle.memory_model.specs.Verdict.{name_of}
use Rattle.memory_model.proofs.Forms.{same-self, same-swap, candidates-behind}
use Rattle.memory_model.proofs.Lists.{Each-append, Each-left, Each-right, Each-weaker, Each-both, Each-kept, filter_same, filter_none}
use Rattle.store_buffer.specs.Groups.{Groups}
use Rattle.trace_recorder.specs.declared.operation.OpId.{OpId}

-- each byte that an operation of this hart read is that of its source
pub record IsRight (image : ℕ → ℕ) (h : ℕ) (order : List Operation) (i : Operation) : Type 0 where
  pub right : i.hart ≡ h → reads i.kind ≡ true → (x : ℕ) → touches x i ≡ true → read_at i x ≡ byte_from image x (source order i x)

-- the operations of a list that aren't performed
abbrev pub waits : List Item → List Operation → List Operation
waits items performed = filter (absent performed) (ops_of items)

-- the stores to x behind the performed ones that precede the load
abbrev pub theirs : Operation → ℕ → Operation → Bool
theirs i x t = stores_to x t && precedes t i

-- ---- what a load sees stays

pub members : (xs : List Operation) → Each (λ i. list_any (λ s. same s i) xs ≡ true) xs
members [] = tt
members (x ∷ xs) = (or_left (same x x) _ (same-self x), Each-weaker (λ i. list_any (λ s. same s i) xs ≡ true) (λ i. list_any (λ s. same s i) (x ∷ xs) ≡ true) (λ i e. or_right (same x i) _ e) xs (members xs))

candidates_same : (i : Operation) (x : ℕ) (done ys zs : List Operation) → list_any (λ s. same s i) done ≡ true → filter (theirs i x) ys ≡ filter (theirs i x) zs → candidates (done ++ ys) i x ≡ candidates (done ++ zs) i x
candidates_same i x done ys zs m e = candidates-append i x done ys m ∙ (ap (λ w. candidates done i x ++ w) e ∙ sym (candidates-append i x done zs m))

-- the stores that a load sees behind the performed ones are these or those
abbrev pub SeesSame : ℕ → (ys zs : List Operation) → Operation → Type 0
SeesSame h ys zs i = i.hart ≡ h → (x : ℕ) → filter (theirs i x) ys ≡ filter (theirs i x) zs

pub rights_same : (image : ℕ → ℕ) (h : ℕ) (done ys zs : List Operation) → Each (SeesSame h ys zs) done → Each (IsRight image h (done ++ ys)) done → Each (IsRight image h (done ++ zs)) done
rights_same image h done ys zs same_ones rights =
    Each-weaker (λ i. SeesSame h ys zs i × ((list_any (λ s. same s i) done ≡ true) × IsRight image h (done ++ ys) i)) (IsRight image h (done ++ zs))
    (λ i k. record { right = λ mine reading x t. k.1.1.right mine reading x t ∙ ap (λ v. byte_from image x (last_of v)) (candidates_same i x done ys zs k.1.0 (k.0 mine x)) })
    done (Each-both (SeesSame h ys zs) (λ i. (list_any (λ s. same s i) done ≡ true) × IsRight image h (done ++ ys) i) done same_ones
    (Each-both (λ i. list_any (λ s. same s i) done ≡ true) (IsRight image h (done ++ ys)) done (members done) rights))

pub rights_more : (image : ℕ → ℕ) (h : ℕ) (done out ys zs : List Operation) → Each (SeesSame h ys (out ++ zs)) done → Each (IsRight image h (done ++ (out ++ zs))) out → Each (IsRight image h (done ++ ys)) done → Each (IsRight image h ((done ++ out) ++ zs)) (done ++ out)
rights_more image h done out ys zs sees new rights =
    subst (λ order. Each (IsRight image h order) (done ++ out)) (sym (append_assoc done out zs)) (Each-append (IsRight image h (done ++ (out ++ zs))) done out (rights_same image h done ys (out ++ zs) sees rights) new)

theirs_not : (i s : Operation) (x : ℕ) → precedes s i ≡ false → theirs i x s ≡ false
theirs_not i s x e = and_right (stores_to x s) _ e

none_of : (P : Operation → Bool) (xs ys : List Operation) → Each (λ s. P s ≡ false) xs → filter P (xs ++ ys) ≡ filter P ys
none_of P xs ys h = filter-append P xs ys ∙ ap (λ v. v ++ filter P ys) (filter_none P xs h)

-- another hart's operations are performed
pub rights_foreign : (image : ℕ → ℕ) (h : ℕ) (done out ys : List Operation) → Each (λ s. s.hart ≡ h → ⊥) out → Each (IsRight image h (done ++ ys)) done → Each (IsRight image h ((done ++ out) ++ ys)) (done ++ out)
rights_foreign image h done out ys foreign rights =
    rights_more image h done out ys ys
    (Each-always (SeesSame h ys (out ++ ys)) (λ j e x. sym (none_of (theirs j x) out ys (Each-weaker (λ s. s.hart ≡ h → ⊥) (λ s. theirs j x s ≡ false) (λ s other. theirs_not j s x (precedes_not s j (λ f. absurd (other (sym f ∙ e))))) out foreign))) done)
    (Each-weaker (λ s. s.hart ≡ h → ⊥) (IsRight image h (done ++ (out ++ ys))) (λ s other. record { right = λ e r x t. absurd (other e) }) out foreign) rights

-- ---- an operation is performed as it retires

pub last_write_more : (image : ℕ → ℕ) (done more : List Operation) (x : ℕ) → last_write image (done ++ more) x ≡ byte_from (last_write image done) x (last_or None (filter (stores_to x) more))
last_write_more image done more x =
    ap (λ xs. byte_from image x (last_or None xs)) (filter-append (stores_to x) done more)
    ∙ (ap (byte_from image x) (last_or-append None (filter (stores_to x) done) (filter (stores_to x) more))
    ∙ (byte_from-later image x (last_or None (filter (stores_to x) done)) (filter (stores_to x) more) ∙ here (last_or None (filter (stores_to x) more))))
  where
    here : (o : Option Operation) → byte_from (λ y. byte_from image y (last_or None (filter (stores_to x) done))) x o ≡ byte_from (last_write image done) x o
    here None = refl
    here (Some s) = refl

and_known : (a b : Bool) → b ≡ true → (a && b) ≡ a
and_known true b e = e
and_known false b e = refl

-- what it reads of each byte: the last waiting store's, else the last performed one's
abbrev pub ReadsLast : (ℕ → ℕ) → (performed waiting : List Operation) → Operation → Type 0
ReadsLast image performed waiting i = reads i.kind ≡ true → (x : ℕ) → touches x i ≡ true → read_at i x ≡ byte_from (last_write image performed) x (last_or None (filter (stores_to x) waiting))

right_once : (image : ℕ → ℕ) (h n : ℕ) (done ys : List Operation) (i : Operation) → i.hart ≡ h → i.place ≡ n → Each (IsBelow h n) done → Each (IsBelow h n) ys → Each (IsWaiting h) ys → ReadsLast image done ys i → IsRight image h (done ++ (i ∷ ys)) i
right_once image h n done ys i mine here below_done below_ys own value = record { right = λ e r x t. value r x t ∙ (sym (last_write_more image done ys x) ∙ ap (λ v. byte_from image x (last_or None v)) (sym (sees x))) }
  where
    at_load : (x : ℕ) → candidates (i ∷ ys) i x ≡ filter (theirs i x) ys
    at_load x = ap (λ b. cond b (filter (theirs i x) ys) (cond (stores_to x i) (i ∷ candidates ys i x) (candidates ys i x))) (same-self i)

    sees : (x : ℕ) → candidates (done ++ (i ∷ ys)) i x ≡ filter (stores_to x) (done ++ ys)
    sees x =
        candidates-behind i x done (i ∷ ys) (Each-weaker (IsBelow h n) (λ s. same s i ≡ false) (λ s q. same-swap i s (new_name h n i s mine here q)) done below_done)
        ∙ (ap (λ v. filter (stores_to x) done ++ v) (at_load x ∙ filter_same (theirs i x) (stores_to x) ys
        (Each-weaker (λ t. IsWaiting h t × IsBelow h n t) (λ t. theirs i x t ≡ stores_to x t) (λ t q. let l = q.1.below q.0.own in and_known (stores_to x t) (precedes t i) (precedes_yes t i (q.0.own ∙ sym mine) (omega (arith, l, here))))
        ys (Each-both (IsWaiting h) (IsBelow h n) ys own below_ys)))
        ∙ sym (filter-append (stores_to x) done ys))

-- ---- an instruction retires

pub names_cases : (h place : ℕ) (d : Deed) → (names_by h place d ≡ []) ⊎ (names_by h place d ≡ record { hart = h; place = place } ∷ [])
names_cases h place deed.Load = inr refl
names_cases h place (deed.Lr word) = inr refl
names_cases h place (deed.Sc word value) = inr refl
names_cases h place (deed.Amo word value) = inr refl
names_cases h place deed.Private = inl refl
names_cases h place (deed.Output number) = inl refl
names_cases h place (deed.Store s) = inl refl
names_cases h place deed.Seal = inl refl
names_cases h place deed.Fail = inl refl

pub nothing_named : (out : List Operation) → map name_of out ≡ [] → out ≡ []
nothing_named [] e = refl
nothing_named (a ∷ out) e = absurd (none_here e)
  where
    none_here : (name_of a ∷ map name_of out ≡ []) → ⊥
    none_here e = cc

pub one_named : (out : List Operation) (n : OpId) → map name_of out ≡ n ∷ [] → (a : Operation) × (out ≡ a ∷ []) × (name_of a ≡ n)
one_named [] n e = absurd (none_here e)
  where
    none_here : ([] ≡ n ∷ []) → ⊥
    none_here e = cc
one_named (a ∷ []) n e = (a, refl, first_is (name_of a) n e)
  where
    first_is : (m n : OpId) → m ∷ [] ≡ n ∷ [] → m ≡ n
    first_is m n e = cc
one_named (a ∷ b ∷ out) n e = absurd (two_not (name_of a) (name_of b) n (map name_of out) e)
  where
    two_not : (m k n : OpId) (ns : List OpId) → m ∷ k ∷ ns ≡ n ∷ [] → ⊥
    two_not m k n ns e = cc

-- what a new item gives, and that it reads what it should
pub record Gives (image : ℕ → ℕ) (h n : ℕ) (performed waiting : List Operation) (a : Operation) : Type 0 where
  pub own : a.hart ≡ h
  pub here : a.place ≡ n
  pub value : ReadsLast image performed waiting a

not_theirs : (h n : ℕ) (s j : Operation) (x : ℕ) → s.place ≡ n → IsBelow h n j → j.hart ≡ h → theirs j x s ≡ false
not_theirs h n s j x here q e = let l = q.below e in theirs_not j s x (precedes_not s j (λ _. omega (arith, l, here)))

pub retire_rights : (model : MemoryModel) (image : ℕ → ℕ) (h : ℕ) (items longer : List Item) (old new : Groups) (performed : List Operation) (m : Item) (d : Deed) (names : List OpId) → longer ≡ items ++ m ∷ [] → names ≡ names_by h (length items) d
    → (k : HartKept model h items old performed) → (p : Performs model h longer new performed names) → ((a : Operation) → m.operation ≡ Some a → Gives image h (length items) performed (joined k.sealed ++ k.current) a)
    → Each (IsRight image h (performed ++ waits items performed)) performed → Each (IsRight image h ((performed ++ p.out) ++ waits longer (performed ++ p.out))) (performed ++ p.out)
retire_rights model image h items longer old new performed m d names is_longer are_names k p gives rights = subst (λ is. Each (IsRight image h ((performed ++ p.out) ++ waits is (performed ++ p.out))) (performed ++ p.out)) (sym is_longer) (go (names_cases h (length items) d))
  where
    below : Each (IsBelow h (length items)) performed
    below = Each-left (IsBelow h (length items)) performed (joined k.sealed ++ k.current) k.kept.places

    before : Each (IsRight image h (performed ++ (joined k.sealed ++ k.current))) performed
    before = subst (λ v. Each (IsRight image h (performed ++ v)) performed) k.split.waits rights

    -- nothing is performed
    still : (o : Option Operation) → m.operation ≡ o → Each (IsRight image h (performed ++ waits (items ++ m ∷ []) performed)) performed
    still None e = subst (λ v. Each (IsRight image h (performed ++ v)) performed) (sym (split_item h items (joined k.sealed ++ k.current) performed m e k.split).waits) before
    still (Some s) e =
        let g = gives s e in
        subst (λ v. Each (IsRight image h (performed ++ v)) performed) (sym (split_store h items (joined k.sealed ++ k.current) performed m s e g.own g.here below k.split).waits)
        (rights_same image h performed (joined k.sealed ++ k.current) ((joined k.sealed ++ k.current) ++ s ∷ [])
        (Each-weaker (IsBelow h (length items)) (SeesSame h (joined k.sealed ++ k.current) ((joined k.sealed ++ k.current) ++ s ∷ []))
        (λ j q mine x. sym (filter-append (theirs j x) (joined k.sealed ++ k.current) (s ∷ []) ∙ (ap (λ v. filter (theirs j x) (joined k.sealed ++ k.current) ++ v) (filter_none (theirs j x) (s ∷ []) (not_theirs h (length items) s j x g.here q mine, tt)) ∙ append-nil (filter (theirs j x) (joined k.sealed ++ k.current))))) performed below) before)

    -- its operation is
    once : (i : Operation) → m.operation ≡ Some i → Each (IsRight image h ((performed ++ i ∷ []) ++ waits (items ++ m ∷ []) (performed ++ i ∷ []))) (performed ++ i ∷ [])
    once i e =
        let g = gives i e in
        subst (λ v. Each (IsRight image h ((performed ++ i ∷ []) ++ v)) (performed ++ i ∷ [])) (sym (split_at_once h items (joined k.sealed ++ k.current) performed m i e g.own g.here k.split).waits)
        (rights_more image h performed (i ∷ []) (joined k.sealed ++ k.current) (joined k.sealed ++ k.current)
        (Each-weaker (IsBelow h (length items)) (SeesSame h (joined k.sealed ++ k.current) (i ∷ (joined k.sealed ++ k.current)))
        (λ j q mine x. sym (none_of (theirs j x) (i ∷ []) (joined k.sealed ++ k.current) (not_theirs h (length items) i j x g.here q mine, tt))) performed below)
        (right_once image h (length items) performed (joined k.sealed ++ k.current) i g.own g.here below (Each-right (IsBelow h (length items)) performed (joined k.sealed ++ k.current) k.kept.places) k.kept.waiting g.value, tt) before)

    go : (names_by h (length items) d ≡ []) ⊎ (names_by h (length items) d ≡ record { hart = h; place = length items } ∷ []) → Each (IsRight image h ((performed ++ p.out) ++ waits (items ++ m ∷ []) (performed ++ p.out))) (performed ++ p.out)
    go (inl e) =
        subst (λ out. Each (IsRight image h ((performed ++ out) ++ waits (items ++ m ∷ []) (performed ++ out))) (performed ++ out)) (sym (nothing_named p.out (p.named ∙ (are_names ∙ e))))
        (subst (λ done. Each (IsRight image h (done ++ waits (items ++ m ∷ []) done)) done) (sym (append-nil performed)) (still m.operation refl))
    go (inr e) =
        let one = one_named p.out (record { hart = h; place = length items }) (p.named ∙ (are_names ∙ e)) in
        let found = subst (Each (λ a. gave_at (items ++ m ∷ []) a.place ≡ Some a)) one.1 (subst (λ is. Each (λ a. gave_at is a.place ≡ Some a) p.out) is_longer p.found) in
        let gave : m.operation ≡ Some one.0 = sym (ap (option_and_then (λ (q : Item). q.operation)) (get_new items m one.0.place (ap (λ (n : OpId). n.place) one.2))) ∙ found.0 in
        subst (λ out. Each (IsRight image h ((performed ++ out) ++ waits (items ++ m ∷ []) (performed ++ out))) (performed ++ out)) (sym one.1) (once one.0 gave)

-- ---- a word is drained

and_absorb : (a b : Bool) → (b ≡ true → a ≡ true) → (a && b) ≡ b
and_absorb true b f = refl
and_absorb false true f = f refl
and_absorb false false f = refl

and_exclude : (a b : Bool) → (b ≡ true → a ≡ false) → (a && b) ≡ false
and_exclude true true f = f refl
and_exclude true false f = refl
and_exclude false b f = refl

filter_moved : (P p : Operation → Bool) (c : Bool) (g rest : List Operation) → Each (λ t. P t ≡ true → p t ≡ c) g → filter P (g ++ rest) ≡ filter P (filter p g ++ (others p g ++ rest))
filter_moved P p c g rest h =
    filter-append P g rest ∙ (ap (λ v. v ++ filter P rest) (parts c h) ∙ (append_assoc _ _ (filter P rest)
    ∙ sym (filter-append P (filter p g) (others p g ++ rest) ∙ ap (λ v. filter P (filter p g) ++ v) (filter-append P (others p g) rest))))
  where
    all_of : (q : Operation → Bool) → Each (λ t. P t ≡ true → q t ≡ true) g → filter P (filter q g) ≡ filter P g
    all_of q f = filter-filter q P g ∙ filter_same (λ x. q x && P x) P g (Each-weaker (λ t. P t ≡ true → q t ≡ true) (λ t. (q t && P t) ≡ P t) (λ t z. and_absorb (q t) (P t) z) g f)

    none_at : (q : Operation → Bool) → Each (λ t. P t ≡ true → q t ≡ false) g → filter P (filter q g) ≡ []
    none_at q f = filter-filter q P g ∙ filter_none (λ x. q x && P x) g (Each-weaker (λ t. P t ≡ true → q t ≡ false) (λ t. (q t && P t) ≡ false) (λ t z. and_exclude (q t) (P t) z) g f)

    parts : (c : Bool) → Each (λ t. P t ≡ true → p t ≡ c) g → filter P g ≡ filter P (filter p g) ++ filter P (others p g)
    parts true f =
        sym (append-nil (filter P g)) ∙ (ap (λ v. v ++ []) (sym (all_of p f)) ∙ ap (λ v. filter P (filter p g) ++ v) (sym (none_at (λ x. not (p x)) (Each-weaker (λ t. P t ≡ true → p t ≡ true) (λ t. P t ≡ true → not (p t) ≡ false) (λ t z e. ap (λ b. not b) (z e)) g f))))
    parts false f =
        sym (all_of (λ x. not (p x)) (Each-weaker (λ t. P t ≡ true → p t ≡ false) (λ t. P t ≡ true → not (p t) ≡ true) (λ t z e. ap (λ b. not b) (z e)) g f)) ∙ ap (λ v. v ++ filter P (others p g)) (sym (none_at p f))

-- the stores to one byte lie in one word, so they all leave or all stay
one_word : (word : ℕ) (i : Operation) (x : ℕ) (h : ℕ) (a : Operation) → IsWaiting h a → theirs i x a ≡ true → of_word word a ≡ nat_eq (word_of x) word
one_word word i x h a own e =
    let e1 = and_parts (stores_to x a) (precedes a i) e in
    let e2 = and_parts (writes a.kind) (touches x a) e1.0 in
    ap (λ v. nat_eq v word) (sym (touches_word x a own.in_word e2.1))

pub drain_rights : (image : ℕ → ℕ) (h word : ℕ) (done g rest : List Operation) → Each (IsWaiting h) g → Each (IsRight image h (done ++ (g ++ rest))) done
    → Each (IsRight image h ((done ++ filter (of_word word) g) ++ (others (of_word word) g ++ rest))) (done ++ filter (of_word word) g)
drain_rights image h word done g rest own rights =
    rights_more image h done (filter (of_word word) g) (g ++ rest) (others (of_word word) g ++ rest)
    (Each-always (SeesSame h (g ++ rest) (filter (of_word word) g ++ (others (of_word word) g ++ rest)))
    (λ i e x. filter_moved (theirs i x) (of_word word) (nat_eq (word_of x) word) g rest (Each-weaker (IsWaiting h) (λ t. theirs i x t ≡ true → of_word word t ≡ nat_eq (word_of x) word) (λ t q f. one_word word i x h t q f) g own)) done)
    (Each-weaker (IsWaiting h) (IsRight image h (done ++ (filter (of_word word) g ++ (others (of_word word) g ++ rest)))) (λ s q. record { right = λ e r x t. absurd (true≢false (sym r ∙ ap reads q.plain)) }) (filter (of_word word) g) (Each-kept (IsWaiting h) (of_word word) g own)) rights

-- Names gathered one by one: which are in, and that none comes twice.
use Rattle.std.proofs.Common.{◌≡◌, ◌<◌, ◌≤◌, ◌+◌, ℕ, List, [], ◌∷◌, Bool, true, false, refl, cond, sym, ap, ◌∙◌, not, ◌&&◌, ◌||◌, ◌++◌, arith, drop, get_or, length}
use Rattle.std.specs.Prelude.{nat_lt, filter}
use Rattle.std.specs.List.{list_all}
use Rattle.std.proofs.lemmas.Bool.{and_parts, lt-ltb, true≢false}
use Rattle.std.proofs.lemmas.Grind.{common_steps}
use Rattle.std.proofs.lemmas.List.{append-nil, append_assoc, at_drop_all, at_drop_more}
use Rattle.memory_model.specs.Traces.{is_among, is_distinct, is_named}
use Rattle.trace_recorder.specs.declared.operation.OpId.{OpId}
use Rattle.trace_operations.specs.Indexed.{has_name, number_in}
use Rattle.trace_operations.specs.declared.places.Places.{Places}

-- the second table has the names of the first, and this one
abbrev pub HasOneMore : Places → Places → OpId → Type 0
HasOneMore old new x = (n : OpId) → has_name new n ≡ (is_named n x || has_name old n)

-- a name has been given a number
pub one_more : (old new : Places) (x : OpId) (number : ℕ) → 0 < number → ((n : OpId) → number_in n.hart n.place new ≡ cond (is_named n x) number (number_in n.hart n.place old)) → HasOneMore old new x
one_more old new x number some all n = ap (nat_lt 0) (all n) ∙ go (is_named n x)
  where
    go : (b : Bool) → nat_lt 0 (cond b number (number_in n.hart n.place old)) ≡ (b || has_name old n)
    go true = lt-ltb 0 number some
    go false = refl

-- ---- which names are in

pub named_step : (old new : Places) (list : List OpId) (i : ℕ) (d : OpId) → i < length list → ((n : OpId) → (has_name old n || is_among (drop i list) n) ≡ is_among list n) → HasOneMore old new (get_or list i d)
    → (n : OpId) → (has_name new n || is_among (drop (i + 1) list) n) ≡ is_among list n
named_step old new list i d h inv all n =
    ap (λ (b : Bool). b || is_among (drop (i + 1) list) n) (all n)
    ∙ (go (is_named n (get_or list i d)) (has_name old n) (is_among (drop (i + 1) list) n)
    ∙ (ap (λ (b : Bool). has_name old n || b) (sym (at_drop_more (λ (ns : List OpId). is_among ns n) list i d h)) ∙ inv n))
  where
    go : (a b c : Bool) → ((a || b) || c) ≡ (b || (a || c))
    go true true c = refl
    go true false c = refl
    go false b c = refl

pub none_named : (names : Places) (list : List OpId) → ((hart place : ℕ) → number_in hart place names ≡ 0) → (n : OpId) → (has_name names n || is_among list n) ≡ is_among list n
none_named names list e n = ap (λ (m : ℕ). nat_lt 0 m || is_among list n) (e n.hart n.place)

-- the same of the names that a test lets in
pub listed_step : (listed : OpId → Bool) (old new : Places) (list : List OpId) (i : ℕ) (d : OpId) → ((m n : OpId) → is_named m n ≡ true → listed m ≡ listed n) → i < length list → ((n : OpId) → (has_name old n || (listed n && is_among (drop i list) n)) ≡ (listed n && is_among list n)) → listed (get_or list i d) ≡ true → HasOneMore old new (get_or list i d)
    → (n : OpId) → (has_name new n || (listed n && is_among (drop (i + 1) list) n)) ≡ (listed n && is_among list n)
listed_step listed old new list i d alike h inv own all n =
    ap (λ (b : Bool). b || (listed n && is_among (drop (i + 1) list) n)) (all n)
    ∙ (go (is_named n (get_or list i d)) (has_name old n) (listed n) (is_among (drop (i + 1) list) n) (λ e. alike n (get_or list i d) e ∙ own)
    ∙ (ap (λ (b : Bool). has_name old n || (listed n && b)) (sym (at_drop_more (λ (ns : List OpId). is_among ns n) list i d h)) ∙ inv n))
  where
    go : (a b l c : Bool) → (a ≡ true → l ≡ true) → ((a || b) || (l && c)) ≡ (b || (l && (a || c)))
    go true true l c f = refl
    go true false l c f = sym (ap (λ (k : Bool). k && true) (f refl))
    go false b l c f = refl

pub unlisted_step : (listed : OpId → Bool) (old : Places) (list : List OpId) (i : ℕ) (d : OpId) → ((m n : OpId) → is_named m n ≡ true → listed m ≡ listed n) → i < length list → ((n : OpId) → (has_name old n || (listed n && is_among (drop i list) n)) ≡ (listed n && is_among list n)) → listed (get_or list i d) ≡ false
    → (n : OpId) → (has_name old n || (listed n && is_among (drop (i + 1) list) n)) ≡ (listed n && is_among list n)
unlisted_step listed old list i d alike h inv out n =
    go (is_named n (get_or list i d)) (has_name old n) (listed n) (is_among (drop (i + 1) list) n) (λ e. alike n (get_or list i d) e ∙ out)
    ∙ (ap (λ (b : Bool). has_name old n || (listed n && b)) (sym (at_drop_more (λ (ns : List OpId). is_among ns n) list i d h)) ∙ inv n)
  where
    go : (a b l c : Bool) → (a ≡ true → l ≡ false) → (b || (l && c)) ≡ (b || (l && (a || c)))
    go true b true c f = absurd (true≢false (f refl))
    go true b false c f = refl
    go false b l c f = refl

-- ---- that none comes twice

-- none of these names was seen
abbrev pub are_new : (OpId → Bool) → List OpId → Bool
are_new seen names = list_all (λ n. not (seen n)) names

named_both : (a b : OpId) → is_named a b ≡ is_named b a
named_both a b = grind (arith, common_steps)

are_new-more : (old more : OpId → Bool) (x : OpId) → ((n : OpId) → more n ≡ (is_named n x || old n)) → (names : List OpId) → are_new more names ≡ (not (is_among names x) && are_new old names)
are_new-more old more x all [] = refl
are_new-more old more x all (n ∷ rest) = rw (all n, are_new-more old more x all rest, named_both n x) (go (is_named x n) (old n) (is_among rest x) (are_new old rest))
  where
    go : (a o b c : Bool) → (not (a || o) && (not b && c)) ≡ (not (a || b) && (not o && c))
    go true o b c = refl
    go false true true c = refl
    go false true false c = refl
    go false false true c = refl
    go false false false c = refl

are_new-none : (seen : OpId → Bool) → ((n : OpId) → seen n ≡ false) → (names : List OpId) → are_new seen names ≡ true
are_new-none seen f [] = refl
are_new-none seen f (n ∷ rest) = rw (f n) (are_new-none seen f rest)

pub distinct_at_first : (names : Places) (list : List OpId) → ((hart place : ℕ) → number_in hart place names ≡ 0) → is_distinct list ≡ (is_distinct list && are_new (has_name names) list)
distinct_at_first names list e = go (is_distinct list) (are_new (has_name names) list) (are_new-none (has_name names) (λ n. ap (nat_lt 0) (e n.hart n.place)) list)
  where
    go : (a b : Bool) → b ≡ true → a ≡ (a && b)
    go true true f = refl
    go true false f = absurd (true≢false (sym f))
    go false b f = refl

pub distinct_step : (old new : Places) (list : List OpId) (i : ℕ) (d : OpId) (found : Bool) → i < length list → is_distinct list ≡ (is_distinct (drop i list) && are_new (has_name old) (drop i list)) → HasOneMore old new (get_or list i d)
    → found ≡ has_name old (get_or list i d) → found ≡ false → is_distinct list ≡ (is_distinct (drop (i + 1) list) && are_new (has_name new) (drop (i + 1) list))
distinct_step old new list i d found h inv all e f =
    inv
    ∙ (at_drop_more (λ (ns : List OpId). is_distinct ns && are_new (has_name old) ns) list i d h
    ∙ (go (is_among (drop (i + 1) list) (get_or list i d)) (is_distinct (drop (i + 1) list)) (not (has_name old (get_or list i d))) (are_new (has_name old) (drop (i + 1) list)) (ap not (sym e ∙ f))
    ∙ ap (λ (b : Bool). is_distinct (drop (i + 1) list) && b) (sym (are_new-more (has_name old) (has_name new) (get_or list i d) all (drop (i + 1) list)))))
  where
    go : (a b n c : Bool) → n ≡ true → ((not a && b) && (n && c)) ≡ (b && (not a && c))
    go a b false c e = absurd (true≢false (sym e))
    go true true true c e = refl
    go true false true c e = refl
    go false true true c e = refl
    go false false true c e = refl

pub distinct_stop : (old : Places) (list : List OpId) (i : ℕ) (d : OpId) (found : Bool) → i < length list → is_distinct list ≡ (is_distinct (drop i list) && are_new (has_name old) (drop i list))
    → found ≡ has_name old (get_or list i d) → found ≡ true → false ≡ is_distinct list
distinct_stop old list i d found h inv e f =
    sym (inv
    ∙ (at_drop_more (λ (ns : List OpId). is_distinct ns && are_new (has_name old) ns) list i d h
    ∙ go (not (is_among (drop (i + 1) list) (get_or list i d)) && is_distinct (drop (i + 1) list)) (not (has_name old (get_or list i d))) (are_new (has_name old) (drop (i + 1) list)) (ap not (sym e ∙ f))))
  where
    go : (a n b : Bool) → n ≡ false → (a && (n && b)) ≡ false
    go a true b e = absurd (true≢false e)
    go true false b e = refl
    go false false b e = refl

-- ---- that all are in

pub all_alike : {X : Type 0} (p q : X → Bool) (xs : List X) → ((x : X) → p x ≡ q x) → list_all p xs ≡ list_all q xs
all_alike p q [] e = refl
all_alike p q (x ∷ rest) e = rw (e x, all_alike p q rest e) refl

-- ---- the names that are not in

pub kept_same : (listed : OpId → Bool) (known : Places) (names list : List OpId) → list_all listed list ≡ true → ((n : OpId) → has_name known n ≡ (listed n && is_among names n)) → filter (λ n. not (has_name known n)) list ≡ filter (λ n. not (is_among names n)) list
kept_same listed known names [] h all = refl
kept_same listed known names (x ∷ rest) h all =
    let p = and_parts (listed x) (list_all listed rest) h in
    let own : has_name known x ≡ is_among names x = all x ∙ ap (λ (b : Bool). b && is_among names x) p.0 in
    rw (own, kept_same listed known names rest p.1 all) refl

-- what is left of a list, where the name that comes next isn't in, and where it is
pub kept_next : (known : Places) (list front pushed kept : List OpId) (i : ℕ) (d : OpId) (found : Bool) → i < length list → found ≡ has_name known (get_or list i d) → found ≡ false → pushed ≡ front ++ get_or list i d ∷ []
    → kept ≡ front ++ filter (λ n. not (has_name known n)) (drop i list) → kept ≡ pushed ++ filter (λ n. not (has_name known n)) (drop (i + 1) list)
kept_next known list front pushed kept i d found h e f p inv =
    inv
    ∙ (ap (λ (ns : List OpId). front ++ ns) (at_drop_more (filter (λ n. not (has_name known n))) list i d h ∙ ap (λ (b : Bool). cond (not b) (get_or list i d ∷ filter (λ n. not (has_name known n)) (drop (i + 1) list)) (filter (λ n. not (has_name known n)) (drop (i + 1) list))) (sym e ∙ f))
    ∙ (sym (append_assoc front (get_or list i d ∷ []) (filter (λ n. not (has_name known n)) (drop (i + 1) list))) ∙ ap (λ (ns : List OpId). ns ++ filter (λ n. not (has_name known n)) (drop (i + 1) list)) (sym p)))

pub passed_next : (known : Places) (list front kept : List OpId) (i : ℕ) (d : OpId) (found : Bool) → i < length list → found ≡ has_name known (get_or list i d) → found ≡ true
    → kept ≡ front ++ filter (λ n. not (has_name known n)) (drop i list) → kept ≡ front ++ filter (λ n. not (has_name known n)) (drop (i + 1) list)
passed_next known list front kept i d found h e f inv =
    inv ∙ ap (λ (ns : List OpId). front ++ ns) (at_drop_more (filter (λ n. not (has_name known n))) list i d h ∙ ap (λ (b : Bool). cond (not b) (get_or list i d ∷ filter (λ n. not (has_name known n)) (drop (i + 1) list)) (filter (λ n. not (has_name known n)) (drop (i + 1) list))) (sym e ∙ f))

-- nothing is left past the end
pub kept_last : (known : Places) (list front kept : List OpId) (i : ℕ) → length list ≤ i → kept ≡ front ++ filter (λ n. not (has_name known n)) (drop i list) → kept ≡ front
kept_last known list front kept i h inv = inv ∙ (ap (λ (ns : List OpId). front ++ ns) (at_drop_all (filter (λ n. not (has_name known n))) list i h) ∙ append-nil front)

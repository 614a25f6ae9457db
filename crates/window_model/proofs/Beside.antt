-- Another hart's store comes before fetching: where a window with one instruction more admits a store, so does the window without it, and the reservation stands or ends alike.
use Rattle.std.proofs.Common.{◌≡◌, ℕ, zero, suc, ◌+◌, ◌<◌, ◌≤◌, List, [], ◌∷◌, ◌++◌, Bool, true, false, Option, Some, None, refl, cond, sym, ap, ◌∙◌, not, ◌&&◌, ◌||◌, arith, length, subst, take}
use Rattle.std.specs.Prelude.{nat_le, nat_lt, slice_get}
use Rattle.std.specs.List.{list_any, range_with_len}
use Rattle.std.specs.Option.{option_map, option_map_or, option_to_list}
use Rattle.std.proofs.Math.Path.{fun_ext}
use Rattle.std.proofs.lemmas.Bool.{false≢true, and_from, and_parts, eq-eqb, eqb-true, le-leb, lt-ltb, or_right}
use Rattle.std.proofs.lemmas.List.{length-append, take-append-le}
use Rattle.std.proofs.lemmas.Option.{slice_get_within}
use Rattle.machine_types.specs.declared.model.MemoryModel.{MemoryModel}
use Rattle.memory_model.specs.declared.operation.Operation.{Operation}
use Rattle.memory_model.specs.Dependencies.{uses_in}
use Rattle.memory_model.specs.Operations.{is_lr, is_sc, reads, writes}
use Rattle.memory_model.specs.Rules.{is_lr_or_sc}
use Rattle.rv32_decode.specs.Rows.{decoded}
use Rattle.rv32_decode.specs.declared.instruction.Instr.{Instr}
use Rattle.rv32_exec.specs.Uses.{Uses}
use Rattle.window_model.specs.Fetching.{fetched, must_precede, operation_of, reservation_behind, reserves, waiting_with, window_behind}
use Rattle.window_model.specs.Laws.{IsBelow, IsWithin, StoresComeFirst}
use Rattle.window_model.specs.Nodes.{Node, Reserved, address_of, lr_of, own_of}
use Rattle.window_model.specs.Placing.{Admits, beside, ends, has_store, kept_beside}
use Rattle.window_model.specs.Reserving.{is_reserved, may_do}
use Rattle.window_model.specs.Waiting.{Waiting, overlaps, stores_to}
use Rattle.window_model.specs.Waits.{Waits, has_any, of_registers, only, those, when, ◌∪◌}
use Rattle.window_model.proofs.Positions.{at_append, at_end}
use Rattle.window_model.proofs.Waits.{has_any_at, has_any_none}
use Rattle.window_model.proofs.following.Given.{operation_is}

-- ---- sets of positions of a window, in a longer window

pub record Found (n : ℕ) (s : Waits) : Type 0 where
  pub position : ℕ
  pub below : position < n
  pub is : s position ≡ true

pub has_any_found : (n : ℕ) (s : Waits) → has_any n s ≡ true → Found n s
has_any_found zero s e = absurd (false≢true e)
has_any_found (suc n) s e = go (s n) refl (has_any_found n s) e
  where
    go : (b : Bool) → s n ≡ b → (has_any n s ≡ true → Found n s) → (b || has_any n s) ≡ true → Found (suc n) s
    go true f rest h = record { position = n; below = omega arith; is = f }
    go false f rest h = let r = rest h in record { position = r.position; below = let l = r.below in omega (arith, l); is = r.is }

pub has_any_longer : (m n : ℕ) (s : Waits) → m ≤ n → IsBelow m s → has_any n s ≡ has_any m s
has_any_longer m n s l below = go (has_any m s) refl
  where
    go : (b : Bool) → has_any m s ≡ b → has_any n s ≡ b
    go true e = let f = has_any_found m s e in has_any_at n s f.position (let b = f.below in omega (arith, b, l)) f.is
    go false e = has_any_none n s (λ k a h. false≢true (sym e ∙ has_any_at m s k (below k h) h))

has_any_same : (n : ℕ) (s t : Waits) → ((k : ℕ) → k < n → s k ≡ t k) → has_any n s ≡ has_any n t
has_any_same zero s t f = refl
has_any_same (suc n) s t f = ap (λ b. b || has_any n s) (f n (omega arith)) ∙ ap (λ b. t n || b) (has_any_same n s t (λ k l. f k (omega (arith, l))))

get_front : {X : Type 0} (xs ys : List X) (k : ℕ) → k < length xs → slice_get (xs ++ ys) k ≡ slice_get xs k
get_front [] ys k l = absurd (omega (arith, l))
get_front (x ∷ xs) ys zero l = refl
get_front (x ∷ xs) ys (suc k) l = get_front xs ys k (omega (arith, l))

longer : {X : Type 0} (xs ys : List X) → length xs ≤ length (xs ++ ys)
longer xs ys = let e = length-append xs ys in omega arith

pub has_store_longer : (s : Waits) (window new : List Waiting) (x : ℕ) → IsBelow (length window) s → has_store s (window ++ new) x ≡ has_store s window x
has_store_longer s window new x below =
    has_any_longer (length window) (length (window ++ new)) (λ k. s k && those (stores_to x) (window ++ new) k) (longer window new) (λ k e. below k (and_parts (s k) (those (stores_to x) (window ++ new) k) e).0)
    ∙ has_any_same (length window) (λ k. s k && those (stores_to x) (window ++ new) k) (λ k. s k && those (stores_to x) window k) (λ k l. ap (λ o. s k && option_map_or (stores_to x) o false) (get_front window new k l))

-- ---- a reservation, beside a longer window

ends_longer : (w : Waiting) (window new : List Waiting) (r : Reserved) → IsBelow (length window) r.lr → IsBelow (length window) r.own → ends w (window ++ new) r ≡ ends w window r
ends_longer w window new r lr own =
    ap (λ b. not b && list_any (λ x. stores_to x w && not (has_store r.own (window ++ new) x)) (range_with_len r.address 4)) (has_any_longer (length window) (length (window ++ new)) r.lr (longer window new) lr)
    ∙ ap (λ (f : ℕ → Bool). not (has_any (length window) r.lr) && list_any f (range_with_len r.address 4)) (fun_ext (λ x. ap (λ b. stores_to x w && not b) (has_store_longer r.own window new x own)))

kept_longer : (w : Waiting) (window new : List Waiting) (o : Option Reserved) → IsBelow (length window) (lr_of o) → IsBelow (length window) (own_of o) → kept_beside w (window ++ new) o ≡ kept_beside w window o
kept_longer w window new None lr own = refl
kept_longer w window new (Some r) lr own = ap (λ b. cond b None (Some r)) (ends_longer w window new r lr own)

-- one whose LR waits is kept
kept_waiting : (w : Waiting) (window : List Waiting) (r : Reserved) → has_any (length window) r.lr ≡ true → kept_beside w window (Some r) ≡ Some r
kept_waiting w window r e = ap (λ b. cond (not b && list_any (λ x. stores_to x w && not (has_store r.own window x)) (range_with_len r.address 4)) None (Some r)) e

reservation_kept : (model : MemoryModel) (w : Waiting) (n : Node) (i : Option Instr) (o : Option Operation) → IsWithin n
    → kept_beside w (window_behind model n i o) (reservation_behind n i o) ≡ reservation_behind (beside w n) i o
reservation_kept model w n i o h = go (is_lr_or_sc i)
  where
    made : (q : Option Operation) → kept_beside w (window_behind model n i q) (reserves n.window q) ≡ reserves n.window q
    made None = refl
    made (Some b) = first (is_lr b.kind)
      where
        first : (c : Bool)
            → kept_beside w (window_behind model n i (Some b)) (cond c (Some (record { address = b.address; lr = only (length n.window); own = those (λ (e : Waiting). writes e.kind && overlaps b.address b.size e) n.window })) None)
            ≡ cond c (Some (record { address = b.address; lr = only (length n.window); own = those (λ (e : Waiting). writes e.kind && overlaps b.address b.size e) n.window })) None
        first false = refl
        first true =
            kept_waiting w (window_behind model n i (Some b)) (record { address = b.address; lr = only (length n.window); own = those (λ (e : Waiting). writes e.kind && overlaps b.address b.size e) n.window })
            (has_any_at (length (window_behind model n i (Some b))) (only (length n.window)) (length n.window) (slice_get_within (window_behind model n i (Some b)) (length n.window) (waiting_with model n (uses_in i) b) (at_end n.window (waiting_with model n (uses_in i) b))) (eq-eqb (length n.window) (length n.window) refl))

    go : (c : Bool) → kept_beside w (window_behind model n i o) (cond c (reserves n.window o) n.reserved) ≡ cond c (reserves n.window o) (kept_beside w n.window n.reserved)
    go true = made o
    go false = kept_longer w n.window (option_to_list (option_map (waiting_with model n (uses_in i)) o)) n.reserved h.lr h.own

-- ---- an SC that is fetched has its reservation still

any_of_word : (test : ℕ → Bool) (a : ℕ) → ((x : ℕ) → a ≤ x → x < a + 4 → test x ≡ false) → list_any test (range_with_len a 4) ≡ false
any_of_word test a f =
    all (test a) (test (a + 1)) (test (a + 1 + 1)) (test (a + 1 + 1 + 1)) (f a (omega arith) (omega arith)) (f (a + 1) (omega arith) (omega arith)) (f (a + 1 + 1) (omega arith) (omega arith)) (f (a + 1 + 1 + 1) (omega arith) (omega arith))
  where
    all : (b c d e : Bool) → b ≡ false → c ≡ false → d ≡ false → e ≡ false → (b || (c || (d || (e || false)))) ≡ false
    all b c d e p q r s = ap (λ u. u || (c || (d || (e || false)))) p ∙ ap (λ u. u || (d || (e || false))) q ∙ ap (λ u. u || (e || false)) r ∙ ap (λ u. u || false) s

-- the SC that a hart fetches
record Succeeds (model : MemoryModel) (n : Node) (u : Uses) (b : Operation) : Type 0 where
  within : IsWithin n
  conditional : is_sc b.kind ≡ true
  word : b.size ≡ 4
  reserved : is_reserved (address_of n.reserved) b.address ≡ true

stays : (model : MemoryModel) (n : Node) (u : Uses) (b : Operation) (w : Waiting) → Succeeds model n u b → Admits w (record n { window = n.window ++ waiting_with model n u b ∷ [] }) → kept_beside w n.window n.reserved ≡ n.reserved
stays model n u b w s admits = go n.reserved refl s.reserved
  where
    e : Waiting
    e = waiting_with model n u b

    go : (o : Option Reserved) → n.reserved ≡ o → is_reserved (address_of o) b.address ≡ true → kept_beside w n.window o ≡ o
    go None f h = absurd (false≢true h)
    go (Some r) f h = first (has_any (length n.window) r.lr) refl
      where
        at : r.address ≡ b.address
        at = eqb-true r.address b.address h

        lr_below : IsBelow (length n.window) r.lr
        lr_below = subst (λ o. IsBelow (length n.window) (lr_of o)) f s.within.lr

        own_below : IsBelow (length n.window) r.own
        own_below = subst (λ o. IsBelow (length n.window) (own_of o)) f s.within.own

        pair_is : (k : ℕ) → e.pair k ≡ r.lr k
        pair_is k = ap (λ c. c && lr_of n.reserved k) s.conditional ∙ ap (λ o. lr_of o k) f

        own_is : e.own ≡ r.own
        own_is = fun_ext (λ k. ap (λ c. c && own_of n.reserved k) s.conditional ∙ ap (λ o. own_of o k) f)

        first : (c : Bool) → has_any (length n.window) r.lr ≡ c → kept_beside w n.window (Some r) ≡ Some r
        first true g = kept_waiting w n.window r g
        first false g =
            ap (λ c. cond (not (has_any (length n.window) r.lr) && c) None (Some r)) (any_of_word (λ x. stores_to x w && not (has_store r.own n.window x)) r.address (λ x low high. byte x low high (stores_to x w) refl))
            ∙ ap (λ c. cond (not c && false) None (Some r)) g
          where
            byte : (x : ℕ) → r.address ≤ x → x < r.address + 4 → (t : Bool) → stores_to x w ≡ t → (t && not (has_store r.own n.window x)) ≡ false
            byte x low high false t = refl
            byte x low high true t =
                ap (λ c. not c)
                (sym (has_store_longer r.own n.window (e ∷ []) x own_below)
                ∙ ap (λ q. has_store q (n.window ++ e ∷ []) x) (sym own_is)
                ∙ admits.pairs x (length n.window) e t (at_end n.window e) s.conditional
                (and_from (nat_le b.address x) (nat_lt x (b.address + b.size)) (le-leb b.address x (let a = at in omega (arith, a, low))) (lt-ltb x (b.address + b.size) (let a = at in let z = s.word in omega (arith, a, z, high))))
                (has_any_same (length (n.window ++ e ∷ [])) e.pair r.lr (λ k l. pair_is k) ∙ has_any_longer (length n.window) (length (n.window ++ e ∷ [])) r.lr (longer n.window (e ∷ [])) lr_below ∙ g))

-- ---- the law

-- whether a hart admits a store, its window alone says
pub admits_window : (w : Waiting) (n m : Node) → n.window ≡ m.window → Admits w n → Admits w m
admits_window w n m e h = record {
  pins = λ x k f t at p. ap (λ ws. list_any (stores_to x) (take k ws)) (sym e) ∙ h.pins x k f t (ap (λ ws. slice_get ws k) e ∙ at) p;
  pairs = λ x k f t at sc te none. ap (λ ws. has_store f.own ws x) (sym e) ∙ h.pairs x k f t (ap (λ ws. slice_get ws k) e ∙ at) sc te (ap (λ ws. has_any (length ws) f.pair) e ∙ none);
}

admits_shorter : (w : Waiting) (n m : Node) (new : List Waiting) → IsWithin n → m.window ≡ n.window ++ new → Admits w m → Admits w n
admits_shorter w n m new h same admits = record {
  pins = λ x k e t at p.
      ap (list_any (stores_to x)) (sym (take-append-le k n.window new (let l = slice_get_within n.window k e at in omega (arith, l))))
      ∙ ap (λ ws. list_any (stores_to x) (take k ws)) (sym same)
      ∙ admits.pins x k e t (ap (λ ws. slice_get ws k) same ∙ at_append n.window new k e at) p;
  pairs = λ x k e t at sc te none.
      let l = slice_get_within n.window k e at in
      let b = h.window k e at in
      sym (has_store_longer e.own n.window new x (λ j q. let a = b.own j q in omega (arith, a, l)))
      ∙ ap (λ ws. has_store e.own ws x) (sym same)
      ∙ admits.pairs x k e t (ap (λ ws. slice_get ws k) same ∙ at_append n.window new k e at) sc te
      (ap (λ ws. has_any (length ws) e.pair) same ∙ has_any_longer (length n.window) (length (n.window ++ new)) e.pair (longer n.window new) (λ j q. let a = b.pair j q in omega (arith, a, l)) ∙ none);
}

waiting_beside : (model : MemoryModel) (n : Node) (u : Uses) (b : Operation) (w : Waiting) → (is_sc b.kind ≡ true → kept_beside w n.window n.reserved ≡ n.reserved) → waiting_with model n u b ≡ waiting_with model (beside w n) u b
waiting_beside model n u b w kept = go (is_sc b.kind) kept
  where
    with : Bool → Option Reserved → Waiting
    with c o = record (waiting_with model n u b) {
      needs =
          those (must_precede model b) n.window
          ∪ when c (lr_of o)
          ∪ of_registers n.registers u.address
          ∪ of_registers n.registers u.stored
          ∪ when (reads b.kind) n.loads
          ∪ when (writes b.kind) n.stores;
      pair = when c (lr_of o);
      own = when c (own_of o);
    }

    go : (c : Bool) → (c ≡ true → kept_beside w n.window n.reserved ≡ n.reserved) → with c n.reserved ≡ with c (kept_beside w n.window n.reserved)
    go true k = ap (λ o. with true o) (sym (k refl))
    go false k = refl

pub stores_come_first : StoresComeFirst
stores_come_first model image n entry w within fetch admits = record {
  admits = admits_shorter w n (fetched model n entry) (option_to_list (option_map (waiting_with model n (uses_in i)) o)) within refl admits;
  can_fetch = record { step = fetch.step; reserved = may o refl };
  same =
      ap (λ r. record there { reserved = r; window = window_behind model n i o }) (reservation_kept model w n i o within)
      ∙ ap (λ ws. record there { window = n.window ++ ws }) (new o refl);
}
  where
    i : Option Instr
    i = decoded entry.word

    o : Option Operation
    o = operation_of n.hart entry

    there : Node
    there = fetched model (beside w n) entry

    kept : (b : Operation) → operation_of n.hart entry ≡ Some b → is_sc b.kind ≡ true → kept_beside w n.window n.reserved ≡ n.reserved
    kept b e sc =
        stays model n (uses_in i) b w
        (record {
          within = within;
          conditional = sc;
          word = (operation_is 0 n.hart entry i b e).word (or_right (is_lr b.kind) (is_sc b.kind) sc);
          reserved = ap (λ c. not c || is_reserved (address_of n.reserved) b.address) (sym sc) ∙ ap (may_do (address_of n.reserved)) (sym e) ∙ fetch.reserved;
        })
        (admits_window w (fetched model n entry) (record n { window = n.window ++ waiting_with model n (uses_in i) b ∷ [] }) (ap (λ q. n.window ++ option_to_list (option_map (waiting_with model n (uses_in i)) q)) e) admits)

    may : (q : Option Operation) → operation_of n.hart entry ≡ q → may_do (address_of (kept_beside w n.window n.reserved)) q ≡ true
    may None e = refl
    may (Some b) e = go (is_sc b.kind) refl
      where
        go : (c : Bool) → is_sc b.kind ≡ c → (not c || is_reserved (address_of (kept_beside w n.window n.reserved)) b.address) ≡ true
        go false f = refl
        go true f =
            ap (λ r. is_reserved (address_of r) b.address) (kept b e f)
            ∙ ap (λ c. not c || is_reserved (address_of n.reserved) b.address) (sym f)
            ∙ ap (may_do (address_of n.reserved)) (sym e)
            ∙ fetch.reserved

    new : (q : Option Operation) → operation_of n.hart entry ≡ q → option_to_list (option_map (waiting_with model n (uses_in i)) q) ≡ option_to_list (option_map (waiting_with model (beside w n) (uses_in i)) q)
    new None e = refl
    new (Some b) e = ap (λ a. a ∷ []) (waiting_beside model n (uses_in i) b w (kept b e))

use Rattle.std.specs.List.{refill}
use Rattle.std.proofs.Common.{◌≡◌, ℕ, ◌+◌, ◌-◌, List, [], ◌∷◌, ◌++◌, length, get_or, set, take, drop, Option, Some, None, refl, sym, ap, ◌∙◌, length-set, arith, ◌<◌, length-drop}
use Rattle.std.proofs.lemmas.Bool.{false≢true, eqb-true, eqb-false}
use Rattle.std.proofs.lemmas.List.{take_rest, set-get_or}
use Rattle.std.proofs.lemmas.Result.{err_from_is_err_and}
use Rattle.machine_types.specs.declared.limits.TheConstants.{BUFFER_ENTRIES}
use Rattle.arrayvec.proofs.ArrayVecLemmas.{items-with_items}
use Rattle.store_buffer.specs.declared.entry.Entry.{Entry}
use Rattle.store_buffer.specs.Entry.{joined}
use Rattle.store_buffer.specs.Layout.{place_of}
use Rattle.store_buffer.proofs.Places.{is_place, no_place, put-joins, put-adds}
use Rattle.store_buffer.proofs.buffer.put_behind.Goals as goal

behind : (word start : ℕ) (xs es : List Entry) (o r : Option ℕ) → xs ≡ es → r ≡ place_of word (take (length xs - start) (drop start xs)) → r ≡ o → place_of word (drop start es) ≡ o
behind word start xs es o r same at is = ap (λ ys. place_of word (drop start ys)) (sym same) ∙ ap (place_of word) (sym (take_rest xs start)) ∙ sym at ∙ is

pub returns-in_err-join-in-Some-clause-full : goal.returns-in_err-join-in-Some-clause-full
returns-in_err-join-in-Some-clause-full c =
    let p = err_from_is_err_and c.from_residual.result c.from_residual.ensures.1 in
    let at = behind c.args.store.word c.args.start c.deref.result.now c.args.entries.now.items (Some c.in-Some.place) c.place_of.result c.deref.ensures.0 c.place_of.ensures c.in-Some.is in
    let found = is_place c.args.store.word c.in-Some.place (drop c.args.start c.args.entries.now.items) at in
    rw (p.1, p.2) (λ bad. absurd (cc), λ h. absurd (false≢true (sym h.0 ∙ found.has)))

pub returns-then-is_full-clause-full : goal.returns-then-is_full-clause-full
returns-then-is_full-clause-full c =
    let at = behind c.args.store.word c.args.start c.deref.result.now c.args.entries.now.items None c.place_of.result c.deref.ensures.0 c.place_of.ensures c.in-None.is in (
      λ _. (
        no_place c.args.store.word (drop c.args.start c.args.entries.now.items) at,
        eqb-true (length c.args.entries.now.items) BUFFER_ENTRIES (sym c.is_full.ensures.value ∙ c.if-is_full.true),
      ),
      λ _. refl,
    )

pub returns-in_ok-join-in-Some-clause-ok : goal.returns-in_ok-join-in-Some-clause-ok
returns-in_ok-join-in-Some-clause-ok c =
    let es = c.args.entries.now.items in
    let xs = c.deref_mut.result.now in
    let n = c.args.start + c.in-Some.place in
    let at = behind c.args.store.word c.args.start c.deref.result.now es (Some c.in-Some.place) c.place_of.result c.deref.ensures.0 c.place_of.ensures c.in-Some.is in
    items-with_items c.args.entries.now (set xs n c.join.new.self) (length-set xs n c.join.new.self ∙ ap length c.deref_mut.ensures.value)
    ∙ ap (λ (e : Entry). set xs n e) c.in_ok-join-in-Some.ensures.ok
    ∙ ap (λ ys. set ys n (joined c.args.store (get_or ys n c.index-deref_mut-start.result))) c.deref_mut.ensures.value
    ∙ put-joins c.args.store c.args.start c.in-Some.place es c.index-deref_mut-start.result at

pub returns-in_ok-join-in-Some-clause-full : goal.returns-in_ok-join-in-Some-clause-full
returns-in_ok-join-in-Some-clause-full c =
    let at = behind c.args.store.word c.args.start c.deref.result.now c.args.entries.now.items (Some c.in-Some.place) c.place_of.result c.deref.ensures.0 c.place_of.ensures c.in-Some.is in
    let found = is_place c.args.store.word c.in-Some.place (drop c.args.start c.args.entries.now.items) at in
    (λ bad. absurd (cc), λ h. absurd (false≢true (sym h.0 ∙ found.has)))

pub returns-in_ok-of_store-in-None-clause-ok : goal.returns-in_ok-of_store-in-None-clause-ok
returns-in_ok-of_store-in-None-clause-ok c =
    let es = c.args.entries.now.items in
    let at = behind c.args.store.word c.args.start c.deref.result.now es None c.place_of.result c.deref.ensures.0 c.place_of.ensures c.in-None.is in
    c.push.ensures.items ∙ ap (λ (e : Entry). es ++ e ∷ []) c.in_ok-of_store-in-None.ensures
    ∙ put-adds c.args.store c.args.start es (no_place c.args.store.word (drop c.args.start es) at)

-- the place of the word's entry is one of the list's
within : (word start place : ℕ) (xs es : List Entry) (r : Option ℕ) → xs ≡ es → r ≡ place_of word (take (length xs - start) (drop start xs)) → r ≡ Some place → start + place < length es
within word start place xs es r same at is =
    let p = is_place word place (drop start es) (behind word start xs es (Some place) r same at is) in
    let below = p.within in
    omega (arith, length-drop start es)

pub slice_bounds-place_of-count : goal.slice_bounds-place_of-count
slice_bounds-place_of-count c = omega (arith, c.requires, ap length c.deref.ensures.0)

pub overflow_add-start : goal.overflow_add-start
overflow_add-start c =
    omega (arith, c.deref_mut.ensures.fits, ap length c.deref_mut.ensures.value, within c.args.store.word c.args.start c.in-Some.place c.deref.result.now c.args.entries.now.items c.place_of.result c.deref.ensures.0 c.place_of.ensures c.in-Some.is)

pub bounds-deref_mut-start : goal.bounds-deref_mut-start
bounds-deref_mut-start c =
    omega (arith, ap length c.deref_mut.ensures.value, within c.args.store.word c.args.start c.in-Some.place c.deref.result.now c.args.entries.now.items c.place_of.result c.deref.ensures.0 c.place_of.ensures c.in-Some.is)

pub returns-in_err-join-in-Some-clause-ok : goal.returns-in_err-join-in-Some-clause-ok
returns-in_err-join-in-Some-clause-ok c =
    let p = err_from_is_err_and c.from_residual.result c.from_residual.ensures.1 in
    rw p.1 tt

pub returns-in_err-join-in-Some-clause-err : goal.returns-in_err-join-in-Some-clause-err
returns-in_err-join-in-Some-clause-err c =
    let xs = c.deref_mut.result.now in
    let n = c.args.start + c.in-Some.place in
    let p = err_from_is_err_and c.from_residual.result c.from_residual.ensures.1 in
    let left : refill (length c.args.entries.now.items) c.args.entries.now.items (set xs n c.join.new.self) ≡ c.args.entries.now.items =
    items-with_items c.args.entries.now (set xs n c.join.new.self) (length-set xs n c.join.new.self ∙ ap length c.deref_mut.ensures.value)
    ∙ ap (λ (e : Entry). set xs n e) c.in_err-join-in-Some.ensures.err
    ∙ set-get_or xs n c.index-deref_mut-start.result ∙ c.deref_mut.ensures.value in
    rw p.1 (λ i. record { items = left i })

pub returns-in_err-of_store-in-None-clause-ok : goal.returns-in_err-of_store-in-None-clause-ok
returns-in_err-of_store-in-None-clause-ok c =
    let p = err_from_is_err_and c.from_residual-in_err-of_store-in-None.result c.from_residual-in_err-of_store-in-None.ensures.1 in
    rw p.1 tt

pub returns-in_err-of_store-in-None-clause-err : goal.returns-in_err-of_store-in-None-clause-err
returns-in_err-of_store-in-None-clause-err c =
    let p = err_from_is_err_and c.from_residual-in_err-of_store-in-None.result c.from_residual-in_err-of_store-in-None.ensures.1 in
    rw p.1 refl

pub returns-in_err-of_store-in-None-clause-full : goal.returns-in_err-of_store-in-None-clause-full
returns-in_err-of_store-in-None-clause-full c =
    let p = err_from_is_err_and c.from_residual-in_err-of_store-in-None.result c.from_residual-in_err-of_store-in-None.ensures.1 in
    let some : length c.args.entries.now.items ≡ BUFFER_ENTRIES → ⊥ = eqb-false (length c.args.entries.now.items) BUFFER_ENTRIES (sym c.is_full.ensures.value ∙ c.if-is_full.false) in
    rw (p.1, p.2) (λ bad. absurd (cc), λ h. absurd (some h.1))

pub returns-in_ok-of_store-in-None-clause-full : goal.returns-in_ok-of_store-in-None-clause-full
returns-in_ok-of_store-in-None-clause-full c =
    let some : length c.args.entries.now.items ≡ BUFFER_ENTRIES → ⊥ = eqb-false (length c.args.entries.now.items) BUFFER_ENTRIES (sym c.is_full.ensures.value ∙ c.if-is_full.false) in
    (λ bad. absurd (cc), λ h. absurd (some h.1))

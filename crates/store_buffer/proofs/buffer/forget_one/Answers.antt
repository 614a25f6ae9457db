use Rattle.std.proofs.Common.{◌≡◌, ℕ, ◌-◌, ◌<◌, false, true, cond, List, [], ◌∷◌, length, get_or, set, refl, sym, ap, ◌∙◌, subst, arith, length-set}
use Rattle.std.specs.Prelude.{◌==◌}
use Rattle.std.proofs.lemmas.Bool.{eqb-true, lt-ltb}
use Rattle.arrayvec.proofs.ArrayVecLemmas.{items-with_items}
use Rattle.store_buffer.specs.Layout.{one_less}
use Rattle.store_buffer.proofs.buffer.forget_one.Goals as goal

none_less : (ns : List ℕ) → (length ns == 0) ≡ true → ns ≡ one_less ns
none_less [] h = refl
none_less (n ∷ ns) h = let none = eqb-true (length (n ∷ ns)) 0 h in absurd (omega arith)

some : (ns : List ℕ) → (length ns == 0) ≡ false → 0 < length ns
some [] h = absurd (cc)
some (n ∷ ns) h = omega arith

counted_less : (ns : List ℕ) → 1 < get_or ns 0 0 → set ns 0 (get_or ns 0 0 - 1) ≡ one_less ns
counted_less [] h = absurd (omega arith)
counted_less (n ∷ ns) h = ap (λ b. cond b ((n - 1) ∷ ns) ns) (sym (lt-ltb 1 n h))

pub returns-then-is_empty : goal.returns-then-is_empty
returns-then-is_empty c = none_less c.args.sealed.now.items (sym c.is_empty.ensures ∙ c.if-is_empty.true)

pub bounds-deref-0 : goal.bounds-deref-0
bounds-deref-0 c = omega (arith, ap length c.deref.ensures.0, some c.args.sealed.now.items (sym c.is_empty.ensures ∙ c.if-is_empty.false))

pub overflow_sub-deref_mut : goal.overflow_sub-deref_mut
overflow_sub-deref_mut c =
    let more = c.if-deref-gt1.true in
    omega (arith, ap (λ ns. get_or ns 0 0) c.deref.ensures.0, ap (λ ns. get_or ns 0 0) c.deref_mut.ensures.value)

pub returns-then-deref-gt1 : goal.returns-then-deref-gt1
returns-then-deref-gt1 c =
    let ns = c.args.sealed.now.items in
    let xs = c.deref_mut.result.now in
    let n = get_or xs 0 0 - 1 in
    items-with_items c.args.sealed.now (set xs 0 n) (length-set xs 0 n ∙ ap length c.deref_mut.ensures.value)
    ∙ ap (λ ys. set ys 0 (get_or ys 0 0 - 1)) c.deref_mut.ensures.value
    ∙ counted_less ns (subst (λ ys. 1 < get_or ys 0 0) c.deref.ensures.0 c.if-deref-gt1.true)

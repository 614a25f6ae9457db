-- Calls keep groups of one entry each.
use Rattle.std.proofs.Common.{◌≡◌, ℕ, ◌≤◌, Bool, true, false, cond, List, [], ◌∷◌, length, refl, sym, subst, arith}
use Rattle.std.specs.Prelude.{◌==◌}
use Rattle.std.specs.List.{AllByRecursion as Each}
use Rattle.store_buffer.specs.declared.entry.Entry.{Entry}
use Rattle.store_buffer.specs.Entry.{has_word, without}
use Rattle.store_buffer.specs.Groups.{kept, taken_from, after_put, after_put_single, after_seal}
use Rattle.store_buffer.specs.Single.{IsSingle, NewIsSingle, PutSingleStaysSingle, SealStaysSingle, TakeStaysSingle}
use Rattle.store_buffer.proofs.Places.{with_store-old}
use Rattle.store_buffer.proofs.Layouts.{Each-append, put_joins_own, put_after_seal}

abbrev OneAtMost : List Entry → Type 0
OneAtMost g = length g ≤ 1

kept_single : (g : List Entry) → OneAtMost g → Each OneAtMost (kept g)
kept_single [] h = tt
kept_single (e ∷ es) h = (h, tt)

without_single : (word : ℕ) (g : List Entry) → OneAtMost g → OneAtMost (without word g)
without_single word [] h = h
without_single word (e ∷ []) h = go (e.word == word)
  where
    go : (b : Bool) → OneAtMost (cond b [] (e ∷ []))
    go true = omega arith
    go false = h
without_single word (e ∷ f ∷ es) h = absurd (omega arith)

pub new_is_single : NewIsSingle
new_is_single = record { sealed = tt; current = omega arith }

pub seal_stays_single : SealStaysSingle
seal_stays_single b h =
    record { sealed = Each-append OneAtMost b.sealed (kept b.current) h.sealed (kept_single b.current h.current); current = omega arith }

pub put_single_stays_single : PutSingleStaysSingle
put_single_stays_single s b h = go (has_word s.word b.current) refl
  where
    go : (own : Bool) → has_word s.word b.current ≡ own → IsSingle (after_put_single s b)
    go true e =
        let joins : IsSingle (after_put s b) = record { sealed = h.sealed; current = omega (arith, with_store-old s b.current e, h.current) } in
        subst IsSingle (sym (put_joins_own s b e)) joins
    go false e =
        let opens : IsSingle (after_put s (after_seal b)) = record { sealed = (seal_stays_single b h).sealed; current = omega arith } in
        subst IsSingle (sym (put_after_seal s b e)) opens

pub take_stays_single : TakeStaysSingle
take_stays_single word b h = go b.sealed h.sealed
  where
    go : (gs : List (List Entry)) → Each OneAtMost gs → IsSingle (taken_from word gs b.current)
    go [] each = record { sealed = tt; current = without_single word b.current h.current }
    go (g ∷ gs) each =
        record { sealed = Each-append OneAtMost (kept (without word g)) gs (kept_single (without word g) (without_single word g each.0)) each.1; current = h.current }

use Rattle.std.proofs.Common.{◌≡◌, ◌≤◌, ◌∷◌, [], ℕ, subst, sym}
use Rattle.std.specs.Char.Iter.{escape_byte_rest}
use Rattle.text_fields.proofs.Written.{going_as, going_fails, going_more, stops}
use Rattle.log_text.proofs.place.put_byte.Goals as goal

pub loop-written-preserved : goal.loop-written-preserved
loop-written-preserved g c =
    let at = c.loop-written in
    let byte = c.in-Some.written in
    let more : escape_byte_rest at.written-iterator ≡ byte ∷ escape_byte_rest c.next.new.self = c.in-Some.ensures.steps.1.0 in
    record {
      going = going_more _ _ _ (byte ∷ []) _ _ (going_as _ _ _ _ _ more at.invariant.going) c.in_ok-put.ensures;
      bound = subst (λ (n : ℕ). n ≤ 4) (sym c.in-Some.ensures.steps.0) at.invariant.bound;
    }

pub returns-in_err-put : goal.returns-in_err-put
returns-in_err-put g c =
    let at = c.loop-written in
    let byte = c.in-Some.written in
    let more : escape_byte_rest at.written-iterator ≡ byte ∷ escape_byte_rest c.next.new.self = c.in-Some.ensures.steps.1.0 in
    stops _ _ _ _ c.from_residual.ensures.0 (going_fails _ _ _ (byte ∷ []) _ _ (going_as _ _ _ _ _ more at.invariant.going) c.in_err-put.ensures)

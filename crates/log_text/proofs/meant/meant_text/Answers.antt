use Rattle.std.proofs.Common.{ℕ, ◌∙◌, ◌∷◌, List, Option, ap, option_map}
use Rattle.std.specs.Borrow.{Bor}
use Rattle.log_text.proofs.Expanding.{further_begun, further_new}
use Rattle.log_text.specs.Names.{lines_left}
use Rattle.log_text.proofs.meant.meant_text.Goals as goal

pub loop-tail-preserved-then-begun : goal.loop-tail-preserved-then-begun
loop-tail-preserved-then-begun c = further_begun c.args.skip c.loop-tail.begun c.args.text.now _ _ _ c.loop-tail.rest.now c.first_line.result.0.now c.in-Some.tail.now c.if-begun.true c.loop-tail.invariant
    (c.first_line.ensures.lines ∙ ap (λ (o : Option (Bor (List ℕ))). c.first_line.result.0.now ∷ lines_left (option_map (λ (rest : Bor (List ℕ)). rest.now) o)) c.in-Some.is)
    c.in_ok-put_meant-in-Some.ensures

pub loop-tail-preserved : goal.loop-tail-preserved
loop-tail-preserved c = further_new c.args.skip c.loop-tail.begun c.args.text.now _ _ _ c.loop-tail.rest.now c.first_line.result.0.now c.in-Some.tail.now _ c.if-begun.false c.is_message_line-begun.ensures c.loop-tail.invariant
    (c.first_line.ensures.lines ∙ ap (λ (o : Option (Bor (List ℕ))). c.first_line.result.0.now ∷ lines_left (option_map (λ (rest : Bor (List ℕ)). rest.now) o)) c.in-Some.is)
    c.in_ok-put_meant-in-Some.ensures

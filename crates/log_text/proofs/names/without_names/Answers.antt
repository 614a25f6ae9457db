use Rattle.std.proofs.Common.{ℕ, ◌∙◌, ◌++◌, ◌∷◌, List, Option, ap, option_map}
use Rattle.std.specs.Borrow.{Bor}
use Rattle.log_text.specs.Names as names
use Rattle.log_text.proofs.Lines.{last_one, one_more}
use Rattle.log_text.proofs.Placed.{same_line}
use Rattle.log_text.proofs.names.without_names.Goals as goal

pub loop-kept-preserved : goal.loop-kept-preserved
loop-kept-preserved c =
    one_more (names.without_names c.args.text.now) c.loop-kept.kept.items c.extend_from_slice.new.self.items c.push.new.self.items c.loop-kept.rest.now c.first_line.result.0.now c.in-Some.tail.now
    c.loop-kept.invariant
    (c.first_line.ensures.lines ∙ ap (λ (o : Option (Bor (List ℕ))). c.first_line.result.0.now ∷ names.lines_left (option_map (λ (rest : Bor (List ℕ)). rest.now) o)) c.in-Some.is)
    (c.in_ok-extend_from_slice.ensures.items ∙ ap (λ (line : List ℕ). c.loop-kept.kept.items ++ line) c.without_name.ensures)
    c.in_ok-push-in-Some.ensures.items

pub returns-in-None-clause-lines : goal.returns-in-None-clause-lines
returns-in-None-clause-lines c =
    same_line c.args.text.now c.extend_from_slice.new.self.items
    (last_one (names.without_names c.args.text.now) c.loop-kept.kept.items c.extend_from_slice.new.self.items c.loop-kept.rest.now c.first_line.result.0.now
    c.loop-kept.invariant
    (c.first_line.ensures.lines ∙ ap (λ (o : Option (Bor (List ℕ))). c.first_line.result.0.now ∷ names.lines_left (option_map (λ (rest : Bor (List ℕ)). rest.now) o)) c.in-None.is)
    (c.in_ok-extend_from_slice.ensures.items ∙ ap (λ (line : List ℕ). c.loop-kept.kept.items ++ line) c.without_name.ensures))

use Rattle.std.proofs.Common.{◌≡◌, ◌++◌, List, Option, Some, ap, subst, sym, ℕ}
use Rattle.std.specs.Borrow.{Bor}
use Rattle.std.specs.Prelude.{codes, decimal, option_map}
use Rattle.log_text.specs.Words.{name_text}
use Rattle.text_fields.specs.Writing.{Writes}
use Rattle.text_fields.proofs.Written.{begins_first, stops, writes_then}
use Rattle.log_text.proofs.place.Place.put.Goals as goal

pub returns-in_err-put_line : goal.returns-in_err-put_line
returns-in_err-put_line g c = stops _ _ _ _ c.from_residual.ensures.0 (begins_first _ _ (codes "line " ++ decimal c.args.self.now.line) _ c.in_err-put_line.ensures)

pub returns-in-Some : goal.returns-in-Some
returns-in-Some g c =
    let is : option_map (λ (n : Bor (List ℕ)). n.now) c.args.self.now.name ≡ option_map (λ (n : Bor (List ℕ)). n.now) (Some c.in-Some.name) = search (c.in-Some.is, c.in-Some.name-is) in
    subst (λ (t : List ℕ). Writes (g.W.Write.contents c.args.out.now) (g.W.Write.contents c.put_name.new.out) t c.put_name.result)
    (ap (λ (o : Option (List ℕ)). (codes "line " ++ decimal c.args.self.now.line) ++ name_text o) (sym is))
    (writes_then _ _ _ (codes "line " ++ decimal c.args.self.now.line) _ _ c.in_ok-put_line.ensures c.put_name.ensures)

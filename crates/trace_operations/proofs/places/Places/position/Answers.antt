use Rattle.std.proofs.Common.{◌∙◌, ℕ, sym}
use Rattle.trace_operations.specs.Indexed.{known, number_in}
use Rattle.trace_operations.proofs.Indexed.{place_missing, place_there}
use Rattle.trace_operations.proofs.places.Places.position.Goals as goal

pub returns-in-Some : goal.returns-in-Some
returns-in-Some c = λ a e. place_there c.args.order.now a c.args.name c.in-Some.position (λ (n : ℕ × ℕ). known (number_in n.0 n.1 c.args.self.now)) c.requires e (sym c.place.ensures ∙ c.in-Some.is)

pub returns-in-None : goal.returns-in-None
returns-in-None c = λ a e. place_missing c.args.order.now a c.args.name (λ (n : ℕ × ℕ). known (number_in n.0 n.1 c.args.self.now)) c.requires e (sym c.place.ensures ∙ c.in-None.is)

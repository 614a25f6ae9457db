use Rattle.std.proofs.Common.{ℕ, List, ◌∷◌, arith, sym, ap, ◌∙◌, nat_eq, not, ◌&&◌, w8}
use Rattle.std.specs.Int.{trailing_zeros}
use Rattle.directory.specs.Harts.{has, harts_below, members}
use Rattle.directory.proofs.Bytes.{members-none}
use Rattle.directory.proofs.Sets.{members-first}
use Rattle.directory.proofs.harts.HartSet.first.Goals as goal

pub returns-then-self-eq0-clause-least : goal.returns-then-self-eq0-clause-least
returns-then-self-eq0-clause-least c = sym c.self.view_is ∙ ap members c.if-self-eq0.true ∙ members-none

pub returns-clause-least : goal.returns-clause-least
returns-clause-least c =
    let least : ℕ = trailing_zeros w8 c.self.inside.bits in
    sym c.self.view_is
    ∙ members-first c.self.inside.bits (omega arith) (omega arith)
    ∙ ap (λ (harts : List ℕ). least ∷ harts_below 8 (λ h. not (nat_eq h least) && has harts h)) c.self.view_is

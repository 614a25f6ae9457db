use Rattle.std.proofs.Common.{arith, ℕ, [], ◌≡◌, sym, ap, ◌∙◌}
use Rattle.directory.specs.Harts.{members}
use Rattle.directory.proofs.Bytes.{members-none, none_of_members}
use Rattle.directory.proofs.harts.HartSet.is_empty.Goals as goal

pub returns : goal.returns
returns c =
    let bits : ℕ = c.self.inside.bits in
    let to : bits ≡ 0 → c.args.self ≡ [] = λ e. sym c.self.view_is ∙ ap members e ∙ members-none in
    let from : c.args.self ≡ [] → bits ≡ 0 = λ e. none_of_members bits (omega arith) (c.self.view_is ∙ e) in
    grind (arith, to, from)

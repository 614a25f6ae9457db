use Rattle.std.proofs.Common.{sym, ap, ◌∙◌, nat_eq}
use Rattle.std.proofs.lemmas.Nat.Bits.{shr_and_one}
use Rattle.directory.specs.Harts.{has}
use Rattle.directory.proofs.Sets.{has-members}
use Rattle.directory.proofs.harts.HartSet.contains.Goals as goal

pub returns : goal.returns
returns c =
    ap (λ n. nat_eq n 1) (shr_and_one c.self.inside.bits c.args.hart)
    ∙ sym (has-members c.self.inside.bits c.args.hart c.requires)
    ∙ ap (λ harts. has harts c.args.hart) c.self.view_is

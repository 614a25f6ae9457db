use Rattle.std.proofs.Common.{ℕ, List, arith, w8, ap, ◌∙◌, nat_eq, not, ◌&&◌}
use Rattle.std.proofs.lemmas.Nat.Bits.{bit_at_clear_same, bit_at_clear_other}
use Rattle.std.proofs.lemmas.Nat.{and_le_l}
use Rattle.directory.specs.Harts.{has, harts_below}
use Rattle.directory.proofs.Bytes.{bits_of-members}
use Rattle.directory.proofs.Sets.{members-without}
use Rattle.directory.proofs.harts.HartSet.without.Goals as goal

pub invariant_of-result : goal.invariant_of-result
invariant_of-result c = bits_of-members _ (omega (arith, and_le_l))

pub returns : goal.returns
returns c =
    members-without c.self.inside.bits _ c.args.hart (bit_at_clear_same w8 c.self.inside.bits c.args.hart c.requires) (bit_at_clear_other w8 c.self.inside.bits c.args.hart c.requires)
    ∙ ap (λ (harts : List ℕ). harts_below 8 (λ h. not (nat_eq h c.args.hart) && has harts h)) c.self.view_is

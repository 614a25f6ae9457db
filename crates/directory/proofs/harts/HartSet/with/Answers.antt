use Rattle.std.proofs.Common.{ℕ, List, arith, w8, ap, ◌∙◌, nat_eq, ◌||◌}
use Rattle.std.proofs.lemmas.Nat.Bits.{bit_at_set_same, bit_at_set_other}
use Rattle.std.proofs.lemmas.Nat.{or_lt}
use Rattle.directory.specs.Harts.{has, harts_below}
use Rattle.directory.proofs.Bytes.{bits_of-members}
use Rattle.directory.proofs.Sets.{members-with}
use Rattle.directory.proofs.harts.HartSet.with.Goals as goal

pub invariant_of-result : goal.invariant_of-result
invariant_of-result c = bits_of-members _ (or_lt 8 c.self.inside.bits _ (omega arith) (omega arith))

pub returns : goal.returns
returns c =
    members-with c.self.inside.bits _ c.args.hart (bit_at_set_same w8 c.self.inside.bits c.args.hart c.requires) (bit_at_set_other w8 c.self.inside.bits c.args.hart c.requires)
    ∙ ap (λ (harts : List ℕ). harts_below 8 (λ h. nat_eq h c.args.hart || has harts h)) c.self.view_is

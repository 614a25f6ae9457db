use Rattle.std.proofs.Common.{◌∙◌, ap, not, ◌&&◌, nat_eq}
use Rattle.directory.proofs.Sets.{harts_below-same}
use Rattle.directory.proofs.entry.Entry.probes.Goals as goal

pub returns : goal.returns
returns c = c.without.ensures ∙ harts_below-same 8 _ _ (λ h l. ap (λ b. not (nat_eq h c.args.requester) && b) (c.holders.ensures h l))

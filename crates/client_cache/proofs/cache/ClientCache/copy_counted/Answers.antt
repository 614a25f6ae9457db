use Rattle.std.proofs.Common.{sym, ◌∙◌}
use Rattle.client_cache.proofs.Fields.{copy_at-seen}
use Rattle.client_cache.proofs.cache.ClientCache.copy_counted.Goals as goal

pub returns-clause-meaning : goal.returns-clause-meaning
returns-clause-meaning g c = c.copy.ensures.copy ∙ sym (copy_at-seen c.self.inside c.self.invariant c.args.self.now c.self.view_is c.args.line)

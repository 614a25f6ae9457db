use Rattle.std.proofs.Common.{◌∙◌}
use Rattle.schedules.proofs.Leading.{leads_on}
use Rattle.schedules.proofs.player.Player.access.Goals as goal

pub returns-then-has_stepped-clause-leads : goal.returns-then-has_stepped-clause-leads
returns-then-has_stepped-clause-leads c = leads_on _ _ _ (leads_on _ _ _ c.loop-try.invariant.leads c.in_ok-outcome.ensures.leads) c.in_ok-make_way.ensures.leads

pub returns-else-has_stepped-clause-leads : goal.returns-else-has_stepped-clause-leads
returns-else-has_stepped-clause-leads c = leads_on _ _ _ (leads_on _ _ _ c.loop-try.invariant.leads c.in_ok-outcome.ensures.leads) c.in_ok-make_way.ensures.leads

pub loop-try-preserved : goal.loop-try-preserved
loop-try-preserved c = record {
  start = c.in_ok-make_way.ensures.start ∙ c.in_ok-outcome.ensures.start ∙ c.loop-try.invariant.start;
  leads = leads_on _ _ _ (leads_on _ _ _ c.loop-try.invariant.leads c.in_ok-outcome.ensures.leads) c.in_ok-make_way.ensures.leads;
}

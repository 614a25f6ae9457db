use Rattle.std.proofs.Common.{◌∙◌, Ok, Err, None, ap}
use Rattle.coherent_machine.proofs.Refusals.{next_of, refused_next, rest_place}
use Rattle.coherent_machine.specs.TheVariants.{BadEvent, Limit}
use Rattle.schedules.specs.declared.errors.Fault.TheVariants as fault
use Rattle.schedules.proofs.Played.{answered}
use Rattle.schedules.proofs.Replaying.{goes_on}
use Rattle.schedules.proofs.Shorter.{all_before, one_before}
use Rattle.schedules.proofs.player.Player.replay.Goals as goal

pub returns-in-Ok-None-clause-refused : goal.returns-in-Ok-None-clause-refused
returns-in-Ok-None-clause-refused c =
    refused_next _ _ _ _ c.apply.new.self.machine _ _ BadEvent
    (next_of _ _ _ _ c.loop-rest.rest.now _ c.in-len1-up.len_at_least c.loop-rest.invariant.applied)
    (answered _ c.loop-rest.self.machine c.apply.new.self.machine c.apply.result (Ok None) (c.in-Ok-None.is ∙ ap Ok c.in-Ok-None.field-0-is) c.apply.ensures.answers)

pub returns-in-Err-Limit-clause-refused : goal.returns-in-Err-Limit-clause-refused
returns-in-Err-Limit-clause-refused c =
    refused_next _ _ _ _ c.apply.new.self.machine _ _ Limit
    (next_of _ _ _ _ c.loop-rest.rest.now _ c.in-len1-up.len_at_least c.loop-rest.invariant.applied)
    (answered _ c.loop-rest.self.machine c.apply.new.self.machine c.apply.result (Err fault.Limit) (c.in-Err-Limit.is ∙ ap Err c.in-Err-Limit.field-0-is) c.apply.ensures.answers)

pub loop-rest-preserved : goal.loop-rest-preserved
loop-rest-preserved c = record {
  start = c.apply.ensures.start ∙ c.loop-rest.invariant.start;
  applied = goes_on _ c.loop-rest.self.machine c.apply.new.self.machine c.args.events.now c.loop-rest.rest.now c.loop-rest.self.events c.apply.new.self.events c.loop-rest.index _ c.in-len1-up.len_at_least c.apply.ensures.kept
      c.in-Ok-Some.field-0-0 c.apply.result (c.in-Ok-Some.is ∙ ap Ok c.in-Ok-Some.field-0-is) c.apply.ensures.answers c.loop-rest.invariant.applied;
  place = rest_place c.loop-rest.rest.now _ _ c.in-len1-up.len_at_least c.loop-rest.invariant.place;
  kept = one_before c.loop-rest.self.events c.loop-rest.rest.now c.args.events.now _ c.apply.new.self.events c.in-len1-up.len_at_least c.apply.ensures.kept c.loop-rest.invariant.kept;
}

pub returns-clause-sublist : goal.returns-clause-sublist
returns-clause-sublist c = all_before c.loop-rest.self.events c.loop-rest.rest.now c.args.events.now c.loop-rest.invariant.kept

use Rattle.std.proofs.Common.{arith, sym, ◌∙◌}
use Rattle.coherent_machine.proofs.Refusals.{rest_place}
use Rattle.message_search.proofs.Sending.{all_unsent, grown_within, next_found, next_unsent, starts_unsent}
use Rattle.message_search.proofs.first.first_sent.Goals as goal

pub loop-rest-init : goal.loop-rest-init
loop-rest-init c = record {
  unsent = starts_unsent c.args.sought.now c.args.image c.args.config c.args.events.now c.in_ok-machine.machine c.in_ok-machine.ensures.ok;
  place = omega arith;
}

pub is_sent_behind-requires : goal.is_sent_behind-requires
is_sent_behind-requires c = grown_within c.loop-rest.machine c.apply.new.self c.messages_of-told.result c.apply.ensures.grows c.messages_of-told.ensures

pub returns-then-is_sent_behind : goal.returns-then-is_sent_behind
returns-then-is_sent_behind c =
    next_found c.args.sought.now c.args.image c.args.config c.args.events.now c.loop-rest.count c.loop-rest.machine c.apply.new.self c.loop-rest.rest.now _ _ c.messages_of-told.result c.in-len1-up.len_at_least
    c.loop-rest.invariant.unsent c.in_default-apply.ensures.answers c.in_default-apply.ensures.ok c.apply.ensures.grows c.messages_of-told.ensures (sym c.is_sent_behind.ensures ∙ c.if-is_sent_behind.true)

pub loop-rest-preserved : goal.loop-rest-preserved
loop-rest-preserved c = record {
  unsent =
      next_unsent c.args.sought.now c.args.image c.args.config c.args.events.now c.loop-rest.count c.loop-rest.machine c.apply.new.self c.loop-rest.rest.now _ _ c.messages_of-told.result c.in-len1-up.len_at_least
      c.loop-rest.invariant.unsent c.in_default-apply.ensures.answers c.in_default-apply.ensures.ok c.apply.ensures.grows c.messages_of-told.ensures (sym c.is_sent_behind.ensures ∙ c.if-is_sent_behind.false);
  place = rest_place c.loop-rest.rest.now _ _ c.in-len1-up.len_at_least c.loop-rest.invariant.place;
}

pub returns : goal.returns
returns c = all_unsent c.args.sought.now c.args.image c.args.config c.args.events.now c.loop-rest.count c.loop-rest.machine c.loop-rest.rest.now c.in_default.len_below c.loop-rest.invariant.unsent

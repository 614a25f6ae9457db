use Rattle.std.proofs.Common.{◌∙◌, sym}
use Rattle.message_search.proofs.Seeing.{fewer, never_sent, no_fewer}
use Rattle.message_search.proofs.runs.Search.see.Goals as goal

pub returns-in_default-clause-searched : goal.returns-in_default-clause-searched
returns-in_default-clause-searched c = never_sent _ _ _ c.args.searched.now c.args.events.items c.args.first (c.in_default.not-Some) c.requires.searched c.requires.replays c.requires.first

pub returns-then-needs_fewer_than-clause-searched : goal.returns-then-needs_fewer_than-clause-searched
returns-then-needs_fewer_than-clause-searched c =
    no_fewer _ _ _ c.args.searched.now c.args.events.items c.args.first c.in-Some.count c.in-Some.is (sym c.needs_fewer_than.ensures ∙ c.if-needs_fewer_than.true) c.requires.searched c.requires.replays c.requires.first

pub returns-clause-searched : goal.returns-clause-searched
returns-clause-searched c =
    fewer _ _ _ c.args.searched.now c.args.events.items (record { events = c.truncate.new.self }) c.args.first c.in-Some.count c.in-Some.is (sym c.needs_fewer_than.ensures ∙ c.if-needs_fewer_than.false) c.truncate.ensures.items c.requires.searched c.requires.replays c.requires.first

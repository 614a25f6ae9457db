use Rattle.std.proofs.Common.{sym, ap}
use Rattle.client_cache.specs.declared.answers.Want.{Want}
use Rattle.client_cache.specs.Cache.{Cache}
use Rattle.client_cache.proofs.Fields.{wanted-full, wanted-room}
use Rattle.client_cache.proofs.cache.ClientCache.peek_want_counted.Goals as goal

abbrev answer : Want × Cache → Want
answer p = p.0

pub returns-in-Some-room_for-clause-meaning : goal.returns-in-Some-room_for-clause-meaning
returns-in-Some-room_for-clause-meaning g c =
    let r = c.in-Some-room_for.field-0 in
    sym (ap answer (wanted-room c.self.inside c.self.invariant c.args.self.now c.self.view_is c.args.line c.args.grow c.in_default.ensures.released c.in_default.ensures.granted c.in_default.ensures.tracker r.0 r.1 c.in-Some-room_for.ensures.room))

pub returns-in-None-clause-meaning : goal.returns-in-None-clause-meaning
returns-in-None-clause-meaning g c =
    sym (ap answer (wanted-full c.self.inside c.self.invariant c.args.self.now c.self.view_is c.args.line c.args.grow c.in_default.ensures.released c.in_default.ensures.granted c.in_default.ensures.tracker c.in-None.ensures.full))

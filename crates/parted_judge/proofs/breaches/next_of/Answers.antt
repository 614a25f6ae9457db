use Rattle.std.proofs.lemmas.Option.{slice_get_past}
use Rattle.parted_judge.proofs.Parts.{got, next_told, none_further}
use Rattle.parted_judge.proofs.breaches.next_of.Goals as goal

pub returns-in-Some : goal.returns-in-Some
returns-in-Some c =
    next_told c.args.profile c.args.log.now c.args.index c.in-Some.entry.now c.args.judge.now c.next.new.self c.next.result
    (got c.args.log.now c.args.index c.in-Some.entry.now c.in-Some.ensures.lookup.0 c.in-Some.ensures.lookup.1) c.next.ensures

pub returns-in-None : goal.returns-in-None
returns-in-None c =
    let past = c.in-None.ensures.lookup.3 in
    none_further c.args.profile c.args.log.now c.args.index c.args.judge.now (slice_get_past c.args.log.now c.args.index past) past

use Rattle.std.proofs.Common.{rules, ◌≡◌, ◌<◌, length, refl, slice_get, Some}
use Rattle.std.proofs.lemmas.Option.{slice_get_read}
use Rattle.std.specs.VecDeque.{deque_items}
use Rattle.lawful_log.proofs.queues.is_first.Goals as goal

pub returns-in-Some : goal.returns-in-Some
returns-in-Some c =
    let within : 0 < length (deque_items c.args.waiting.now) = search rules in
    let item : slice_get (deque_items c.args.waiting.now) 0 ≡ Some c.in-Some.front.now = slice_get_read (deque_items c.args.waiting.now) (length (deque_items c.args.waiting.now)) 0 c.in-Some.front.now refl within c.in-Some.ensures.lookup in
    (λ same. (let e = c.is_same.ensures.0 same in cc (item, e)), λ first. c.is_same.ensures.1 (cc (item, first)))

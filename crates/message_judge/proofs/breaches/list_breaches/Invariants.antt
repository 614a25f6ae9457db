use Rattle.std.proofs.Common.{◌≤◌, List, take}
use Rattle.std.specs.Option.{option_copied}
use Rattle.coherent_log.specs.Followed as coherence
use Rattle.lawful_log.specs.Followed as order
use Rattle.message_judge.specs.Breaches.{AreBreachesOf, AreTold}
use Rattle.message_judge.specs.declared.breaches.Broken.{Broken}
use Rattle.message_judge.proofs.breaches.list_breaches.Given as goal

-- the log up to here is followed, and its breaches are listed
abbrev pub invariant-loop-index : goal.invariant-loop-index
invariant-loop-index l = record {
  order : order.Follows l.order (take l.index l.log);
  copies : coherence.Follows l.copies (take l.index l.log);
  few : l.count ≤ l.index;
  all : List Broken;
  breaches : AreBreachesOf l.profile (option_copied l.image) l.log l.index all;
  told : AreTold all l.listed.items l.count;
}

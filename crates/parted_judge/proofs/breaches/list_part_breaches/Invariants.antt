use Rattle.std.proofs.Common.{take}
use Rattle.message_judge.specs.Following.{Judges}
use Rattle.parted_judge.specs.Parts.{ArePartBreachesOf}
use Rattle.parted_judge.proofs.breaches.list_part_breaches.Given as goal

-- both logs up to here are judged, and what breaks a rule in one of them is listed
abbrev pub invariant-loop-index : goal.invariant-loop-index
invariant-loop-index l = record {
  one : Judges l.one (take l.index l.first);
  two : Judges l.two (take l.index l.second);
  breaches : ArePartBreachesOf l.profile l.first l.second l.index l.listed.items;
}

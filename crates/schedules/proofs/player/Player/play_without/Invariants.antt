use Rattle.std.proofs.Common.{◌≡◌, take}
use Rattle.schedules.specs.Schedules.{start_of}
use Rattle.schedules.specs.Sublists.{IsSublist}
use Rattle.schedules.proofs.player.Player.play_without.Given as goal

abbrev pub invariant-loop-index : goal.invariant-loop-index
invariant-loop-index l = (start_of l.self ≡ start_of l.fn.self) × IsSublist l.self.events (take l.index l.fn.events)

use Rattle.std.proofs.Common.{◌-◌, take}
use Rattle.trace_text.proofs.ImageLoops.{Memory}
use Rattle.trace_text.proofs.ImageStops.{PassedMemory}
use Rattle.trace_text.proofs.trace_reading.image_of.Given as goal

abbrev pub invariant-loop-start : goal.invariant-loop-start
invariant-loop-start l = Memory l.width l.size l.start l.image.items l.rest l.bytes × PassedMemory l.width l.size l.start (take l.start l.image.items) l.rest l.bytes

abbrev pub decreases-loop-start : goal.decreases-loop-start
decreases-loop-start l = l.size - l.start

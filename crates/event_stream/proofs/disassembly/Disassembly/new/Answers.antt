use Rattle.std.proofs.Common.{None}
use Rattle.std.proofs.lemmas.List.Elements.{All-replicate}
use Rattle.event_stream.specs.Disassembly.{IfKept}
use Rattle.event_stream.proofs.disassembly.Disassembly.new.Goals as goal

pub returns : goal.returns
returns c = λ names. All-replicate (IfKept names) 64 None tt

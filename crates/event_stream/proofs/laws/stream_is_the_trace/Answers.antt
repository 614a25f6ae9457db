use Rattle.event_stream.proofs.TraceOfStream.{stream_is_the_trace}
use Rattle.event_stream.proofs.laws.stream_is_the_trace.Goals as goal

pub returns : goal.returns
returns c = stream_is_the_trace c.nothing_is_rewritten.ensures

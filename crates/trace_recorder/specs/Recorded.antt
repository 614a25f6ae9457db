-- A trace as its lists and the room behind them.
use Rattle.std.specs.Prelude.{◌-◌, map}
use Rattle.std.specs.Vec.{vec_capacity, vec_len}
use Rattle.trace_recorder.specs.History.{Recorded}
use Rattle.trace_recorder.specs.declared.trace.Trace.TheInside.{Inside}

abbrev pub recorded_of : Inside → Recorded
recorded_of t = record {
  history = record {
    image = t.image;
    line = t.line;
    entries = map (λ v. v.items) t.entries.items;
    statuses = t.statuses.items;
    performed = t.performed.items;
    log = t.log.items;
  };
  room = record {
    entries = map (λ v. vec_capacity v - vec_len v) t.entries.items;
    performed = vec_capacity t.performed - vec_len t.performed;
    log = vec_capacity t.log - vec_len t.log;
  };
}

-- A machine's parts as contracts see them.
use Rattle.machine_parts.specs.Standing.{Standing}
use Rattle.machine_parts.specs.declared.parts.Parts.TheInside.{Inside}

-- the parts' fields as the machine's state, beside them the room left in the trace's lists
abbrev pub standing_of : Inside → Standing
standing_of p = record {
  state = record {
    views = record { config = p.config; nodes = p.nodes.items; memory = p.memory; notes = p.directory; changes = p.changes };
    trace = p.trace.history;
  };
  room = p.trace.room;
}

-- What a change leaves in number.
use Rattle.std.specs.Prelude.{◌≡◌, length}
use Rattle.machine_parts.specs.Standing.{Standing}

-- as many nodes, the harts' lists and statuses, and room for as many entries
pub record KeepsLists (old new : Standing) : Type 0 where
  pub nodes : length new.state.views.nodes ≡ length old.state.views.nodes
  pub entries : new.state.trace.entries ≡ old.state.trace.entries
  pub statuses : new.state.trace.statuses ≡ old.state.trace.statuses
  pub room : new.room.entries ≡ old.room.entries

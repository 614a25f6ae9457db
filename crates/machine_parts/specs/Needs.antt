-- How much room an act needs in the trace.
use Rattle.std.specs.Prelude.{ℕ, ◌+◌, ◌≤◌, length, slice_index}
use Rattle.machine_model.specs.declared.act.Act.{Act}
use Rattle.machine_model.specs.declared.act.Act.TheVariants as act
use Rattle.machine_model.specs.Views.{State, node_at}
use Rattle.store_buffer.specs.Entry.{entry_of}
use Rattle.store_buffer.specs.Groups.{oldest}
use Rattle.trace_recorder.specs.History.{Room}

pub record Needs : Type 0 where
  pub entries : ℕ
  pub performed : ℕ
  pub log : ℕ

-- what a hart's act adds at most: a delivery logs its message, and then one to each hart at most
abbrev pub needs_of : State → ℕ → Act → Needs
needs_of s h (act.Stop code) = record { entries = 0; performed = 0; log = 0 }
needs_of s h (act.Retire entry i d) = record { entries = 1; performed = 1; log = 0 }
needs_of s h (act.Miss line grow) = record { entries = 0; performed = 0; log = 1 }
needs_of s h (act.Drain word) = record { entries = 0; performed = length (entry_of word (oldest (node_at s h).buffer)).ops; log = 0 }
needs_of s h (act.Evict line) = record { entries = 0; performed = 0; log = 1 }
needs_of s h (act.Deliver m) = record { entries = 0; performed = 0; log = 1 + length s.views.nodes }
needs_of s h (act.Local count) = record { entries = count; performed = 0; log = 0 }

pub record HasNeeded (h : ℕ) (needs : Needs) (room : Room) : Type 0 where
  pub entries : needs.entries ≤ slice_index room.entries h
  pub performed : needs.performed ≤ room.performed
  pub log : needs.log ≤ room.log

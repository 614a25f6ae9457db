-- That the log tells the state is kept by each event. `Told` says it of any functions of hart and line, an entry further
-- each time; `May` that a message keeps the rules; `Misses`, `Copies`, `Notes` what an act makes of permissions, notes and
-- memory; `Sides` a hart's acts, `Managing` the manager's; `Always` all events.
mod Told
mod May
mod Misses
mod Copies
mod Notes
mod Sides
mod Managing
pub mod Always

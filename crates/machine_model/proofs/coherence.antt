-- Coherence: each line has one writer or many readers, whatever events come.
-- All that one hart has to do with one line (copy, requests, messages under way, what the manager notes) is in one of a
-- few states, told by the part that the line's transaction gives the hart (`LineStands`). `LineViews` reads that off a
-- cache, its queues and the note; `LineKept` says what holds of one line over all harts, and that each act keeps it;
-- `WorldKept` says it of all lines, and of a state of the machine `WorldFits`. Then come the acts one kind after the
-- other (`WorldSteps`, `WorldActs`, `WorldManager`, `WorldDeliveries`), all lists of events (`WorldEvents`), and what it
-- means: at reset it holds, and where it holds a line has one writer (`WorldOpening`).
pub mod LineHeads
pub mod LineKept
pub mod LinePlaces
pub mod LineStands
pub mod LineViews
pub mod WorldActs
pub mod WorldDeliveries
pub mod WorldEvents
pub mod WorldFits
pub mod WorldKept
pub mod WorldManager
pub mod WorldOpening
pub mod WorldSlots
pub mod WorldSteps

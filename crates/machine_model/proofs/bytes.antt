-- Bytes: each copy of a line has the bytes that were performed last, so loads return what the completed order says.
-- A line's last write changes only where a drain, an SC or an AMO writes, and there the performed order gets the same
-- bytes (`Lines`); each act keeps that (`Acts`), and so does every list of events (`Always`).
pub mod Acts
pub mod Always
pub mod Lines

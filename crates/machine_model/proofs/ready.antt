-- Ready: each act finds what it rests on, and everything has the size that it should have.
-- A message says that its receiver waits for it (`Heads`, `Messages`), a deed and a drain that their word may be written (`Deeds`);
-- caches, notes and memory keep their shapes (`Sizes`), and lists grow by what an act says (`Lists`). So it is after
-- every list of events (`Kept`, `Always`).
pub mod Always
pub mod Deeds
pub mod Heads
pub mod Kept
pub mod Lists
pub mod Messages
pub mod Sizes

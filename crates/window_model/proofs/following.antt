-- Following: for each run to its ends with a legal order the bare machine goes from reset to the same ends. It fetches each hart's whole list, and then
-- places the operations in that order.
-- While a hart fetches nothing leaves, so the operations that wait are those of the list so far (`Stretches` is on parts of a list). What each set has
-- precedes what waits for it in preserved program order (`Rules` leads from each rule there, `Kept` says what is kept, `Fetching` that each step keeps it, `Lists` that a whole list does).
pub mod Admitting
pub mod Ended
pub mod Fetching
pub mod Given
pub mod Kept
pub mod Last
pub mod Lists
pub mod Moved
pub mod Paths
pub mod Placing
pub mod Remaining
pub mod Rules
pub mod Stretches
pub mod Whole

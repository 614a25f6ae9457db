pub mod ReplayTold
pub mod Streams
pub mod ExplainTold
pub mod Drawn
pub mod ChartTold
pub mod Waved

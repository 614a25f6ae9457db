pub mod Scripts
mod TraceWriting
mod TraceHeads
pub mod TraceLaws
mod LineSizes
mod HeadLaws
mod ImageLaws
mod WholeTraces
mod TraceLoops
mod ImageLoops
mod NameLaws
mod Refusals
mod FirstLines
mod LineFeeds
mod Stopping
mod SectionStops
mod ImageStops
mod HeaderLines
mod WholeStops
mod AnyLines
mod TraceRefusals
mod Found

pub mod Apart
mod OperandsRead
mod SourcesRead
mod RowsRead
mod ListsRead
mod SegmentsRead
mod InsnsRead
mod PrintedRead
mod Examples

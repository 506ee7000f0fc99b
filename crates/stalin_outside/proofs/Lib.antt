mod Appended
mod Counting
mod Finding
mod FilesTold
mod Interrupted
mod Pieces
mod SomeEnvironment
mod ShowsTrace
pub mod TextsWritten

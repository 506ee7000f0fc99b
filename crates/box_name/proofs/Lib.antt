mod Acts
mod AllParts
mod Boxing
mod Emitting
mod Finding
mod Forming
mod Knowing
mod Listing
mod Numbering
mod Plainness
mod Putting
mod Sureness
mod Telling
mod Whole
pub mod BoxesKnown
pub mod BoxesMade
pub mod BoxesRead
pub mod BoxesWell
pub mod FitExpressions
pub mod FreeSeen
pub mod LiteralsNamed
pub mod MadeOnce
pub mod Members
pub mod NumbersInOrder
pub mod NumbersNamed
pub mod PlacesOnce
pub mod ScopesTold
pub mod ScopesWell
pub mod StepsAsked
pub mod StepsScoped
pub mod StepsWell

mod Somewhere
mod Owned
mod Bounded
mod InSites
mod Escaped
mod FreeListed
mod Gathered
mod InOrder

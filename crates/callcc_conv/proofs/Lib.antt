mod Listing
mod Linking
mod Joining
mod Marking
mod Sets
mod Gathering
mod Rising

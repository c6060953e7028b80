mod Causes
mod Indices
mod Objects
mod Sharing
mod Steps

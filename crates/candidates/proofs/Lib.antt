mod Listing
mod Placed
mod Deep
mod Drawn
mod Sides
mod Pairs

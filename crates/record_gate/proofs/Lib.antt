mod Lists
mod Moves
mod Keeps
mod Calls
mod Seats
mod Own
mod Told
mod Handed

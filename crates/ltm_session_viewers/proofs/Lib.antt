mod Growing
mod Posts
mod Told
mod Closing
mod Scripted
mod Sent

mod Working
mod Changes
mod Takes
mod Workers
mod Ends
mod Between

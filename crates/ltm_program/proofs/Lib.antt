mod Closings
mod Cases
mod Editing
mod Viewings
mod Cuts
mod Runs
mod Lawful
mod Headlines

mod Reported
mod Settled
mod Each
pub mod Counted
pub mod Opening
pub mod Came
pub mod Progress
pub mod Loops
pub mod OneMachine
pub mod Ending
pub mod Besides
mod SameReports
mod SameRows
mod OneOutput
pub mod Looking
mod Pieces
pub mod OneLine
mod Named
mod ReportLines
mod DelayLines
mod RowLines
mod AnswerLines
mod Promised
pub mod Kept

pub mod Seen
pub mod Faults
pub mod AskedSteps
pub mod SolveSteps
pub mod StartSteps
pub mod AnswerSteps
pub mod DuePairs
pub mod GrowSteps

pub mod SolveRuns
pub mod StartRuns
pub mod Answers

pub mod Accounting
pub mod CallRuns
pub mod Promise
pub mod PromiseTests
pub mod Readiness
pub mod TurnRuns

-- Each step keeps the promise (specs/Promise): what books, holders and words tell of the accounts; and what a caller's own calls come to.
mod CallPromises
mod CallRuns
mod DroppedParcels
mod GoingOn
mod Growing
mod HolderOf
mod Holders
mod Inverting
pub mod Kept
pub mod Parcels
mod Pending
mod PendingSteps
mod Promised
mod Ready
mod Refusals
pub mod Resting
mod Retrying
mod Start
mod Tests
pub mod TurnRuns
mod WordCount

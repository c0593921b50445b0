pub mod Working
pub mod Portaling
pub mod PortalSets
pub mod Holding
pub mod HubAnswers
pub mod Locking
pub mod Stops
mod Taking
pub mod AskedInTurn
pub mod Books
pub mod Chairs
pub mod Rounds
pub mod Scanning
pub mod Replaying
pub mod Standing
pub mod TurnsCounted

pub mod Accounts
pub mod Desks
pub mod Ledger
pub mod Searches
pub mod Together

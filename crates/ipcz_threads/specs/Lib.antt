pub mod Rounds
pub mod Shows
pub mod Stages
pub mod Statuses
pub mod Transcripts
pub mod Workers

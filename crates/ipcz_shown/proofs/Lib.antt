-- The accounts that a table tells, and what its turns and its rest do to them.
mod Asides
mod Marks
mod Parts
mod Runs
mod Tables
mod Telling

pub mod Queued
pub mod Ranked

pub mod Verdict

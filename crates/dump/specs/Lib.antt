pub mod Lines
pub mod Dump

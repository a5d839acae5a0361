pub mod Junk

pub mod Parts
mod Ends

pub mod Bench
pub mod JunkNeeded
pub mod WholeNeeded

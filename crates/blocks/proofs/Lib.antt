pub mod Stored
pub mod Lengths
pub mod RoundTrip
pub mod Decoded
pub mod Stores
pub mod Settled
pub mod Lends

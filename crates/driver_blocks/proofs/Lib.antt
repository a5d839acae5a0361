pub mod RoundTrip
pub mod Fitting

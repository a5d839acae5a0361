pub mod Lists
pub mod Decimal
pub mod Hexadecimal
pub mod Words
pub mod Hyphens

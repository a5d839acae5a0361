pub mod Table
mod Examples

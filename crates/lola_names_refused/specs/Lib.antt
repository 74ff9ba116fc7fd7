pub mod Noted
pub mod Words
pub mod Table
pub mod Entries
pub mod Known
pub mod Refused
pub mod Law
pub mod Quantities

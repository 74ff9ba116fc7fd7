pub mod Spelling
pub mod Lexical
pub mod Longest
pub mod Laws
pub mod Cuts
pub mod Tokens
pub mod Written

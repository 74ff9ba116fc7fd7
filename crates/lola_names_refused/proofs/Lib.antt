pub mod Noting
pub mod Entering
pub mod Tables
pub mod Trees
pub mod Repeats
pub mod FirstDeclaration
pub mod Rating
mod Worked

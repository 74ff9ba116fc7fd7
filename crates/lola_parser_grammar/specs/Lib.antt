pub mod Literals
pub mod Grammar
pub mod Cursor
pub mod Whole
pub mod Syntax
pub mod Nestings
pub mod Exceeding

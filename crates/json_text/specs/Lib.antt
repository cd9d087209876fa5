pub mod Numbers
pub mod Values
pub mod Drafts
pub mod Parts
pub mod Inside
pub mod Wholes
pub mod WholeLaws
pub mod Items

pub mod ControlLaws
pub mod NumberLaws
pub mod QueryLaws
pub mod ReplyLaws

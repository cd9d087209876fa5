pub mod ConnLaws
pub mod PutLaws

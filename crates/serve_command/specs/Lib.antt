pub mod InnerEnds
pub mod ServeEnding
pub mod Start
pub mod SteadyLaws

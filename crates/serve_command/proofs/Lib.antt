mod LineLaws
mod Rounds
mod StartLaws
mod SteadyLaws
mod WholeLaws

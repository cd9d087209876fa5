pub mod Inside
pub mod Settings
pub mod SettingsValues
pub mod Vehicle
pub mod WayClasses
pub mod WayRule
pub mod WayTags

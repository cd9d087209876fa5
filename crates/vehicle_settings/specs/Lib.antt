pub mod ClassSettings
pub mod Settings
pub mod SettingsData

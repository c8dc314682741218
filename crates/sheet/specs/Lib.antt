pub mod Clearance
pub mod View
pub mod Told
pub mod Steps
pub mod Stores
pub mod Fresh
pub mod Sheets
pub mod Made

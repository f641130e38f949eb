pub mod Granules
pub mod Blobs
pub mod Damage
pub mod Reading
pub mod GranuleLaws

pub mod Regions
pub mod RegionAt

pub mod Lines
pub mod Course
pub mod World
pub mod Follows
pub mod FollowsOn
pub mod Carries
pub mod Inner
pub mod Conclusion

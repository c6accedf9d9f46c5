pub mod Inner
pub mod Laid
pub mod Lookup
pub mod Meetings
pub mod Pair
pub mod Rooms
pub mod Spread
pub mod Within

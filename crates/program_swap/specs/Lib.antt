pub mod Histories
pub mod Growing
pub mod Board
pub mod Order
pub mod Turn
pub mod Lanes
pub mod Driving
pub mod Again

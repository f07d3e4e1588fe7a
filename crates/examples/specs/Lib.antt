pub mod Approval
pub mod Nap
pub mod Race
pub mod Reminder
pub mod Retry
pub mod Saga
pub mod Sleeper

pub mod Refusals
pub mod Lines
pub mod Files
pub mod Steps
pub mod Outcomes
pub mod Reports
pub mod Printing
pub mod Reporting

pub mod Refusals
pub mod Table
pub mod Ledger
pub mod Sheets

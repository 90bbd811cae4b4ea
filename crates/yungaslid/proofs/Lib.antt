mod Opened
mod Values

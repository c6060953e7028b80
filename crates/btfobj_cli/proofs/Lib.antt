mod Files
mod Reports
mod Changed
mod Compared
mod Above

pub mod Chains
pub mod Alone

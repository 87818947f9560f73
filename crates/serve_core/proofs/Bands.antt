-- What bands cost, and how many of them a budget pays for.
pub mod Costs
pub mod Grants
pub mod Paying

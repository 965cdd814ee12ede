pub mod Listings
pub mod Hypotheses

-- The laws and proofs of `trips`.
pub mod RoundTrips
pub mod TripCalls
pub mod Worked
pub mod Listings
pub mod Olders

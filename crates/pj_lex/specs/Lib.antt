pub mod Bytes
pub mod Tokens
pub mod FirstToken
pub mod Faults
pub mod Laws
pub mod TokenReading
pub mod BodyReading

pub mod Names
pub mod Laid
pub mod Formed
pub mod Agreement
pub mod Laws

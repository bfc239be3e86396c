pub mod ValidParts
pub mod Laws

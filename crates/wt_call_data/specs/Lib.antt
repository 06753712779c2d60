pub mod CallData
pub mod CallParts

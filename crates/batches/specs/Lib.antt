pub mod Curators
pub mod Bodies
pub mod Laws
pub mod Parts

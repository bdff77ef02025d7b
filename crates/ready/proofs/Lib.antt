pub mod Queue
pub mod There

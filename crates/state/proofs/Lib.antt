pub mod First
pub mod Ring
pub mod Views

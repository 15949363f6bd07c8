pub mod Lending
pub mod Given

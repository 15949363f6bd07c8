pub mod RowCopies

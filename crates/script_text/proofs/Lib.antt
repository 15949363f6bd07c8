mod Cuts
mod Digits
mod RowLists
mod Fields
pub mod LineCuts
mod Indexes
mod Readings
mod Tasks
mod Allowed
mod Asked
pub mod Texts
pub mod Again
pub mod WordsAgain
pub mod CommandsAgain
mod RowsAgain
pub mod CallsAgain
pub mod LinesAgain
pub mod ScriptsAgain
mod FieldsFit
mod CommandsFit
mod ScriptsFit

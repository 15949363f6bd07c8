pub mod HoldLemmas
pub mod FlagLaws

pub mod LineLemmas
pub mod TokenLemmas
pub mod FaultLemmas
pub mod GrammarLemmas
pub mod OptionLemmas
pub mod WrittenTexts

mod AtLemmas
pub mod BindLaws
pub mod CauseLemmas
mod decided
mod FaultLemmas
mod FillingLemmas
pub mod FormLemmas
mod LoopLemmas
mod NameLemmas
mod QueryLemmas
mod RepeatLemmas
mod TableLemmas
mod TablesFit

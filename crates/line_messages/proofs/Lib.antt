pub mod PartLemmas
pub mod JoinLemmas
pub mod LawLemmas
pub mod ReadingLemmas

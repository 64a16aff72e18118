pub mod Answer
pub mod AnswerLaws

pub mod TurnLaws
pub mod SeenLaws
pub mod AnswerLaws
pub mod EndLaws
pub mod ReplyLaws
pub mod PieceLaws

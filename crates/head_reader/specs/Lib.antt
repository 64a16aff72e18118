pub mod RequestHead
pub mod HeadLaws
pub mod HeadSpans
pub mod Refusals

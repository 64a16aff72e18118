pub mod PushLaws
pub mod ReadLaws
pub mod TokenLaws
pub mod BackLaws
pub mod LineLaws
pub mod ReadToLaws

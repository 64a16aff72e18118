pub mod KeyLemmas
pub mod OrderLaws
pub mod SampleLaws
pub mod ValueLemmas

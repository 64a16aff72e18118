pub mod AgreementLaws
pub mod LegLaws
pub mod FirstByteLaws
pub mod KnownLaws
pub mod StepLaws
pub mod NoSoonerLaws
pub mod MemoryLaws

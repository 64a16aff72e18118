pub mod LinkLemmas
pub mod PipeLemmas

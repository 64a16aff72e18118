pub mod Pairs
pub mod Names
pub mod Numbers
pub mod Scgi
pub mod View
pub mod Reading
pub mod ScgiLaws

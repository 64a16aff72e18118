pub mod KeepLaws
pub mod SpeakLaws
pub mod QuietLaws
pub mod IdleLaws
pub mod LateLaws
pub mod KindLaws

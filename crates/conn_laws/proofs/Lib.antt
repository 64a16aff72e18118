pub mod QuietLaws
pub mod HopLaws
pub mod IdleLaws
pub mod EndLaws
pub mod FormLaws
pub mod StartLaws
pub mod MoveLaws
pub mod FrontLaws

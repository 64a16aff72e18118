pub mod Handshake
pub mod HandshakeLaws

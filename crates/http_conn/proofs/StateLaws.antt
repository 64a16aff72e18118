-- Laws of the connection's state, passed on.
pub use Rattle.http_state.proofs.KeptLaws.{kept_same, settles_turned}
pub use Rattle.http_state.proofs.DueLaws.{ends_lost, going_found, none_by_mid, turn_found}
pub use Rattle.http_state.proofs.HearLaws.{heard_accepted, heard_kept, heard_tick_counted, heard_tick_last}
pub use Rattle.http_state.proofs.HearsLaws.{hears_by}

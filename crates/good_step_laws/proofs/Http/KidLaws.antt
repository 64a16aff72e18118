-- The child of a connection that is not settled is that of its run.
use Rattle.std.proofs.Common.{◌≡◌, ℕ, Bool, true, false, Option, Some, None, if◌then◌else◌}
use Rattle.std.specs.Option.{option_map}
use Rattle.std.proofs.lemmas.Bool.{false≢true}
use Rattle.child_core.specs.Calls.{is_settled}
use Rattle.child_core.specs.View.{View}
use Rattle.http_conn.specs.HttpConn.{HttpConn}
use Rattle.http_conn.specs.Slot.{unsettled_child_of, unsettled_of}
use Rattle.many_conns.specs.Kept.{is_child}
use Rattle.http_conn.specs.Kid.{number_in}

pub unsettled_is_last : (conn : HttpConn) (k : ℕ) → is_child (unsettled_child_of conn) k ≡ true → is_child (option_map number_in conn.run) k ≡ true
unsettled_is_last conn k is = go conn.run is
  where
    go : (run : Option View) → is_child (unsettled_of run) k ≡ true → is_child (option_map number_in run) k ≡ true
    go None e = absurd (false≢true e)
    go (Some v) e = by (is_settled v) e
      where
        by : (b : Bool) → is_child (if b then None else Some v.number) k ≡ true → is_child (Some v.number) k ≡ true
        by true e = absurd (false≢true e)
        by false e = e

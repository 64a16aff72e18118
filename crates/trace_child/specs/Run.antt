-- A run: one child, and what the host goes by when it deals with it.
use Rattle.std.specs.Prelude.{ℕ, Bool, true, not, List, []}
use Rattle.host_base.specs.declared.limits.Limits.{Limits}
use Rattle.host_base.specs.declared.site.ScriptKind.{ScriptKind}
use Rattle.host_trace.specs.declared.items.Item.{Item}
use Rattle.host_trace.specs.Decider.{is_websocket}

-- what there is for the child's input: the body as far as it was heard, and whether that is all of it
pub record Offer : Type 0 where
  pub body : List ℕ
  pub whole : Bool

-- The child was started for a connection; its output is read by its kind; it is kept to these limits; and after some
-- items this is there for its input. All items are those of one list, in which the child's Start stands.
pub record Run : Type 0 where
  pub conn : ℕ
  pub child : ℕ
  pub kind : ScriptKind
  pub limits : Limits
  pub offered : List Item → Offer

-- no body, as after a local redirect (RFC 3875 6.2.2)
abbrev pub no_body : List Item → Offer
no_body items = record { body = []; whole = true }

-- a request's body is its input; that of a WebSocket's program are the texts of its client
abbrev pub takes_body : Run → Bool
takes_body run = not (is_websocket run.kind)

-- A local redirect asks for no WebSocket.
use Rattle.std.proofs.Common.{◌≡◌, ℕ, Bool, true, false, List, [], ◌∷◌, refl, ap, ◌∙◌, inl, inr}
use Rattle.std.specs.Prelude.{◌&&◌, ◌||◌, not, if◌then◌else◌, filter, map, bytes_eq, codes}
use Rattle.std.specs.List.{flat_map, list_any}
use Rattle.std.specs.Str.{str_eq_ignore_ascii_case}
use Rattle.std.proofs.lemmas.Bool.{cases_Bool, false≢true}
use Rattle.host_base.specs.Ascii.{comma_words}
use Rattle.host_base.specs.FieldLists.{is_named, value_of}
use Rattle.host_base.specs.declared.fields.Field.{Field}
use Rattle.host_base.specs.declared.request.Request.{Request}
use Rattle.host_base.specs.declared.request.Target.{Target}
use Rattle.request_reader.specs.Request.{begins_name, is_kept, redirected}
use Rattle.ws_handshake.specs.Handshake.{asks_websocket, handshake, is_1_1, lists}
use Rattle.talk_laws.specs.Welcome.{RedirectsAskNoWebSocket}

-- a field under the name is left out
named_left : (f : Field) → is_named (codes "Upgrade") f ≡ true → is_kept f ≡ false
named_left f is =
    go (is_named (codes "Content-Length") f) (is_named (codes "Content-Type") f) (is_named (codes "Transfer-Encoding") f) (is_named (codes "Expect") f)
    (is_named (codes "Upgrade") f) (is_named (codes "Connection") f || begins_name (codes "Sec-WebSocket-") f) is
  where
    go : (l t e x u r : Bool) → u ≡ true → not (l || (t || (e || (x || (u || r))))) ≡ false
    go true t e x u r is = refl
    go false true e x u r is = refl
    go false false true x u r is = refl
    go false false false true u r is = refl
    go false false false false true r is = refl
    go false false false false false r is = absurd (false≢true is)

none_named : (fields : List Field) → filter (is_named (codes "Upgrade")) (filter is_kept fields) ≡ []
none_named [] = refl
none_named (f ∷ fields) = elim (cases_Bool (is_named (codes "Upgrade") f)) [
  | inl named ↦ rw (named_left f named) (none_named fields)
  | inr other ↦ elim (is_kept f) as (λ b. filter (is_named (codes "Upgrade")) (if b then f ∷ filter is_kept fields else filter is_kept fields) ≡ []) [
    | true ↦ rw other (none_named fields)
    | false ↦ none_named fields
  ]
]

lists_none : (fields : List Field) (word : List ℕ) → lists (filter is_kept fields) (codes "Upgrade") word ≡ false
lists_none fields word = ap (λ l. list_any (str_eq_ignore_ascii_case word) (flat_map comma_words (map value_of l))) (none_named fields)

asks_none : (a b d : Bool) → (a && b && false && d) ≡ false
asks_none true true d = refl
asks_none true false d = refl
asks_none false b d = refl

asks_no_websocket : (request : Request) (target : Target) → asks_websocket (redirected request target) ≡ false
asks_no_websocket request target =
    ap (λ b. bytes_eq (redirected request target).method (codes "GET") && is_1_1 request.version && b
    && lists (filter is_kept request.fields) (codes "Connection") (codes "Upgrade")) (lists_none request.fields (codes "websocket"))
    ∙ asks_none (bytes_eq (redirected request target).method (codes "GET")) (is_1_1 request.version) (lists (filter is_kept request.fields) (codes "Connection") (codes "Upgrade"))

pub redirects_ask_no_websocket : RedirectsAskNoWebSocket
unfolding handshake
redirects_ask_no_websocket request target origins = rw (asks_no_websocket request target) refl

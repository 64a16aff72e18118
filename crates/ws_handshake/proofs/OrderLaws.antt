-- Each check in the words of RFC 6455, and their order.
use Rattle.std.proofs.Common.{◌≡◌, ◌⊎◌, ℕ, Bool, true, false, ◌&&◌, not, cond, List, [], ◌∷◌, ◌++◌, length, refl, sym, ap, ◌∙◌, inl, inr, Option, Some, None, Result, Ok, Err, codes, true≢false}
use Rattle.std.specs.Prelude.{unwrap_or, slice_index_or, Contains}
use Rattle.std.specs.List.{list_any}
use Rattle.std.specs.Option.{option_map}
use Rattle.std.specs.Str.{bytes_eq}
use Rattle.std.proofs.lemmas.Bool.{cases_Bool, and_parts, eqb-true, eq-eqb}
use Rattle.std.proofs.lemmas.List.Folds.{Any-from_list_any, list_any-from_Any, list_any_at}
use Rattle.std.proofs.lemmas.Slice.Eq.{bytes_eq-Decides}
use Rattle.httparse.specs.Grammar.{trim_ows}
use Rattle.sha1.specs.Sha1.{sha1}
use Rattle.base64.specs.declared.decode.DecodeError.{DecodeError}
use Rattle.base64.specs.Engines.{standard}
use Rattle.base64.specs.GeneralPurpose.{IsBytes, decode_of, encode_of}
use Rattle.base64.proofs.EngineFacts.{decode_of_strict, decode_of-encode_of}
use Rattle.host_base.specs.declared.cause.Cause.{Cause}
use Rattle.host_base.specs.declared.cause.Cause.TheVariants.{BadHandshake, OriginRefused, UpgradeNeeded}
use Rattle.host_base.specs.declared.request.Framing.{Framing}
use Rattle.host_base.specs.declared.request.Framing.TheVariants.{Empty, Length, Chunked}
use Rattle.host_base.specs.declared.request.Request.{Request}
use Rattle.host_base.specs.declared.request.Version.{Version}
use Rattle.host_base.specs.declared.request.Version.TheVariants.{V10, V11}
use Rattle.host_base.specs.FieldLists.{values_named}
use Rattle.ws_handshake.specs.Handshake.{accept_value, asks_version_13, asks_websocket, brings_key, gives_bytes, handshake, is_1_1, is_bodyless, is_key, is_origin_taken, key_of, only, passes, protocol_id}
use Rattle.ws_handshake.specs.HandshakeLaws.{AsksWebSocket, BringsKey, BringsSomeKey, HandshakesAreJudgedInOrder, IsEncodedNonce, KeysAreNonces, TakesOrigin}

-- ---- the key

bytes_given : (count : ℕ) (r : Result (List ℕ) DecodeError) → gives_bytes count r ≡ true → (b : List ℕ) × (r ≡ Ok b) × (length b ≡ count)
bytes_given count (Ok b) is = (b, refl, eqb-true (length b) count is)
bytes_given count (Err e) is = absurd (cc)

key_encoded : (nonce : List ℕ) → IsBytes nonce → length nonce ≡ 16 → is_key (encode_of standard nonce) ≡ true
unfolding is_key
key_encoded nonce bytes len = ap (gives_bytes 16) (decode_of-encode_of standard nonce refl bytes) ∙ eq-eqb (length nonce) 16 len

key_decoded : (text : List ℕ) → IsBytes text → is_key text ≡ true → IsEncodedNonce text
unfolding is_key
key_decoded text bytes is =
    let given = bytes_given 16 (decode_of standard text) is in
    record { nonce = given.0; len = given.2; encoded = decode_of_strict standard text given.0 (refl, refl) bytes given.1 }

pub keys_are_nonces : KeysAreNonces
keys_are_nonces = record { encoded = key_encoded; decoded = key_decoded }

-- ---- the one value

only-some : (values : List (List ℕ)) (value : List ℕ) → only values ≡ Some value → values ≡ value ∷ []
only-some [] value is = absurd (cc)
only-some (v ∷ []) value is = let e : v ≡ value = cc in ap (λ (x : List ℕ). x ∷ []) e
only-some (v ∷ w ∷ values) value is = absurd (cc)

passes-some : (p : List ℕ → Bool) (o : Option (List ℕ)) → passes p o ≡ true → (value : List ℕ) × (o ≡ Some value) × (p value ≡ true)
passes-some p None is = absurd (cc)
passes-some p (Some value) is = (value, refl, is)

-- ---- the checks

http_1_1 : (version : Version) → is_1_1 version ≡ true → version ≡ V11
http_1_1 V10 is = absurd (cc)
http_1_1 V11 is = refl

bodyless : (framing : Framing) → is_bodyless framing ≡ true → (framing ≡ Empty) ⊎ (framing ≡ Length 0)
bodyless Empty is = inl refl
bodyless (Length n) is = inr (ap (λ (k : ℕ). Length k) (eqb-true n 0 is))
bodyless Chunked is = absurd (cc)

bodyless_is : (framing : Framing) → (framing ≡ Empty) ⊎ (framing ≡ Length 0) → is_bodyless framing ≡ true
bodyless_is framing (inl is) = ap is_bodyless is
bodyless_is framing (inr is) = ap is_bodyless is

both : (a b : Bool) → a ≡ true → b ≡ true → (a && b) ≡ true
both a b x y = ap (λ (c : Bool). c && b) x ∙ y

asks : (request : Request) → (asks_websocket request && asks_version_13 request) ≡ true → AsksWebSocket request
asks request is =
    let parts = and_parts (asks_websocket request) (asks_version_13 request) is in
    let first = and_parts _ _ parts.0 in
    let second = and_parts _ _ first.0 in
    let third = and_parts _ _ second.0 in
    let values = values_named (codes "Sec-WebSocket-Version") request.fields in
    let one = passes-some (bytes_eq (codes "13")) (only values) parts.1 in
    record {
      method = (bytes_eq-Decides request.method (codes "GET")).0 third.0;
      http = http_1_1 request.version third.1;
      upgrade = Any-from_list_any _ _ second.1;
      connection = Any-from_list_any _ _ first.1;
      version = only-some values one.0 one.1 ∙ ap (λ (v : List ℕ). v ∷ []) (sym ((bytes_eq-Decides (codes "13") one.0).0 one.2));
    }

asks_is : (request : Request) → AsksWebSocket request → (asks_websocket request && asks_version_13 request) ≡ true
asks_is request a =
    both (asks_websocket request) (asks_version_13 request)
    (both _ _
    (both _ _
    (both _ _ ((bytes_eq-Decides request.method (codes "GET")).1 a.method) (ap is_1_1 a.http))
    (list_any-from_Any _ _ a.upgrade))
    (list_any-from_Any _ _ a.connection))
    (ap (λ (values : List (List ℕ)). passes (bytes_eq (codes "13")) (only values)) a.version ∙ (bytes_eq-Decides (codes "13") (codes "13")).1 refl)

trimmed-some : (o : Option (List ℕ)) (key : List ℕ) → option_map trim_ows o ≡ Some key → (value : List ℕ) × (o ≡ Some value) × (trim_ows value ≡ key)
trimmed-some None key is = absurd (cc)
trimmed-some (Some value) key is = (value, refl, cc)

brings : (request : Request) → brings_key request ≡ true → (key : List ℕ) × (key_of request ≡ Some key) × BringsKey request key
brings request is =
    let parts = and_parts (passes is_key (key_of request)) (is_bodyless request.framing) is in
    let key = passes-some is_key (key_of request) parts.0 in
    let values = values_named (codes "Sec-WebSocket-Key") request.fields in
    let own = trimmed-some (only values) key.0 key.1 in (
      key.0,
      key.1,
      record {
        value = own.0;
        one = only-some values own.0 own.1;
        trimmed = own.2;
        decodes = key.2;
        bodyless = bodyless request.framing parts.1;
      },
    )

brought : (request : Request) (key : List ℕ) → BringsKey request key → key_of request ≡ Some key
brought request key b =
    ap (λ (values : List (List ℕ)). option_map trim_ows (only values)) b.one ∙ ap (λ (t : List ℕ). Some t) b.trimmed

brings_is : (request : Request) (key : List ℕ) → BringsKey request key → brings_key request ≡ true
brings_is request key b =
    both (passes is_key (key_of request)) (is_bodyless request.framing)
    (ap (passes is_key) (brought request key b) ∙ b.decodes)
    (bodyless_is request.framing b.bodyless)

contained : (origins : List (List ℕ)) (origin : List ℕ) → list_any (bytes_eq origin) origins ≡ true → Contains origins origin
contained origins origin is =
    let some = Any-from_list_any (bytes_eq origin) origins is in
    let same : origin ≡ some.1 = (bytes_eq-Decides origin some.1).0 some.4 in
    (some.0, some.2, ap (λ (d : List ℕ). slice_index_or origins some.0 d) same ∙ some.3 ∙ sym same)

contained_is : (origins : List (List ℕ)) (origin : List ℕ) → Contains origins origin → list_any (bytes_eq origin) origins ≡ true
contained_is origins origin c =
    list_any_at (bytes_eq origin) origins c.0 origin c.1 ((bytes_eq-Decides origin (slice_index_or origins c.0 origin)).1 (sym c.2))

takes : (request : Request) (origins : Option (List (List ℕ))) → is_origin_taken origins request ≡ true → TakesOrigin request origins
takes request None is = tt
takes request (Some origins) is =
    let values = values_named (codes "Origin") request.fields in
    let one = passes-some (λ value. list_any (bytes_eq value) origins) (only values) is in
    record { origin = one.0; one = only-some values one.0 one.1; taken = contained origins one.0 one.2 }

takes_is : (request : Request) (origins : Option (List (List ℕ))) → TakesOrigin request origins → is_origin_taken origins request ≡ true
takes_is request None t = refl
takes_is request (Some origins) t =
    ap (λ (values : List (List ℕ)). passes (λ value. list_any (bytes_eq value) origins) (only values)) t.one ∙ contained_is origins t.origin t.taken

-- ---- the order

-- what is answered where the checks have these results
abbrev judged : Bool → Bool → Bool → Bool → List ℕ → Result (List ℕ) Cause
judged a v k o value = cond (not a) (Err UpgradeNeeded) (cond (not v) (Err UpgradeNeeded) (cond (not k) (Err BadHandshake) (cond (not o) (Err OriginRefused) (Ok value))))

-- the results of the checks, where this was answered
record Passed (a v k o : Bool) (value w : List ℕ) : Type 0 where
  asked : (a && v) ≡ true
  keyed : k ≡ true
  taken : o ≡ true
  same : value ≡ w

ok-passed : (a v k o : Bool) (value w : List ℕ) → judged a v k o value ≡ Ok w → Passed a v k o value w
ok-passed false v k o value w is = absurd (cc)
ok-passed true false k o value w is = absurd (cc)
ok-passed true true false o value w is = absurd (cc)
ok-passed true true true false value w is = absurd (cc)
ok-passed true true true true value w is = record { asked = refl; keyed = refl; taken = refl; same = cc }

passed-ok : (a v k o : Bool) (value w : List ℕ) → Passed a v k o value w → judged a v k o value ≡ Ok w
passed-ok false v k o value w p = let e = p.asked in absurd (cc)
passed-ok true false k o value w p = let e = p.asked in absurd (cc)
passed-ok true true false o value w p = let e = p.keyed in absurd (cc)
passed-ok true true true false value w p = let e = p.taken in absurd (cc)
passed-ok true true true true value w p = ap (λ (x : List ℕ). Ok x) p.same

unasked : (a v k o : Bool) (value : List ℕ) → judged a v k o value ≡ Err UpgradeNeeded → (a && v) ≡ false
unasked false v k o value is = refl
unasked true false k o value is = refl
unasked true true false o value is = absurd (cc)
unasked true true true false value is = absurd (cc)
unasked true true true true value is = absurd (cc)

unasked_is : (a v k o : Bool) (value : List ℕ) → (a && v) ≡ false → judged a v k o value ≡ Err UpgradeNeeded
unasked_is false v k o value is = refl
unasked_is true false k o value is = refl
unasked_is true true k o value is = absurd (cc)

unkeyed : (a v k o : Bool) (value : List ℕ) → judged a v k o value ≡ Err BadHandshake → ((a && v) ≡ true) × (k ≡ false)
unkeyed false v k o value is = absurd (cc)
unkeyed true false k o value is = absurd (cc)
unkeyed true true false o value is = (refl, refl)
unkeyed true true true false value is = absurd (cc)
unkeyed true true true true value is = absurd (cc)

unkeyed_is : (a v k o : Bool) (value : List ℕ) → (a && v) ≡ true → k ≡ false → judged a v k o value ≡ Err BadHandshake
unkeyed_is false v k o value asked none = absurd (cc)
unkeyed_is true false k o value asked none = absurd (cc)
unkeyed_is true true false o value asked none = refl
unkeyed_is true true true o value asked none = absurd (cc)

untaken : (a v k o : Bool) (value : List ℕ) → judged a v k o value ≡ Err OriginRefused → ((a && v) ≡ true) × (k ≡ true) × (o ≡ false)
untaken false v k o value is = absurd (cc)
untaken true false k o value is = absurd (cc)
untaken true true false o value is = absurd (cc)
untaken true true true false value is = (refl, refl, refl)
untaken true true true true value is = absurd (cc)

untaken_is : (a v k o : Bool) (value : List ℕ) → (a && v) ≡ true → k ≡ true → o ≡ false → judged a v k o value ≡ Err OriginRefused
untaken_is false v k o value asked keyed none = absurd (cc)
untaken_is true false k o value asked keyed none = absurd (cc)
untaken_is true true false o value asked keyed none = absurd (cc)
untaken_is true true true false value asked keyed none = refl
untaken_is true true true true value asked keyed none = absurd (cc)

-- a test that fails, and what it decides
refuted : (b : Bool) (P : Type 0) → (P → b ≡ true) → b ≡ false → ¬ P
refuted b P to none p = true≢false (sym (to p) ∙ none)

failed : (b : Bool) (P : Type 0) → (b ≡ true → P) → ¬ P → b ≡ false
failed b P from against =
    elim (cases_Bool b) [
      | inl holds ↦ absurd (against (from holds))
      | inr none ↦ none
    ]

handshake-judged : (request : Request) (origins : Option (List (List ℕ))) → handshake request origins
    ≡ judged (asks_websocket request) (asks_version_13 request) (brings_key request) (is_origin_taken origins request) (accept_value (unwrap_or (key_of request) []))
unfolding handshake
handshake-judged request origins = refl

accepted_value : (request : Request) (key : List ℕ) → key_of request ≡ Some key → accept_value (unwrap_or (key_of request) []) ≡ encode_of standard (sha1 (key ++ protocol_id))
unfolding accept_value
accepted_value request key is = ap (λ (k : Option (List ℕ)). accept_value (unwrap_or k [])) is

pub handshakes_are_judged_in_order : HandshakesAreJudgedInOrder
handshakes_are_judged_in_order request origins =
    let a = asks_websocket request in
    let v = asks_version_13 request in
    let k = brings_key request in
    let o = is_origin_taken origins request in
    let value = accept_value (unwrap_or (key_of request) []) in
    let is = handshake-judged request origins in
    let some : k ≡ true → BringsSomeKey request = λ h. ((brings request h).0, (brings request h).2) in
    let some_is : BringsSomeKey request → k ≡ true = λ h. brings_is request h.0 h.1 in
    record {
      accepted = λ w. (
        λ e.
            let p = ok-passed a v k o value w (sym is ∙ e) in
            let b = brings request p.keyed in
            record {
              key = b.0;
              asks = asks request p.asked;
              brings = b.2;
              taken = takes request origins p.taken;
              answers = sym p.same ∙ accepted_value request b.0 b.1;
            },
        λ r. is ∙ passed-ok a v k o value w (record {
          asked = asks_is request r.asks;
          keyed = brings_is request r.key r.brings;
          taken = takes_is request origins r.taken;
          same = accepted_value request r.key (brought request r.key r.brings) ∙ sym r.answers;
        }),
      );
      upgrade_needed = (
        λ e. refuted (a && v) (AsksWebSocket request) (asks_is request) (unasked a v k o value (sym is ∙ e)),
        λ against. is ∙ unasked_is a v k o value (failed (a && v) (AsksWebSocket request) (asks request) against),
      );
      bad_handshake = (
        λ e.
            let p = unkeyed a v k o value (sym is ∙ e) in
            (asks request p.0, refuted k (BringsSomeKey request) some_is p.1),
        λ r. is ∙ unkeyed_is a v k o value (asks_is request r.0) (failed k (BringsSomeKey request) some r.1),
      );
      origin_refused = (
        λ e.
            let p = untaken a v k o value (sym is ∙ e) in
            (asks request p.0, some p.1, refuted o (TakesOrigin request origins) (takes_is request origins) p.2),
        λ r. is ∙ untaken_is a v k o value (asks_is request r.0) (some_is r.1) (failed o (TakesOrigin request origins) (takes request origins) r.2),
      );
    }

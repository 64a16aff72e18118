-- The tokens of an item have no space and no LF, and are read as that item.
use Rattle.std.proofs.Common.{◌≡◌, ℕ, ◌/◌, ◌%◌, ◌<◌, ◌^◌, true, false, List, [], ◌∷◌, ◌++◌, refl, arith, codes, length, lit<}
use Rattle.std.specs.Prelude.{All, nat_lt}
use Rattle.std.specs.Fmt.{decimal, digit_glyph}
use Rattle.std.specs.List.{flat_map, list_all}
use Rattle.std.proofs.lemmas.Bool.{and_parts, ltb-true}
use Rattle.std.proofs.lemmas.Bool.Decides.{nat_tests}
use Rattle.std.proofs.lemmas.Fmt.{decimal_is_IsNumeral_wide}
use Rattle.std.proofs.lemmas.List.Elements.{All-cons, All-from_get_or, All-nil}
use Rattle.std.proofs.lemmas.Str.Parse.{digit_at}
use Rattle.host_base.specs.declared.cause.Cause.{Cause}
use Rattle.host_base.specs.declared.cause.Cause.TheVariants as cause
use Rattle.host_base.specs.declared.launch.Launch.{Launch}
use Rattle.host_base.specs.declared.launch.Pair.{Pair}
use Rattle.host_trace.specs.declared.items.Event.{Event}
use Rattle.host_trace.specs.declared.items.Event.TheVariants as event
use Rattle.host_trace.specs.declared.items.Act.{Act}
use Rattle.host_trace.specs.declared.items.Act.TheVariants as act
use Rattle.host_trace.specs.declared.items.Item.{Item}
use Rattle.host_trace.specs.declared.items.Item.TheVariants.{In, Out}
use Rattle.host_trace.specs.declared.items.Why.{Why}
use Rattle.host_trace.specs.declared.items.Why.TheVariants as why
use Rattle.trace_text.specs.Spelling.{Tokens, act_tokens, cause_tokens, event_tokens, hex, hex_byte, launch_tokens, mark_of, pairs, texts, tokens_of, why_tokens}
use Rattle.trace_text.specs.Items.{IsAct, IsCause, IsEvent, IsItem, IsLaunch, IsWhy}

-- ---- bytes that are no blank

abbrev pub IsToken : List ℕ → Type 0
IsToken token = All (λ b. 32 < b) token

abbrev pub AreTokens : Tokens → Type 0
AreTokens [] = Unit {0}
AreTokens (token ∷ tokens) = IsToken token × AreTokens tokens

tokens-append : (xs ys : Tokens) → AreTokens xs → AreTokens ys → AreTokens (xs ++ ys)
tokens-append [] ys h k = k
tokens-append (x ∷ xs) ys h k = (h.0, tokens-append xs ys h.1 k)

name : (t : List ℕ) → list_all (nat_lt 32) t ≡ true → IsToken t
name [] h = All-nil (λ b. 32 < b)
name (b ∷ t) h = let p = and_parts (nat_lt 32 b) (list_all (nat_lt 32) t) h in All-cons (λ b. 32 < b) b t (ltb-true 32 b p.0) (name t p.1)

pub below_128 : (n : ℕ) → n < 2 ^ 128 → n < 10 ^ 64
below_128 n h = let big : 2 ^ 128 < 10 ^ 64 = lit< tt in omega (arith, h, big)

pub below_64 : (n : ℕ) → n < 2 ^ 64 → n < 10 ^ 64
below_64 n h = let big : 2 ^ 64 < 10 ^ 64 = lit< tt in omega (arith, h, big)

pub below_32 : (n : ℕ) → n < 2 ^ 32 → n < 10 ^ 64
below_32 n h = let big : 2 ^ 32 < 10 ^ 64 = lit< tt in omega (arith, h, big)

pub below_16 : (n : ℕ) → n < 2 ^ 16 → n < 10 ^ 64
below_16 n h = let big : 2 ^ 16 < 10 ^ 64 = lit< tt in omega (arith, h, big)

decimal_token : (n : ℕ) → n < 10 ^ 64 → IsToken (decimal n)
decimal_token n small =
    let digits = (decimal_is_IsNumeral_wide n small).0.1 in
    All-from_get_or (λ b. 32 < b) (decimal n) 0 (λ k inside. let range = digit_at (decimal n) k digits inside in omega (arith, range.0))

glyph : (d : ℕ) → 32 < digit_glyph false d
glyph d = grind (arith, nat_tests)

hex_digits : (bytes : List ℕ) → IsToken (flat_map hex_byte bytes)
hex_digits [] = All-nil (λ b. 32 < b)
hex_digits (b ∷ bytes) =
    All-cons (λ b. 32 < b) (digit_glyph false (b / 16)) (digit_glyph false (b % 16) ∷ flat_map hex_byte bytes) (glyph (b / 16))
    (All-cons (λ b. 32 < b) (digit_glyph false (b % 16)) (flat_map hex_byte bytes) (glyph (b % 16)) (hex_digits bytes))

hex_token : (bytes : List ℕ) → IsToken (hex bytes)
hex_token bytes = All-cons (λ b. 32 < b) 120 (flat_map hex_byte bytes) (lit< tt) (hex_digits bytes)

texts_tokens : (list : List (List ℕ)) → AreTokens (texts list)
texts_tokens [] = tt
texts_tokens (text ∷ list) = (hex_token text, texts_tokens list)

pairs_tokens : (list : List Pair) → AreTokens (pairs list)
pairs_tokens [] = tt
pairs_tokens (pair ∷ list) = (hex_token pair.name, (hex_token pair.value, pairs_tokens list))

launch_are : (l : Launch) → IsLaunch l → AreTokens (launch_tokens l)
launch_are l h = (
  hex_token l.program,
  (
    hex_token l.dir,
    (
      decimal_token (length l.args) (below_64 (length l.args) h.args.count),
      tokens-append (texts l.args) _ (texts_tokens l.args) (decimal_token (length l.env) (below_64 (length l.env) h.env.count), pairs_tokens l.env),
    ),
  ),
)

cause_are : (x : Cause) → IsCause x → AreTokens (cause_tokens x)
cause_are cause.BadHead h = (name (codes "BadHead") refl, tt)
cause_are cause.Incomplete h = (name (codes "Incomplete") refl, tt)
cause_are cause.BadTarget h = (name (codes "BadTarget") refl, tt)
cause_are cause.BadHost h = (name (codes "BadHost") refl, tt)
cause_are cause.BadFraming h = (name (codes "BadFraming") refl, tt)
cause_are cause.BadChunk h = (name (codes "BadChunk") refl, tt)
cause_are cause.BadPath h = (name (codes "BadPath") refl, tt)
cause_are cause.BadHandshake h = (name (codes "BadHandshake") refl, tt)
cause_are cause.BadScgi h = (name (codes "BadScgi") refl, tt)
cause_are cause.BadParams h = (name (codes "BadParams") refl, tt)
cause_are cause.BadRecord h = (name (codes "BadRecord") refl, tt)
cause_are cause.OriginRefused h = (name (codes "OriginRefused") refl, tt)
cause_are cause.NoScript h = (name (codes "NoScript") refl, tt)
cause_are cause.IdleTime h = (name (codes "IdleTime") refl, tt)
cause_are cause.BodyTooLong h = (name (codes "BodyTooLong") refl, tt)
cause_are cause.TargetTooLong h = (name (codes "TargetTooLong") refl, tt)
cause_are cause.BadExpect h = (name (codes "BadExpect") refl, tt)
cause_are cause.UnknownHost h = (name (codes "UnknownHost") refl, tt)
cause_are cause.UpgradeNeeded h = (name (codes "UpgradeNeeded") refl, tt)
cause_are cause.HeadTooLong h = (name (codes "HeadTooLong") refl, tt)
cause_are cause.TooManyFields h = (name (codes "TooManyFields") refl, tt)
cause_are cause.RedirectLoop h = (name (codes "RedirectLoop") refl, tt)
cause_are cause.NotServed h = (name (codes "NotServed") refl, tt)
cause_are cause.CodingUnknown h = (name (codes "CodingUnknown") refl, tt)
cause_are cause.StartFailed h = (name (codes "StartFailed") refl, tt)
cause_are cause.OutputBroken h = (name (codes "OutputBroken") refl, tt)
cause_are cause.OutputTooLarge h = (name (codes "OutputTooLarge") refl, tt)
cause_are cause.NoOutput h = (name (codes "NoOutput") refl, tt)
cause_are cause.HeaderIncomplete h = (name (codes "HeaderIncomplete") refl, tt)
cause_are cause.HeaderTooLarge h = (name (codes "HeaderTooLarge") refl, tt)
cause_are cause.HeaderLine h = (name (codes "HeaderLine") refl, tt)
cause_are cause.HeaderRepeated h = (name (codes "HeaderRepeated") refl, tt)
cause_are cause.BadStatus h = (name (codes "BadStatus") refl, tt)
cause_are cause.BadLocation h = (name (codes "BadLocation") refl, tt)
cause_are cause.NoneOfThree h = (name (codes "NoneOfThree") refl, tt)
cause_are cause.RunTime h = (name (codes "RunTime") refl, tt)
cause_are (cause.Full seen) h = (name (codes "Full") refl, (decimal_token seen (below_32 seen h), tt))

why_are : (x : Why) → IsWhy x → AreTokens (why_tokens x)
why_are why.Done h = (name (codes "Done") refl, tt)
why_are why.Gone h = (name (codes "Gone") refl, tt)
why_are why.Idle h = (name (codes "Idle") refl, tt)
why_are why.Full h = (name (codes "Full") refl, tt)
why_are why.Stopped h = (name (codes "Stopped") refl, tt)
why_are why.NoMemory h = (name (codes "NoMemory") refl, tt)
why_are (why.Cut told) h = (name (codes "Cut") refl, cause_are told h)

event_are : (x : Event) → IsEvent x → AreTokens (event_tokens x)
event_are (event.Accepted peer) h = (name (codes "Accepted") refl, (hex_token peer.0, tt))
event_are (event.ClientBytes c bytes) h = (name (codes "ClientBytes") refl, (decimal_token c (below_64 c h.0), (hex_token bytes, tt)))
event_are (event.ClientEof c) h = (name (codes "ClientEof") refl, (decimal_token c (below_64 c h), tt))
event_are (event.ClientGone c) h = (name (codes "ClientGone") refl, (decimal_token c (below_64 c h), tt))
event_are (event.Wrote c n) h = (name (codes "Wrote") refl, (decimal_token c (below_64 c h.0), (decimal_token n (below_64 n h.1), tt)))
event_are (event.Started k) h = (name (codes "Started") refl, (decimal_token k (below_64 k h), tt))
event_are (event.StartFailed k) h = (name (codes "StartFailed") refl, (decimal_token k (below_64 k h), tt))
event_are (event.StartFull k seen) h = (name (codes "StartFull") refl, (decimal_token k (below_64 k h.0), (decimal_token seen (below_32 seen h.1), tt)))
event_are (event.ChildBytes k bytes) h = (name (codes "ChildBytes") refl, (decimal_token k (below_64 k h.0), (hex_token bytes, tt)))
event_are (event.ChildEof k) h = (name (codes "ChildEof") refl, (decimal_token k (below_64 k h), tt))
event_are (event.ChildBroken k) h = (name (codes "ChildBroken") refl, (decimal_token k (below_64 k h), tt))
event_are (event.Took k n) h = (name (codes "Took") refl, (decimal_token k (below_64 k h.0), (decimal_token n (below_64 n h.1), tt)))
event_are (event.InputGone k) h = (name (codes "InputGone") refl, (decimal_token k (below_64 k h), tt))
event_are (event.Exited k) h = (name (codes "Exited") refl, (decimal_token k (below_64 k h), tt))
event_are (event.WsText c bytes) h = (name (codes "WsText") refl, (decimal_token c (below_64 c h.0), (hex_token bytes, tt)))
event_are (event.WsBinary c) h = (name (codes "WsBinary") refl, (decimal_token c (below_64 c h), tt))
event_are (event.WsClosed c) h = (name (codes "WsClosed") refl, (decimal_token c (below_64 c h), tt))
event_are (event.WsBad c) h = (name (codes "WsBad") refl, (decimal_token c (below_64 c h), tt))
event_are (event.NoRoom c) h = (name (codes "NoRoom") refl, (decimal_token c (below_64 c h), tt))
event_are (event.Tick secs) h = (name (codes "Tick") refl, (decimal_token secs (below_64 secs h), tt))
event_are event.Stop h = (name (codes "Stop") refl, tt)

act_are : (x : Act) → IsAct x → AreTokens (act_tokens x)
act_are (act.WantClient c) h = (name (codes "WantClient") refl, (decimal_token c (below_64 c h), tt))
act_are (act.Write c bytes) h = (name (codes "Write") refl, (decimal_token c (below_64 c h.0), (hex_token bytes, tt)))
act_are (act.Feed k bytes) h = (name (codes "Feed") refl, (decimal_token k (below_64 k h.0), (hex_token bytes, tt)))
act_are (act.EndInput k) h = (name (codes "EndInput") refl, (decimal_token k (below_64 k h), tt))
act_are (act.WantChild k) h = (name (codes "WantChild") refl, (decimal_token k (below_64 k h), tt))
act_are (act.Kill k) h = (name (codes "Kill") refl, (decimal_token k (below_64 k h), tt))
act_are (act.Release k) h = (name (codes "Release") refl, (decimal_token k (below_64 k h), tt))
act_are (act.Upgrade c rest) h = (name (codes "Upgrade") refl, (decimal_token c (below_64 c h.0), (hex_token rest, tt)))
act_are (act.CloseWs c code) h = (name (codes "CloseWs") refl, (decimal_token c (below_64 c h.0), (decimal_token code (below_16 code h.1), tt)))
act_are (act.Shut c told) h = (name (codes "Shut") refl, (decimal_token c (below_64 c h.0), why_are told h.1))
act_are (act.Start k c j hop launch) h =
    (name (codes "Start") refl, (decimal_token k (below_64 k h.0), (decimal_token c (below_64 c h.1), (decimal_token j (below_128 j h.2), (decimal_token hop (below_32 hop h.3), launch_are launch h.4)))))
act_are (act.Says c list) h = (name (codes "Says") refl, (decimal_token c (below_64 c h.0), (decimal_token (length list) (below_64 (length list) h.1.count), texts_tokens list)))

pub item_are : (x : Item) → IsItem x → AreTokens (tokens_of x)
item_are (In e) h = event_are e h
item_are (Out a) h = act_are a h

pub mark_is : (x : Item) → IsToken (mark_of x)
mark_is (In e) = name (codes "<") refl
mark_is (Out a) = name (codes ">") refl

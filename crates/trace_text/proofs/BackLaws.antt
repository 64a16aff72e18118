-- The tokens of an item are read as that item.
use Rattle.std.proofs.Common.{◌≡◌, ℕ, ◌/◌, ◌%◌, ◌<◌, ◌^◌, ◌∙◌, false, List, [], ◌∷◌, ◌++◌, refl, sym, ap, arith, codes, Some, None, length, map, take, drop, suc}
use Rattle.std.specs.Prelude.{All, nat_lt}
use Rattle.std.specs.Char.{digit_value}
use Rattle.std.specs.Fmt.{decimal, digit_glyph}
use Rattle.std.specs.Str.{is_utf8}
use Rattle.std.specs.Str.Parse.{digits_value}
use Rattle.std.proofs.lemmas.Bool.{cond-true, lt-ltb}
use Rattle.std.proofs.lemmas.Fmt.{decimal_is_IsNumeral_wide}
use Rattle.std.proofs.lemmas.List.{take_at, drop_at}
use Rattle.std.proofs.lemmas.List.Elements.{All-head, All-tail}
use Rattle.std.proofs.lemmas.Str.{digit_value-digit_char, is_utf8-from_IsUtf8}
use Rattle.host_base.specs.declared.cause.Cause.{Cause}
use Rattle.host_base.specs.declared.cause.Cause.TheVariants as cause
use Rattle.host_base.specs.declared.launch.Launch.{Launch}
use Rattle.host_base.specs.declared.launch.Pair.{Pair}
use Rattle.host_trace.specs.declared.items.Event.{Event}
use Rattle.host_trace.specs.declared.items.Event.TheVariants as event
use Rattle.host_trace.specs.declared.items.Act.{Act}
use Rattle.host_trace.specs.declared.items.Act.TheVariants as act
use Rattle.host_trace.specs.declared.items.Item.{Item}
use Rattle.host_trace.specs.declared.items.Item.TheVariants.{In, Out}
use Rattle.host_trace.specs.declared.items.Why.{Why}
use Rattle.host_trace.specs.declared.items.Why.TheVariants as why
use Rattle.trace_text.specs.Spelling.{Tokens, act_tokens, cause_tokens, event_tokens, hex, launch_tokens, mark_of, pairs, texts, tokens_of, why_tokens}
use Rattle.trace_text.specs.Items.{AreBytes, IsAct, IsCause, IsEvent, IsItem, IsLaunch, IsPair, IsText, IsWhy}
use Rattle.trace_text.specs.Reading.{at, byte_of, bytes_in, cause_in, given, launch_in, likely, number, pairs_in, text_by, text_in, why_in}
use Rattle.trace_text.proofs.TokenLaws.{below_128, below_16, below_32, below_64}

-- ---- fields

number-decimal : (bits n : ℕ) → n < 10 ^ 64 → n < 2 ^ bits → number bits (decimal n) ≡ n
number-decimal bits n wide small =
    let value = (decimal_is_IsNumeral_wide n wide).1 in
    cond-true (nat_lt (digits_value 10 (decimal n)) (2 ^ bits)) _ 0 (ap (λ v. nat_lt v (2 ^ bits)) value ∙ lt-ltb n (2 ^ bits) small) ∙ value

one_byte : (b : ℕ) → b < 256 → byte_of (digit_glyph false (b / 16)) (digit_glyph false (b % 16)) ≡ b
one_byte b small =
    let high : digit_value (digit_glyph false (b / 16)) ≡ b / 16 = digit_value-digit_char (b / 16) (omega arith) in
    let low : digit_value (digit_glyph false (b % 16)) ≡ b % 16 = digit_value-digit_char (b % 16) (omega arith) in
    rw (high, low) (omega arith)

bytes-hex : (bytes : List ℕ) → AreBytes bytes → bytes_in (hex bytes) ≡ bytes
bytes-hex [] h = refl
bytes-hex (b ∷ bytes) h = λ i. one_byte b (All-head (λ b. b < 256) b bytes h) i ∷ bytes-hex bytes (All-tail (λ b. b < 256) b bytes h) i

text-hex : (text : List ℕ) → IsText text → text_in (hex text) ≡ text
text-hex text h = ap text_by (bytes-hex text h.bytes) ∙ ap (λ o. given o []) (cond-true (is_utf8 text) (Some text) None (is_utf8-from_IsUtf8 text h.utf8))

texts-hex : (list : List (List ℕ)) → All IsText list → map text_in (texts list) ≡ list
texts-hex [] h = refl
texts-hex (text ∷ list) h = λ i. text-hex text (All-head IsText text list h) i ∷ texts-hex list (All-tail IsText text list h) i

pair-hex : (p : Pair) → IsPair p → record { name = text_in (hex p.name); value = text_in (hex p.value) } ≡ p
pair-hex p h = λ i. record { name = text-hex p.name h.name i; value = text-hex p.value h.value i }

pairs-hex : (list : List Pair) → All IsPair list → pairs_in (pairs list) ≡ list
pairs-hex [] h = refl
pairs-hex (p ∷ list) h = λ i. pair-hex p (All-head IsPair p list h) i ∷ pairs-hex list (All-tail IsPair p list h) i

length-texts : (list : List (List ℕ)) → length (texts list) ≡ length list
length-texts [] = refl
length-texts (text ∷ list) = ap suc (length-texts list)

args_back : (n : ℕ) (list : List (List ℕ)) (rest : Tokens) → n ≡ length list → All IsText list → map text_in (take n (texts list ++ rest)) ≡ list
args_back n list rest is h = ap (map text_in) (take_at (texts list) rest n (length-texts list ∙ sym is)) ∙ texts-hex list h

env_back : (n : ℕ) (list : List (List ℕ)) (count : List ℕ) (env : List Pair) → n ≡ length list → All IsPair env
    → pairs_in (drop 1 (drop n (texts list ++ count ∷ pairs env))) ≡ env
env_back n list count env is h = ap (λ t. pairs_in (drop 1 t)) (drop_at (texts list) (count ∷ pairs env) n (length-texts list ∙ sym is)) ∙ pairs-hex env h

launch_back : (l : Launch) → IsLaunch l → launch_in (launch_tokens l) ≡ l
launch_back l h =
    let count = number-decimal 64 (length l.args) (below_64 (length l.args) h.args.count) h.args.count in
    λ i. record {
      program = text-hex l.program h.program i;
      dir = text-hex l.dir h.dir i;
      args = args_back (number 64 (decimal (length l.args))) l.args (decimal (length l.env) ∷ pairs l.env) count h.args.each i;
      env = env_back (number 64 (decimal (length l.args))) l.args (decimal (length l.env)) l.env count h.env.each i;
    }

abbrev seen_of : Tokens → ℕ
seen_of tokens = number 32 (at tokens 1)

cause_back : (x : Cause) → IsCause x → cause_in (at (cause_tokens x) 0) (seen_of (cause_tokens x)) ≡ x
cause_back cause.BadHead h = refl
cause_back cause.Incomplete h = refl
cause_back cause.BadTarget h = refl
cause_back cause.BadHost h = refl
cause_back cause.BadFraming h = refl
cause_back cause.BadChunk h = refl
cause_back cause.BadPath h = refl
cause_back cause.BadHandshake h = refl
cause_back cause.BadScgi h = refl
cause_back cause.BadParams h = refl
cause_back cause.BadRecord h = refl
cause_back cause.OriginRefused h = refl
cause_back cause.NoScript h = refl
cause_back cause.IdleTime h = refl
cause_back cause.BodyTooLong h = refl
cause_back cause.TargetTooLong h = refl
cause_back cause.BadExpect h = refl
cause_back cause.UnknownHost h = refl
cause_back cause.UpgradeNeeded h = refl
cause_back cause.HeadTooLong h = refl
cause_back cause.TooManyFields h = refl
cause_back cause.RedirectLoop h = refl
cause_back cause.NotServed h = refl
cause_back cause.CodingUnknown h = refl
cause_back cause.StartFailed h = refl
cause_back cause.OutputBroken h = refl
cause_back cause.OutputTooLarge h = refl
cause_back cause.NoOutput h = refl
cause_back cause.HeaderIncomplete h = refl
cause_back cause.HeaderTooLarge h = refl
cause_back cause.HeaderLine h = refl
cause_back cause.HeaderRepeated h = refl
cause_back cause.BadStatus h = refl
cause_back cause.BadLocation h = refl
cause_back cause.NoneOfThree h = refl
cause_back cause.RunTime h = refl
cause_back (cause.Full seen) h = λ i. cause.Full (number-decimal 32 seen (below_32 seen h) h i)

why_back : (x : Why) → IsWhy x → why_in (at (why_tokens x) 0) (cause_in (at (why_tokens x) 1) (number 32 (at (why_tokens x) 2))) ≡ x
why_back why.Done h = refl
why_back why.Gone h = refl
why_back why.Idle h = refl
why_back why.Full h = refl
why_back why.Stopped h = refl
why_back why.NoMemory h = refl
why_back (why.Cut told) h = ap why.Cut (cause_back told h)

-- ---- items

event_back : (x : Event) → IsEvent x → likely (codes "<" ∷ event_tokens x) ≡ In x
event_back (event.Accepted peer) h = λ i. In (event.Accepted (record { 0 = text-hex peer.0 h i }))
event_back (event.ClientBytes c bytes) h = λ i. In (event.ClientBytes (number-decimal 64 c (below_64 c h.0) h.0 i) (bytes-hex bytes h.1 i))
event_back (event.ClientEof c) h = λ i. In (event.ClientEof (number-decimal 64 c (below_64 c h) h i))
event_back (event.ClientGone c) h = λ i. In (event.ClientGone (number-decimal 64 c (below_64 c h) h i))
event_back (event.Wrote c n) h = λ i. In (event.Wrote (number-decimal 64 c (below_64 c h.0) h.0 i) (number-decimal 64 n (below_64 n h.1) h.1 i))
event_back (event.Started k) h = λ i. In (event.Started (number-decimal 64 k (below_64 k h) h i))
event_back (event.StartFailed k) h = λ i. In (event.StartFailed (number-decimal 64 k (below_64 k h) h i))
event_back (event.StartFull k seen) h = λ i. In (event.StartFull (number-decimal 64 k (below_64 k h.0) h.0 i) (number-decimal 32 seen (below_32 seen h.1) h.1 i))
event_back (event.ChildBytes k bytes) h = λ i. In (event.ChildBytes (number-decimal 64 k (below_64 k h.0) h.0 i) (bytes-hex bytes h.1 i))
event_back (event.ChildEof k) h = λ i. In (event.ChildEof (number-decimal 64 k (below_64 k h) h i))
event_back (event.ChildBroken k) h = λ i. In (event.ChildBroken (number-decimal 64 k (below_64 k h) h i))
event_back (event.Took k n) h = λ i. In (event.Took (number-decimal 64 k (below_64 k h.0) h.0 i) (number-decimal 64 n (below_64 n h.1) h.1 i))
event_back (event.InputGone k) h = λ i. In (event.InputGone (number-decimal 64 k (below_64 k h) h i))
event_back (event.Exited k) h = λ i. In (event.Exited (number-decimal 64 k (below_64 k h) h i))
event_back (event.WsText c bytes) h = λ i. In (event.WsText (number-decimal 64 c (below_64 c h.0) h.0 i) (bytes-hex bytes h.1 i))
event_back (event.WsBinary c) h = λ i. In (event.WsBinary (number-decimal 64 c (below_64 c h) h i))
event_back (event.WsClosed c) h = λ i. In (event.WsClosed (number-decimal 64 c (below_64 c h) h i))
event_back (event.WsBad c) h = λ i. In (event.WsBad (number-decimal 64 c (below_64 c h) h i))
event_back (event.NoRoom c) h = λ i. In (event.NoRoom (number-decimal 64 c (below_64 c h) h i))
event_back (event.Tick secs) h = λ i. In (event.Tick (number-decimal 64 secs (below_64 secs h) h i))
event_back event.Stop h = refl

act_back : (x : Act) → IsAct x → likely (codes ">" ∷ act_tokens x) ≡ Out x
act_back (act.WantClient c) h = λ i. Out (act.WantClient (number-decimal 64 c (below_64 c h) h i))
act_back (act.Write c bytes) h = λ i. Out (act.Write (number-decimal 64 c (below_64 c h.0) h.0 i) (bytes-hex bytes h.1 i))
act_back (act.Feed k bytes) h = λ i. Out (act.Feed (number-decimal 64 k (below_64 k h.0) h.0 i) (bytes-hex bytes h.1 i))
act_back (act.EndInput k) h = λ i. Out (act.EndInput (number-decimal 64 k (below_64 k h) h i))
act_back (act.WantChild k) h = λ i. Out (act.WantChild (number-decimal 64 k (below_64 k h) h i))
act_back (act.Kill k) h = λ i. Out (act.Kill (number-decimal 64 k (below_64 k h) h i))
act_back (act.Release k) h = λ i. Out (act.Release (number-decimal 64 k (below_64 k h) h i))
act_back (act.Upgrade c rest) h = λ i. Out (act.Upgrade (number-decimal 64 c (below_64 c h.0) h.0 i) (bytes-hex rest h.1 i))
act_back (act.CloseWs c code) h = λ i. Out (act.CloseWs (number-decimal 64 c (below_64 c h.0) h.0 i) (number-decimal 16 code (below_16 code h.1) h.1 i))
act_back (act.Shut c told) h = λ i. Out (act.Shut (number-decimal 64 c (below_64 c h.0) h.0 i) (why_back told h.1 i))
act_back (act.Start k c j hop launch) h =
    λ i. Out (act.Start (number-decimal 64 k (below_64 k h.0) h.0 i) (number-decimal 64 c (below_64 c h.1) h.1 i) (number-decimal 128 j (below_128 j h.2) h.2 i)
    (number-decimal 32 hop (below_32 hop h.3) h.3 i) (launch_back launch h.4 i))
act_back (act.Says c list) h = λ i. Out (act.Says (number-decimal 64 c (below_64 c h.0) h.0 i) (texts-hex list h.1.each i))

pub likely_back : (x : Item) → IsItem x → likely (mark_of x ∷ tokens_of x) ≡ x
likely_back (In e) h = event_back e h
likely_back (Out a) h = act_back a h

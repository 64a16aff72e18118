-- What is known of an exchange whose connection speaks WebSocket.
use Rattle.std.specs.Prelude.{ℕ, ◌≡◌, ◌≤◌, Bool, true, false, not, ◌&&◌, List, [], ◌∷◌, is_some, None}
use Rattle.std.specs.List.{list_any}
use Rattle.host_base.specs.declared.request.Request.{Request}
use Rattle.host_base.specs.declared.site.Mapped.{Mapped}
use Rattle.host_base.specs.declared.site.ScriptKind.TheVariants.{WebSocket}
use Rattle.host_base.specs.declared.site.Site.{Site}
use Rattle.host_trace.specs.declared.items.Act.TheVariants.{Start}
use Rattle.host_trace.specs.declared.items.Item.{Item}
use Rattle.host_trace.specs.declared.items.Item.TheVariants.{Out}
use Rattle.host_trace.specs.First.{since}
use Rattle.host_trace.specs.Kinds.{is_start, names_child}
use Rattle.host_trace.specs.Projections.{children_of, client_wanted, shut, stopped, upgraded}
use Rattle.trace_model.specs.Breaks.{idled}
use Rattle.trace_model.specs.Exchange.{Exchange, all_of, pushed, up_to}
use Rattle.trace_model.specs.Legs.{Leg, leg_of, offered_at}
use Rattle.child_core.specs.Calls.{wants_text}
use Rattle.child_core.specs.Due.{acted as run_acted, is_at_rest}
use Rattle.child_core.specs.Knows.{KnowsRun}
use Rattle.child_core.specs.View.{View as Run, begun as run_begun}
use Rattle.exchange_laws.specs.Walked.{HasChildren}
use Rattle.child_laws.specs.Children.{HeldAs}
use Rattle.talk_core.specs.Knows.{KnowsInPart, StandsFor, run_of as talk_run}
use Rattle.talk_core.specs.Laws.{IsOfferedWhole, is_of_talk}
use Rattle.talk_core.specs.Setting.{setting}
use Rattle.talk_core.specs.View.{View as Talk, begun}
use Rattle.host_base.specs.declared.launch.Launch.{Launch}
use Rattle.talk_laws.specs.Http.{AskedInTurn, is_parting}
use Rattle.talk_laws.specs.Welcome.{IsGreeted, IsOpening}

-- ---- the exchange

-- the items before it name neither the child nor a WebSocket, and the connection was to go on
pub record IsBefore (c k : ℕ) (before : List Item) : Type 0 where
  pub unnamed : list_any (names_child k) before ≡ false
  pub untalked : list_any (is_of_talk c) before ≡ false
  pub going : stopped before ≡ false
  pub unshut : shut before c ≡ false

-- The handshake was accepted, the Upgrade stands, and the program of the WebSocket was started as child k, the only one.
pub record IsSpoken (site : Site) (c : ℕ) (e : Exchange) (legs : List Leg) (continued : Bool) (k : ℕ) : Type 0 where
  pub value : List ℕ
  pub request : Request
  pub mapped : Mapped
  pub greeted : IsGreeted site c e continued value request mapped
  pub calm : idled site c e ≡ None
  pub upgraded_is : upgraded e.items c ≡ true
  pub are : legs ≡ leg_of 0 WebSocket request k ∷ []
  pub started : HasChildren c e legs
  pub at_first : children_of e.items c e.number 0 ≡ k ∷ []
  pub whole_then : IsOfferedWhole (offered_at site c (up_to e []) 0) k e.items
  pub before : IsBefore c k e.before
  pub once : AskedInTurn c (all_of e)

-- ---- while memory is found

-- a text that the client is asked for may be heard, once what is due for the child is given
abbrev pub MayBeAsked : ℕ → Exchange → Run → Type 0
MayBeAsked c e v = shut (all_of e) c ≡ false → client_wanted (all_of e) c ≡ true → (may : Bool) → wants_text (run_acted may v) ≡ true

-- The talk and the run of its child know the items of the exchange: with what is still to be said, fed and sent, the
-- messages, the input and the code of the close frame stand that the model's words for a talk name, and it is over where
-- an item ended it.
pub record TalkIs (site : Site) (c : ℕ) (e : Exchange) (legs : List Leg) (continued : Bool) (t : Talk) (v : Run) : Type 0 where
  pub spoken : IsSpoken site c e legs continued v.number
  pub kind : v.kind ≡ WebSocket
  pub stands : StandsFor false c site.limits t v e.items
  pub parted : list_any (is_parting c) (all_of e) ≡ true → t.over ≡ true
  pub asks : MayBeAsked c e v

-- Between steps nothing is due, and the connection of a talk that is over is shut.
pub record TalkRests (c : ℕ) (e : Exchange) (t : Talk) (v : Run) : Type 0 where
  pub texts : t.texts ≡ []
  pub code : t.code ≡ None
  pub may : Bool
  pub rests : is_at_rest may v ≡ true
  pub over_shut : t.over ≡ true → shut (all_of e) c ≡ true

-- ---- where memory ran out

-- The talk is given up, and what stands is a front of what the model names. `early`: the Shut that says so is still to
-- come, and the run that the connection holds is ended for it.
pub record TalkLostIs (site : Site) (c : ℕ) (e : Exchange) (legs : List Leg) (continued early : Bool) (held : Run) : Type 0 where
  pub view : Run
  pub held_as : HeldAs early held view
  pub spoken : IsSpoken site c e legs continued view.number
  pub kind : view.kind ≡ WebSocket
  pub decided : is_some held.outcome ≡ true
  pub shut_since : shut (since (is_start view.number) e.items) c ≡ shut e.items c
  pub run : KnowsRun (early && not (is_some view.outcome)) (setting c view.number site.limits) view e.items
  pub talk : Talk
  pub part : KnowsInPart (talk_run c site.limits view) talk e.items

-- ---- its beginning

-- The Start begins a talk of which nothing was heard, by a number that no item of the connection names.
abbrev pub TalksStart : Type 0
TalksStart = (site : Site) (c : ℕ) (e : Exchange) (legs : List Leg) (continued : Bool) (launch : Launch) (k : ℕ) → 2 ≤ site.limits.head
    → IsOpening site c e legs continued launch true → list_any (names_child k) (all_of e) ≡ false
    → (request : Request) × TalkIs site c (pushed e (Out (Start k c e.number 0 launch))) (leg_of 0 WebSocket request k ∷ []) continued
    (begun c k site.limits.ws_text) (run_begun k WebSocket site.limits)

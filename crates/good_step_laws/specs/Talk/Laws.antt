-- What holds of a connection that speaks WebSocket, as one of many.
use Rattle.std.specs.Prelude.{ℕ, ◌≡◌, Bool, true, false, not, ◌||◌, List, [], ◌∷◌, ◌++◌, Option, Some, filter, is_some}
use Rattle.std.specs.Option.{option_to_list}
use Rattle.host_base.specs.declared.site.Site.{Site}
use Rattle.host_trace.specs.declared.items.Act.{Act}
use Rattle.host_trace.specs.declared.items.Event.{Event}
use Rattle.host_trace.specs.declared.items.Item.{Item}
use Rattle.host_trace.specs.declared.items.Item.TheVariants.{In}
use Rattle.host_trace.specs.Account.{settled}
use Rattle.host_trace.specs.Kinds.{names, names_child}
use Rattle.host_trace.specs.Projections.{children, shut}
use Rattle.host_trace.specs.Told.{Adds}
use Rattle.host_trace.specs.Trace.{after_step}
use Rattle.own_traces.specs.OwnFits.{fits_own}
use Rattle.own_traces.specs.Whose.{are_of, has, kids_after, next_after}
use Rattle.trace_child.specs.Words.{given}
use Rattle.trace_model.specs.Between.{turns_away}
use Rattle.many_conns.specs.Kept.{is_child}
use Rattle.many_conns.specs.Kind.{Fitting}
use Rattle.talk_conn.specs.declared.conn.TalkConn.{TalkConn}
use Rattle.talk_conn.specs.Slot.{unsettled_child_of, fits_talk, is_held, last_child_of}
use Rattle.talk_conn.specs.Step.{Steps}
use Rattle.talk_conn.specs.View.{IsTalk, flags_of, number_of, site_of}
use Rattle.talk_laws.specs.Stands.{StepsAreGood}
use Rattle.good_step_laws.specs.Talk.Stands.{TalkHolds}

-- ---- a step

-- Whatever its items, it stays the talk of its connection, and its acts are of the connection and its child alone: it
-- starts none, and turns nobody away.
pub record Keeps (old new : TalkConn) (acts : List Act) : Type 0 where
  pub site : site_of new ≡ site_of old
  pub number : number_of new ≡ number_of old
  pub last_child : last_child_of new ≡ last_child_of old
  pub is_talk : IsTalk new
  pub next : (n : ℕ) → next_after n acts ≡ n
  pub stays : (c : ℕ) → given (turns_away c) acts ≡ 0
  pub kids : (ks : List ℕ) → kids_after ks (number_of old) acts ≡ ks
  pub are : (ks : List ℕ) (n : ℕ) → has ks (last_child_of old) ≡ true → are_of (number_of old) ks n acts ≡ true

-- .. and it stands for its items with those of the step
pub record TalkGives (old : TalkConn) (ev : Event) (acts : List Act) (new : TalkConn) : Type 0 where
  pub keeps : Keeps old new acts
  pub stands : (site : Site) (L : List Item) (n : ℕ) (stamp : Option ℕ) → TalkHolds site old L → Fitting site.limits.children (number_of old) n stamp L ev
      → TalkHolds site new (after_step L ev acts)

abbrev pub TalksGive : Type 0
TalksGive = StepsAreGood → (old new : TalkConn) (ev : Event) (acts : List Act) → IsTalk old → Steps old ev acts new → TalkGives old ev acts new

-- ---- what holds of every one

-- one that needs no slot, and stands for these items
pub record TalkGone (site : Site) (c : ℕ) (L : List Item) : Type 0 where
  pub talk : TalkConn
  pub number : number_of talk ≡ c
  pub holds : TalkHolds site talk L
  pub free : is_held talk ≡ false

pub record TalkLaws : Type 0 where
  pub is_talk : (site : Site) (talk : TalkConn) (L : List Item) → TalkHolds site talk L → IsTalk talk
  pub unsettled_is_last : (talk : TalkConn) (k : ℕ) → is_child (unsettled_child_of talk) k ≡ true → is_child (Some (last_child_of talk)) k ≡ true
  pub needs_is : (talk : TalkConn) → is_held talk ≡ (not (flags_of talk).shut || is_some (unsettled_child_of talk))
  pub unsettled : (site : Site) (talk : TalkConn) (L : List Item) → TalkHolds site talk L → filter (λ k. not (settled L k)) (children L (number_of talk)) ≡ option_to_list (unsettled_child_of talk)
  pub last_child_started : (site : Site) (talk : TalkConn) (L : List Item) → TalkHolds site talk L → has (children L (number_of talk)) (last_child_of talk) ≡ true
  pub shut_is : (site : Site) (talk : TalkConn) (L : List Item) → TalkHolds site talk L → (flags_of talk).shut ≡ shut L (number_of talk)
  pub fits_named : (site : Site) (talk : TalkConn) (L : List Item) (event : Event) → TalkHolds site talk L → names (number_of talk) (In event) ≡ true
      → fits_talk talk event ≡ fits_own site.limits.children L event
  pub fits_last_child : (site : Site) (talk : TalkConn) (L : List Item) (event : Event) → TalkHolds site talk L → names_child (last_child_of talk) (In event) ≡ true
      → fits_talk talk event ≡ fits_own site.limits.children L event
  pub late : (site : Site) (talk : TalkConn) (L : List Item) (limit n : ℕ) (stamp : Option ℕ) (k : ℕ) (event : Event) → TalkHolds site talk L
      → Fitting limit (number_of talk) n stamp L event → names_child k (In event) ≡ true → is_child (Some (last_child_of talk)) k ≡ false → TalkHolds site talk (L ++ In event ∷ [])
  pub idle : (site : Site) (c : ℕ) (L : List Item) (limit n : ℕ) (stamp : Option ℕ) (event : Event) → TalkGone site c L → Fitting limit c n stamp L event
      → TalkGone site c (L ++ In event ∷ [])

abbrev pub TalksKeepLaws : Type 0
TalksKeepLaws = StepsAreGood → TalkLaws

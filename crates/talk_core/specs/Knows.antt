-- What a talk knows of a list of items in which its child's Start stands.
use Rattle.std.specs.Prelude.{ℕ, Bool, true, false, ◌||◌, List, [], ◌∷◌, ◌++◌, ◌≡◌, Option, Some, None, is_some}
use Rattle.host_base.specs.declared.limits.Limits.{Limits}
use Rattle.host_trace.specs.declared.items.Item.{Item}
use Rattle.host_trace.specs.First.{since, first_front}
use Rattle.host_trace.specs.Kinds.{is_start}
use Rattle.host_trace.specs.Projections.{child_out, output_eof, said, shut}
use Rattle.host_trace.specs.Decider.{is_websocket}
use Rattle.line_messages.specs.Lines.{has_long_line, open_line}
use Rattle.trace_child.specs.Words.{is_filled}
use Rattle.trace_child.specs.Run.{Run}
use Rattle.trace_model.specs.Talk.{texts_due, input_due, pieces_fed, code_due, codes_sent, ends_talk}
use Rattle.child_core.specs.View.{View as RunView}
use Rattle.child_core.specs.Due.{is_feed_due}
use Rattle.child_core.specs.Setting.{run_in}
use Rattle.child_core.specs.Knows.{KnowsRun}
use Rattle.talk_core.specs.View.{View}
use Rattle.talk_core.specs.Setting.{setting}

-- the run as the rules on traces name it
abbrev pub run_of : ℕ → Limits → RunView → Run
run_of c limits v = run_in (setting c v.number limits) v

-- what waits to be fed: a line, or nothing
abbrev pub waiting : List ℕ → List (List ℕ)
waiting [] = []
waiting (b ∷ bytes) = (b ∷ bytes) ∷ []

abbrev pub codes : Option ℕ → List ℕ
codes None = []
codes (Some code) = code ∷ []

-- Memory was found so far. With what is still to be said, fed and sent, all stands that the talk names.
pub record KnowsTalk (c : ℕ) (limits : Limits) (t : View) (v : RunView) (L : List Item) : Type 0 where
  pub conn : t.conn ≡ c
  pub child : t.child ≡ v.number
  pub limit : t.limit ≡ limits.ws_text
  pub kind : is_websocket v.kind ≡ true
  pub whole : v.whole ≡ false
  pub shut_since : shut (since (is_start v.number) L) c ≡ shut L c
  pub out_since : child_out (since (is_start v.number) L) v.number ≡ child_out L v.number
  pub over : t.over ≡ is_some (first_front (ends_talk (run_of c limits v)) L)
  pub shut_over : shut L c ≡ true → t.over ≡ true
  pub done_over : (is_some v.outcome || v.hung_up || v.killed) ≡ true → t.over ≡ true
  pub eof : t.over ≡ false → output_eof L v.number ≡ false
  pub short : t.over ≡ false → has_long_line t.limit (child_out L v.number) ≡ false
  pub rest : t.over ≡ false → t.rest ≡ open_line (child_out L v.number)
  pub said : said L c ++ t.texts ≡ texts_due (run_of c limits v) L
  pub fed : pieces_fed L v.number ++ waiting v.unfed ≡ input_due (run_of c limits v) L
  pub due : is_filled v.unfed ≡ true → is_feed_due v ≡ true
  pub spent : t.over ≡ true → v.unfed ≡ []
  pub code : codes_sent L c ++ codes t.code ≡ code_due (run_of c limits v) L

-- the talk and its run, together
pub record StandsFor (early : Bool) (c : ℕ) (limits : Limits) (t : View) (v : RunView) (L : List Item) : Type 0 where
  pub run : KnowsRun early (setting c v.number limits) v L
  pub talk : KnowsTalk c limits t v L

-- a list begins with another
pub record Begins {X : Type 0} (front whole : List X) : Type 0 where
  pub rest : List X
  pub is : front ++ rest ≡ whole

-- Memory ran out, and the talk was given up. What stands is a front of what it names.
pub record KnowsInPart (run : Run) (t : View) (L : List Item) : Type 0 where
  pub over : t.over ≡ true
  pub texts : t.texts ≡ []
  pub code : t.code ≡ None
  pub said : Begins (said L run.conn) (texts_due run L)
  pub fed : Begins (pieces_fed L run.child) (input_due run L)
  pub codes : Begins (codes_sent L run.conn) (code_due run L)

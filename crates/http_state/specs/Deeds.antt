-- What a part of a step does, and how parts come together.
use Rattle.std.specs.Prelude.{ℕ, ◌≡◌, Bool, true, false, List, [], ◌∷◌, ◌++◌}
use Rattle.host_trace.specs.declared.items.Act.{Act}
use Rattle.own_traces.specs.Whose.{next_after}
use Rattle.conn_flags.specs.Form.{given_all}
use Rattle.exchange_request.specs.Knows.{limits_of}
use Rattle.conn_laws.specs.Moves.{Move, acts_of, gives, settles}
use Rattle.http_state.specs.declared.conn.HttpConn.{HttpConn}
use Rattle.http_state.specs.Kept.{Leads, flags_of, number_of, peer_of, site_of}
use Rattle.http_state.specs.Moves.{losing}
use Rattle.http_state.specs.Settles.{Follows, ending_of, is_answered, is_over}

-- What a part does: from a connection, where the next child has this number, by these moves, to a connection.
abbrev pub Deed : Type 1
Deed = HttpConn → ℕ → List Move → HttpConn → Type 0

-- ---- parts together

-- one after the other
pub record Then (First Later : Deed) (old : HttpConn) (n : ℕ) (moves : List Move) (new : HttpConn) : Type 0 where
  pub mid : HttpConn
  pub sooner : List Move
  pub later : List Move
  pub are : moves ≡ sooner ++ later
  pub first : First old n sooner mid
  pub second : Later mid (next_after n (acts_of sooner)) later new

-- one or the other
pub data Or (One Other : Deed) (old : HttpConn) (n : ℕ) (moves : List Move) (new : HttpConn) : Type 0 where
  the_one : One old n moves new → Or One Other old n moves new
  the_other : Other old n moves new → Or One Other old n moves new

-- A part that changes something: its flags know the acts, and what is known of its exchange beside its script goes on.
pub record Part (By : Deed) (old : HttpConn) (n : ℕ) (moves : List Move) (new : HttpConn) : Type 0 where
  pub site : site_of new ≡ site_of old
  pub peer_is : peer_of new ≡ peer_of old
  pub flags : flags_of new ≡ given_all (flags_of old) (acts_of moves)
  pub leads : Leads (site_of old) (number_of old) old new moves
  pub by : By old n moves new

pub record Nothing (old : HttpConn) (n : ℕ) (moves : List Move) (new : HttpConn) : Type 0 where
  pub none : moves ≡ []
  pub same : new ≡ old

abbrev pub gives_all : List Act → List Move
gives_all [] = []
gives_all (act ∷ acts) = gives act ∷ gives_all acts

-- ---- memory runs out

-- The connection is over, and its child given up; its stage is another, but no answer stands whole that didn't, and of
-- the request the limits stay.
pub record GivesUp (old new : HttpConn) : Type 0 where
  pub is : new ≡ losing (record old { stage = new.stage; request = new.request })
  pub limits : limits_of new.request ≡ limits_of old.request
  pub answered : is_answered new.stage ≡ is_answered old.stage

pub record Loses (old : HttpConn) (n : ℕ) (moves : List Move) (new : HttpConn) : Type 0 where
  pub none : moves ≡ []
  pub gives_up : GivesUp old new

-- ---- the end of an exchange

abbrev pub EndsBy : Bool → Deed
EndsBy true old n moves new = (moves ≡ settles (ending_of old) ∷ []) × Follows old new
EndsBy false old n moves new = Nothing old n moves new

-- where the whole answer stands and no child is left, the next exchange begins
abbrev pub Ends : Deed
Ends old n moves new = EndsBy (is_over old) old n moves new

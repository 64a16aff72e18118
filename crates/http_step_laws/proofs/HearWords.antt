-- A client that must be heard was asked.
use Rattle.std.proofs.Common.{◌≡◌, ℕ, Bool, true, false, ◌&&◌, ◌||◌, List, refl, sym, ◌∙◌, subst}
use Rattle.std.proofs.lemmas.Bool.{and_parts, or_left}
use Rattle.host_trace.specs.declared.items.Act.{Act}
use Rattle.host_trace.specs.declared.items.Event.{Event}
use Rattle.host_trace.specs.declared.items.Item.{Item}
use Rattle.host_trace.specs.Projections.{client_wanted}
use Rattle.trace_model.specs.Demands.{is_live as live_then, must_hear}
use Rattle.trace_model.specs.Exchange.{Exchange, all_of}
use Rattle.trace_model.specs.Hears.{hears}
use Rattle.exchange_request.specs.Knows.{is_looked_at, is_taken}
use Rattle.exchange_stage.specs.declared.stage.Stage.{Stage}
use Rattle.exchange_laws.specs.Rules.{Rests}
use Rattle.exchange_laws.proofs.AskLaws.{shut_asks}
use Rattle.exchange_laws.proofs.RestLaws.{met, no_demand}
use Rattle.conn_laws.proofs.FormLaws.{flags_say}
use Rattle.conn_flags.specs.View.{has_room, is_live}
use Rattle.child_laws.specs.Step.{Turn}
use Rattle.http_conn.specs.HttpConn.{HttpConn}
use Rattle.http_conn.specs.Kept.{is_reading, flags_of, number_of, site_of}
use Rattle.http_conn.specs.Reasons.{hears_at}
use Rattle.http_stage_laws.proofs.AskLaws.{asks_due}
use Rattle.http_step_laws.specs.Standing.{Standing}
use Rattle.http_step_laws.proofs.CloseLaws.{Closed}
use Rattle.http_step_laws.proofs.ReadLaws.{is_at_reading}
use Rattle.http_step_laws.proofs.RestWords.{rests_now}
use Rattle.http_step_laws.proofs.StageWords.{known, more_in}
use Rattle.http_step_laws.proofs.WantLaws.{Done}

module _ (L : List Item) (ev : Event) (acts : List Act) (turn : Turn) (e : Exchange) (conn : HttpConn) (n : ℕ) (s : Standing L ev acts turn n e conn) (closed : Closed turn e conn) (found : conn.lost ≡ false) where
  live_same : live_then (number_of conn) (all_of e) ≡ is_live (flags_of conn)
  live_same = sym (flags_say (flags_of conn) (all_of e) s.flags).live

  looked : is_live (flags_of conn) ≡ true → (is_looked_at conn.request || is_taken conn.request) ≡ true
  looked live = go (is_reading conn.stage) refl
    where
      go : (b : Bool) → is_reading conn.stage ≡ b → (is_looked_at conn.request || is_taken conn.request) ≡ true
      go false r = (s.heard found).looked r
      go true r =
          or_left (is_looked_at conn.request) (is_taken conn.request)
          (subst (λ (t : Stage). Rests (site_of conn) (number_of conn) e s.legs (is_looked_at conn.request) (more_in conn e s.legs (s.staged found)) t) (is_at_reading conn.stage r)
          (rests_now L ev acts turn e conn n s closed found) (live_same ∙ live))

  pub asks : is_live (flags_of conn) ≡ true → must_hear (site_of conn) (number_of conn) e ≡ (is_live (flags_of conn) && has_room (flags_of conn) && hears_at conn conn.stage)
  asks live =
      asks_due conn e s.legs (record {
        front = s.front;
        staged = s.staged found;
        rests = rests_now L ev acts turn e conn n s closed found;
        flags = s.flags;
        next = n;
        children = known L ev acts turn n e conn s found;
        found = found;
        looked = looked live;
      })

  pub hears_by : (d : Done turn e conn) → hears (site_of conn) (number_of conn) e ≡ true
  hears_by d = go (is_live (flags_of conn)) refl
    where
      by_ask : is_live (flags_of conn) ≡ true → (b : Bool) → must_hear (site_of conn) (number_of conn) e ≡ b → hears (site_of conn) (number_of conn) e ≡ true
      by_ask live false none = no_demand (must_hear (site_of conn) (number_of conn) e) (client_wanted (all_of e) (number_of conn)) none
      by_ask live true must =
          let p = and_parts (is_live (flags_of conn) && has_room (flags_of conn)) (hears_at conn conn.stage) (sym (asks live) ∙ must) in
          let q = and_parts (is_live (flags_of conn)) (has_room (flags_of conn)) p.0 in
          met (must_hear (site_of conn) (number_of conn) e) (client_wanted (all_of e) (number_of conn))
          (sym (flags_say (flags_of conn) (all_of e) s.flags).asked ∙ d.asked (closed.on live) q.1 p.1)

      go : (b : Bool) → is_live (flags_of conn) ≡ b → hears (site_of conn) (number_of conn) e ≡ true
      go true live = by_ask live (must_hear (site_of conn) (number_of conn) e) refl
      go false dead =
          no_demand (must_hear (site_of conn) (number_of conn) e) (client_wanted (all_of e) (number_of conn)) (shut_asks (site_of conn) (number_of conn) e (live_same ∙ dead))

pub hears_found : (L : List Item) (ev : Event) (acts : List Act) (turn : Turn) (e : Exchange) (conn : HttpConn) (n : ℕ) → Standing L ev acts turn n e conn → Done turn e conn → conn.lost ≡ false
    → hears (site_of conn) (number_of conn) e ≡ true
hears_found L ev acts turn e conn n s d found = hears_by L ev acts turn e conn n s d.closed found d

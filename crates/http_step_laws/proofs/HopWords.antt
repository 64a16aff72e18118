-- A hop has its turn.
use Rattle.std.proofs.Common.{◌≡◌, ℕ, true, false, ◌||◌, not, List, [], ◌∷◌, ◌++◌, Option, sym, ap, ◌∙◌}
use Rattle.std.proofs.lemmas.Bool.{and_from, false≢true, false_from_ne_true}
use Rattle.host_trace.specs.declared.items.Act.{Act}
use Rattle.host_trace.specs.declared.items.Event.{Event}
use Rattle.host_trace.specs.declared.items.Item.{Item}
use Rattle.host_trace.specs.declared.items.Item.TheVariants.{In}
use Rattle.host_trace.specs.Account.{has_unsettled}
use Rattle.host_trace.specs.Projections.{last_secs}
use Rattle.trace_model.specs.Demands.{has_room as room_then, may_go_on}
use Rattle.trace_model.specs.Exchange.{Exchange, all_of}
use Rattle.exchange_request.specs.Knows.{is_looked_at, is_taken}
use Rattle.exchange_reply.specs.StepRules.{is_continued}
use Rattle.exchange_laws.specs.Items.{is_unanswered}
use Rattle.exchange_laws.specs.Unanswered.{is_awaited}
use Rattle.exchange_laws.proofs.WholeLaws.{continues_stand}
use Rattle.conn_laws.proofs.FormLaws.{flags_say}
use Rattle.conn_flags.specs.View.{has_room}
use Rattle.child_laws.specs.Step.{Turn}
use Rattle.child_laws.proofs.KnowLaws.{unsettled_exact}
use Rattle.http_conn.specs.HttpConn.{HttpConn}
use Rattle.http_conn.specs.Kept.{is_reading, flags_of, number_of, site_of}
use Rattle.http_conn.specs.Slot.{run_settled}
use Rattle.http_stage_laws.specs.Staged.{MayHop}
use Rattle.http_stage_laws.proofs.HeardOffers.{offers_are_known}
use Rattle.http_step_laws.specs.Standing.{Quiet, Standing, ends_at, is_early}
use Rattle.http_step_laws.proofs.EndWords.{going, unclosed_of}
use Rattle.http_step_laws.proofs.ReadyWords.{secs_acts}
use Rattle.http_step_laws.proofs.StageWords.{known, known_now, more_in, same_settled, stage_is}

-- ---- no child is left, and there is room

module _ (L : List Item) (ev : Event) (acts : List Act) (turn : Turn) (e : Exchange) (old : HttpConn) (n : ℕ) (s : Standing L ev acts turn n e old) where
  pub may_turn : run_settled old.run ≡ true → has_room (flags_of old) ≡ true → may_go_on (number_of old) e ≡ true
  may_turn settled room =
      and_from (room_then (number_of old) (all_of e)) (not (has_unsettled e.items (number_of old))) (sym (flags_say (flags_of old) (all_of e) s.flags).room ∙ room)
      (ap not (unsettled_exact (site_of old) (number_of old) e (is_early old) n s.legs old.run (known_now L ev acts turn n e old s) ∙ ap not (same_settled old.run ∙ settled)))

  -- ---- what may be made ready

  module _ (q : Quiet e old) (found : old.lost ≡ false) (on : ends_at old e ≡ false) (away : is_reading old.stage ≡ false) (settled : run_settled old.run ≡ true) (room : has_room (flags_of old) ≡ true) where
    unawaited : is_unanswered old.stage ≡ true → old.continued ≡ false → is_awaited (site_of old) (number_of old) e ≡ false
    unawaited u first =
        false_from_ne_true (is_awaited (site_of old) (number_of old) e) (λ awaited. false≢true (sym away ∙ ((q.found found).let_on u first awaited).2))

    pub continued_hop : is_continued (site_of old) (number_of old) e ≡ true
    continued_hop =
        continues_stand (site_of old) (number_of old) e s.legs old.continued (is_looked_at old.request) (old.closing || old.closes) (more_in old e s.legs (s.staged found)) old.stage (stage_is old e s.legs (s.staged found))
        unawaited

    looked : (is_looked_at old.request || is_taken old.request) ≡ true
    looked = (s.heard found).looked away

    pub may_hop : (stamp : Option ℕ) → stamp ≡ last_secs (L ++ In ev ∷ []) → MayHop old e s.legs stamp
    may_hop stamp clock = record {
      may = record {
        front = s.front;
        staged = s.staged found;
        next = n;
        children = known L ev acts turn n e old s found;
        found = found;
        looked = looked;
        unclosed = unclosed_of old e _ s.front (going old _ on);
        let_on = continued_hop;
        stamp_is = clock ∙ (sym (secs_acts (L ++ In ev ∷ []) acts) ∙ ap (λ (l : List Item). last_secs l) (sym s.children.knows.items));
      };
      turn = may_turn settled room;
      offers = λ hop request at. offers_are_known old e hop request s.front found (unclosed_of old e _ s.front (going old _ on)) (s.heard found) at;
    }

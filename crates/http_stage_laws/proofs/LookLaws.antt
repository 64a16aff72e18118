-- What a look finds.
use Rattle.std.proofs.Common.{◌≡◌, inl, inr, Bool, true, false, ◌||◌, List, Some, refl, sym, ap, ◌∙◌, subst}
use Rattle.std.proofs.lemmas.Bool.{false≢true}
use Rattle.host_base.specs.declared.limits.Limits.{Limits}
use Rattle.request_reader.specs.Request.{Bad, read_request}
use Rattle.trace_model.specs.Exchange.{Exchange, reading, request_bytes}
use Rattle.trace_model.specs.Legs.{Leg as Started}
use Rattle.trace_model.specs.Readings.{startable}
use Rattle.exchange_request.specs.declared.found.Found.{Found}
use Rattle.exchange_request.specs.declared.found.Found.TheVariants as Seen
use Rattle.exchange_request.specs.Knows.{Finds, is_looked_at, limits_of}
use Rattle.exchange_stage.specs.declared.stage.Stage.{Stage}
use Rattle.exchange_stage.specs.declared.stage.Stage.TheVariants as At
use Rattle.exchange_laws.specs.Moves.{LooksFind}
use Rattle.exchange_laws.specs.StageIs.{StageIs}
use Rattle.exchange_laws.specs.Unanswered.{IsUnready}
use Rattle.exchange_laws.proofs.FinishLaws.{looks_move}
use Rattle.conn_laws.specs.Front.{IsHeard}
use Rattle.conn_laws.proofs.FrontLaws.{unready_none}
use Rattle.http_conn.specs.HttpConn.{HttpConn}
use Rattle.http_conn.specs.Kept.{StandsFor, is_reading, number_of, site_of}
use Rattle.http_conn.specs.Ready.{Looked, LooksTo}
use Rattle.http_stage_laws.specs.Staged.{Staged}

is_at_reading : (s : Stage) → is_reading s ≡ true → s ≡ At.Reading
is_at_reading At.Reading e = refl
is_at_reading _ e = absurd (false≢true e)

module _ (old new : HttpConn) (e : Exchange) (legs : List Started) (front : StandsFor old e) (staged : Staged old e legs) (found : old.lost ≡ false) (unclosed : e.closed ≡ false) where
  finds : LooksFind (site_of old) (number_of old) e legs old.continued (old.closing || old.closes) staged.more → (seen : Found) → LooksTo seen old new → old.stage ≡ At.Reading
      → limits_of new.request ≡ (site_of old).limits → Finds (request_bytes (number_of old) e) seen new.request → Staged new e legs
  finds move Seen.More to at limits f =
      let reads : reading (site_of old) (number_of old) e ≡ _ = sym (ap (λ (l : Limits). read_request l (request_bytes (number_of old) e)) limits) ∙ f.is in
      let stage : StageIs (site_of old) (number_of old) e legs old.continued true (old.closing || old.closes) staged.more At.Reading =
      move.none (subst IsUnready (sym reads) f.unready) in
      subst (λ (conn : HttpConn). Staged conn e legs) (sym to)
      (record {
        more = staged.more;
        kept = staged.kept;
        is = subst (λ (s : Stage). StageIs (site_of old) (number_of old) e legs old.continued (is_looked_at new.request) (old.closing || old.closes) staged.more s) (sym at)
            (subst (λ (b : Bool). StageIs (site_of old) (number_of old) e legs old.continued b (old.closing || old.closes) staged.more At.Reading) (sym f.looked) stage);
      })
  finds move (Seen.Ready request) to at limits f =
      let starts : startable (reading (site_of old) (number_of old) e) ≡ Some request =
      sym (ap (λ (l : Limits). startable (read_request l (request_bytes (number_of old) e))) limits) ∙ f.is in
      subst (λ (conn : HttpConn). Staged conn e legs) (sym to)
      (record {
        more = staged.more;
        kept = staged.kept;
        is = subst (λ (b : Bool). StageIs (site_of old) (number_of old) e legs old.continued b (old.closing || old.closes) staged.more (At.Unstarted 0 request)) (sym f.looked)
            (move.ready request starts);
      })
  finds move (Seen.Refused cause bare) to at limits f =
      let reads : reading (site_of old) (number_of old) e ≡ Bad cause bare = sym (ap (λ (l : Limits). read_request l (request_bytes (number_of old) e)) limits) ∙ f.is in
      subst (λ (conn : HttpConn). Staged conn e legs) (sym to)
      (record {
        more = staged.more;
        kept = staged.kept;
        is = subst (λ (b : Bool). StageIs (site_of old) (number_of old) e legs old.continued b (old.closing || old.closes) staged.more (At.Rejected cause bare)) (sym f.looked)
            (move.refused cause bare reads);
      })

  by_look : Looked old new → Staged new e legs
  by_look (inl same) = subst (λ (conn : HttpConn). Staged conn e legs) (sym same) staged
  by_look (inr l) =
      let at : old.stage ≡ At.Reading = is_at_reading old.stage l.reading in
      let h : IsHeard old.request (is_reading old.stage) (request_bytes (number_of old) e) = front.request found unclosed in
      finds
      (looks_move (site_of old) (number_of old) e legs old.continued (is_looked_at old.request) (old.closing || old.closes) staged.more
      (subst (λ (s : Stage). StageIs (site_of old) (number_of old) e legs old.continued (is_looked_at old.request) (old.closing || old.closes) staged.more s) at staged.is))
      l.found l.to at (l.limits ∙ front.limits)
      (l.finds (request_bytes (number_of old) e) (unready_none old.request (request_bytes (number_of old) e) h.taken (h.unready l.reading) h.knows) (h.unready l.reading))

pub looks_staged : (old new : HttpConn) (e : Exchange) (legs : List Started) → StandsFor old e → Staged old e legs → old.lost ≡ false → e.closed ≡ false → Looked old new → Staged new e legs
looks_staged old new e legs front staged found unclosed looked = by_look old new e legs front staged found unclosed looked

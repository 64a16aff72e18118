-- What each Start of a step is.
use Rattle.std.specs.Prelude.{ℕ, zero, Bool, false, true, not, ◌&&◌, ◌==◌, if◌then◌else◌, List, [], ◌∷◌, Option, Some, None}
use Rattle.host_base.specs.declared.launch.Launch.{Launch}
use Rattle.host_base.specs.declared.launch.Peer.{Peer}
use Rattle.host_base.specs.declared.request.Request.{Request}
use Rattle.host_base.specs.declared.site.Mapped.{Mapped}
use Rattle.host_base.specs.declared.site.Site.{Site}
use Rattle.host_trace.specs.declared.items.Act.{Act}
use Rattle.host_trace.specs.declared.items.Act.TheVariants.{Start}
use Rattle.host_trace.specs.Projections.{peers, stopped, shut, upgraded}
use Rattle.meta_variables.specs.Launch.{launch_of}
use Rattle.trace_model.specs.Exchange.{Exchange, all_of, has_start}
use Rattle.trace_model.specs.Answer.{Stage, welcomed, unstarted, stage}
use Rattle.trace_model.specs.Demands.{may_go_on, is_welcomed}
use Rattle.trace_model.specs.Sameness.{is_same_launch}

-- what the script of a request is started with, for the client that connected
abbrev pub launch_by : Site → List Peer → Request → Mapped → Option Launch
launch_by site [] request mapped = None
launch_by site (peer ∷ others) request mapped = launch_of site peer request mapped

-- the launch of the hop that is not started yet
abbrev pub launch_at : Site → ℕ → Exchange → ℕ → Stage → Option Launch
launch_at site c e hop (unstarted h request mapped) = if hop == h then launch_by site (peers (all_of e)) request mapped else None
-- .. and of a WebSocket's only child, once the accept text and the Upgrade stand
launch_at site c e zero (welcomed value request mapped) =
    if is_welcomed site c e (welcomed value request mapped) && upgraded e.items c && not (has_start c e)
    then launch_by site (peers (all_of e)) request mapped else None
launch_at site c e hop _ = None

abbrev pub is_launch : Launch → Option Launch → Bool
is_launch launch None = false
is_launch launch (Some due) = is_same_launch launch due

-- A Start is of the exchange that goes on, so the earlier ones have ended; it has the launch of the hop that is due, so
-- there is one for each exchange and hop; no child of the exchange is unsettled, and not too much waits to be sent; and
-- neither was the server stopped nor the connection shut, nor does an earlier answer close it.
abbrev pub is_right_start : Site → ℕ → Exchange → Act → Bool
is_right_start site c e (Start k d j hop launch) =
    j == e.number && is_launch launch (launch_at site c e hop (stage site c e)) && may_go_on c e
    && not e.closed && not (stopped (all_of e)) && not (shut (all_of e) c)
is_right_start site c e _ = true

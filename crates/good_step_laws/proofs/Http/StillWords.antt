-- Of a connection that is at rest: a run for which nothing is due, a reply that was told all, and whether it persists.
use Rattle.std.proofs.Common.{◌≡◌, ℕ, ◌&&◌, ◌||◌, Bool, true, false, not, List, [], ◌∷◌, Option, Some, None, if◌then◌else◌, refl, sym, ap, ◌∙◌, subst, append-nil}
use Rattle.std.proofs.lemmas.Bool.{false≢true}
use Rattle.host_trace.specs.declared.items.Act.{Act}
use Rattle.host_trace.specs.declared.items.Act.TheVariants.{EndInput, Feed, Kill, Release, WantChild}
use Rattle.child_core.specs.Due.{Due, Path, acted, acting, after, is_ask_due, is_at_rest, is_feed_due, is_input_due, is_kill_due, is_release_due}
use Rattle.child_core.specs.View.{View}
use Rattle.child_core.proofs.MemoryLaws.{acting-due}
use Rattle.request_reader.specs.Request.{Bad, More, Reading, Whole}
use Rattle.trace_model.specs.Closes.{persists_by}
use Rattle.trace_model.specs.Readings.{headed, is_whole, startable}
use Rattle.exchange_request.specs.declared.found.Manner.{Manner}
use Rattle.exchange_request.specs.declared.incoming.Incoming.{Incoming}
use Rattle.exchange_request.specs.Knows.{KnowsRequest, StandsBy, is_read, reading_of}
use Rattle.exchange_reply.specs.declared.reply.LegReply.{LegReply}
use Rattle.exchange_reply.specs.Reply.{Gives, KnowsReply}
use Rattle.exchange_reply.specs.Standings.{next}
use Rattle.exchange_reply.proofs.KnownLaws.{known_stand}
use Rattle.reply_stream.specs.declared.asked.Asked.{Asked}
use Rattle.reply_stream.specs.Writing.{IsQuiet, Stood, begun, nothing as none_stood}

-- ---- its run

or_first : (a b : Bool) → a ≡ true → (a || b) ≡ true
or_first true b e = refl
or_first false b e = absurd (false≢true e)

or_second : (a b : Bool) → b ≡ true → (a || b) ≡ true
or_second true b e = refl
or_second false b e = e

due_unrests : (may : Bool) (v : View) (act : Act) → Due may v act → is_at_rest may v ≡ false
due_unrests may v (Feed k bytes) d =
    ap not (or_first (is_feed_due v || is_input_due v || is_kill_due v || is_release_due v) (is_ask_due may v) (or_first (is_feed_due v || is_input_due v || is_kill_due v) (is_release_due v)
    (or_first (is_feed_due v || is_input_due v) (is_kill_due v) (or_first (is_feed_due v) (is_input_due v) d.2))))
due_unrests may v (EndInput k) d =
    ap not (or_first (is_feed_due v || is_input_due v || is_kill_due v || is_release_due v) (is_ask_due may v) (or_first (is_feed_due v || is_input_due v || is_kill_due v) (is_release_due v)
    (or_first (is_feed_due v || is_input_due v) (is_kill_due v) (or_second (is_feed_due v) (is_input_due v) d.1))))
due_unrests may v (Kill k) d =
    ap not (or_first (is_feed_due v || is_input_due v || is_kill_due v || is_release_due v) (is_ask_due may v) (or_first (is_feed_due v || is_input_due v || is_kill_due v) (is_release_due v)
    (or_second (is_feed_due v || is_input_due v) (is_kill_due v) d.1)))
due_unrests may v (Release k) d =
    ap not (or_first (is_feed_due v || is_input_due v || is_kill_due v || is_release_due v) (is_ask_due may v) (or_second (is_feed_due v || is_input_due v || is_kill_due v) (is_release_due v) d.1))
due_unrests may v (WantChild k) d = ap not (or_second (is_feed_due v || is_input_due v || is_kill_due v || is_release_due v) (is_ask_due may v) d.1)
due_unrests may v _ d = absurd d

-- where nothing is due nothing is given
pub rest_quiet : (may : Bool) (v : View) → is_at_rest may v ≡ true → (acting may v ≡ []) × (acted may v ≡ v)
rest_quiet may v rests = go (acting may v) refl (acting-due may v).path (acting-due may v).after_is
  where
    go : (acts : List Act) → acting may v ≡ acts → Path may v acts → after v (acting may v) ≡ acted may v → (acting may v ≡ []) × (acted may v ≡ v)
    go [] is path end = (is, sym end ∙ ap (λ (l : List Act). after v l) is)
    go (a ∷ acts) is path end = absurd (false≢true (sym (due_unrests may v a path.0) ∙ rests))

-- ---- its reply

next_none : (asked : Asked) (output : List ℕ) (ticked closes : Bool) (stamp : Option ℕ) (stood : Stood) (reply : LegReply) → KnowsReply reply asked output ticked stood
    → next asked output ticked closes stamp stood [] ≡ stood
next_none asked output ticked closes stamp none_stood reply k = ap (λ (b : Bool). if b then begun closes stamp [] else none_stood) (known_stand reply asked output ticked none_stood k)
next_none asked output ticked closes stamp (begun close_then stamp_then before) reply k = ap (λ (l : List ℕ). begun close_then stamp_then l) (append-nil before)

-- it gives nothing more where nothing came
pub still_gives : (asked : Asked) (output : List ℕ) (ticked closes : Bool) (stamp : Option ℕ) (stood : Stood) (reply : LegReply) → KnowsReply reply asked output ticked stood
    → Gives asked output ticked closes stamp stood [] reply
still_gives asked output ticked closes stamp stood reply k =
    let same = next_none asked output ticked closes stamp stood reply k in
    record {
      knows = subst (λ (s : Stood). KnowsReply reply asked output ticked s) (sym same) k;
      quiet = subst (λ (s : Stood). IsQuiet s []) (sym same) (none_written stood);
    }
  where
    none_written : (s : Stood) → IsQuiet s []
    none_written none_stood = refl
    none_written (begun close_then stamp_then before) = tt

-- ---- whether an answer leaves the connection open

abbrev persist_by : Option Manner → Bool → Bool
persist_by None whole = false
persist_by (Some manner) whole = manner.persists && whole

abbrev pub persist_of : Incoming → Bool
persist_of i = persist_by i.manner i.whole

and_none : (a b : Bool) → b ≡ false → (a && b) ≡ false
and_none true b e = e
and_none false b e = refl

looked_by : (fresh whole : Bool) → whole ≡ false → (not fresh || whole) ≡ true → fresh ≡ false
looked_by true whole w e = sym e ∙ w
looked_by false whole w e = refl

pub persist_told : (i : Incoming) (bytes : List ℕ) (taken : ℕ) → KnowsRequest i bytes taken → is_read i ≡ true → persist_of i ≡ (persists_by (headed (reading_of i bytes)) && is_whole (reading_of i bytes))
persist_told i bytes taken k read = by_stage i.manner i.whole refl k.stands
  where
    unready : (reading : Reading) → startable reading ≡ None → false ≡ (persists_by (headed reading) && is_whole reading)
    unready (Whole request used due) e = absurd (cc)
    unready (More request due) e = sym (and_none (persists_by (headed (More request due))) false refl)
    unready (Bad cause bare) e = refl

    by_stage : (manner : Option Manner) (whole : Bool) → i.whole ≡ whole → StandsBy i manner whole bytes taken → persist_by manner whole ≡ (persists_by (headed (reading_of i bytes)) && is_whole (reading_of i bytes))
    by_stage None false w h = unready (reading_of i bytes) (h.looked (looked_by i.fresh i.whole w read))
    by_stage None true w h = absurd h
    by_stage (Some manner) false w h =
        and_none manner.persists false refl ∙ sym (and_none (persists_by (headed (reading_of i bytes))) (is_whole (reading_of i bytes)) (h.looked (looked_by i.fresh i.whole w read)))
    by_stage (Some manner) true w h =
        ap (λ (m : Manner). m.persists && true) h.manner_is ∙ sym (ap (λ (r : Reading). persists_by (headed r) && is_whole r) h.is)

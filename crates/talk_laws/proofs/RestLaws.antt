-- A run at rest: nothing is given for it, and a text that may be heard may still be heard.
use Rattle.std.proofs.Common.{◌≡◌, Bool, true, false, refl, ap, ◌∙◌}
use Rattle.std.specs.Prelude.{◌&&◌, ◌||◌, ◌==◌}
use Rattle.std.proofs.lemmas.Bool.{false≢true}
use Rattle.host_trace.specs.Decider.{is_websocket}
use Rattle.child_core.specs.Calls.{wants_text}
use Rattle.child_core.specs.Due.{acted as run_acted, acted, ask_given, feed_given, input_given, is_ask_due, is_at_rest, is_feed_due, is_input_due, is_kill_due, is_release_due, kill_given, release_given}
use Rattle.child_core.specs.View.{View as Run}
use Rattle.child_core.proofs.EndLaws.{rests_of}

-- nothing is given where nothing is due
same_feed : (v : Run) → is_feed_due v ≡ false → feed_given v ≡ v
same_feed v none = rw none refl

same_input : (v : Run) → is_input_due v ≡ false → input_given v ≡ v
same_input v none = rw none refl

same_kill : (v : Run) → is_kill_due v ≡ false → kill_given v ≡ v
same_kill v none = rw none refl

same_release : (v : Run) → is_release_due v ≡ false → release_given v ≡ v
same_release v none = rw none refl

same_ask : (may : Bool) (v : Run) → is_ask_due may v ≡ false → ask_given may v ≡ v
same_ask may v none = rw none refl

pub acted_rests : (may : Bool) (v : Run) → is_at_rest may v ≡ true → run_acted may v ≡ v
unfolding acted
acted_rests may v rests =
    let r = rests_of may v rests in
    ap (λ w. ask_given may (release_given (kill_given (input_given w)))) (same_feed v r.feed)
    ∙ ap (λ w. ask_given may (release_given (kill_given w))) (same_input v r.input)
    ∙ ap (λ w. ask_given may (release_given w)) (same_kill v r.kill) ∙ ap (ask_given may) (same_release v r.release) ∙ same_ask may v r.ask

-- where nothing is fed a text that may be heard may still be heard
still_wants : (s u k i d x : Bool) → (s && (u || k && (i || x))) ≡ true → (s && (u || k && ((d || i) || x))) ≡ true
still_wants true true k i d x is = refl
still_wants true false true true true x is = refl
still_wants true false true true false x is = refl
still_wants true false true false true x is = refl
still_wants true false true false false x is = is
still_wants true false false i d x is = absurd (false≢true is)
still_wants false u k i d x is = absurd (false≢true is)

pub acted_wants : (may : Bool) (v : Run) → is_feed_due v ≡ false → wants_text v ≡ true → wants_text (run_acted may v) ≡ true
unfolding acted
acted_wants may v none wants =
    ap (λ w. wants_text (ask_given may (release_given (kill_given (input_given w))))) (same_feed v none)
    ∙ still_wants v.started (v.untaken == 0) (is_websocket v.kind) v.input_ended (is_input_due v) v.exited wants

pub no_feed : (may : Bool) (v : Run) → is_at_rest may v ≡ true → is_feed_due v ≡ false
no_feed may v rests = (rests_of may v rests).feed

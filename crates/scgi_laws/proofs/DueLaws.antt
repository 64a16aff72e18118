-- What a connection comes to is what the model says of it.
use Rattle.std.proofs.Common.{◌≡◌, ℕ, false, List, [], ◌∷◌, Some, None, Result, Ok, Err, refl, sym, ap}
use Rattle.std.proofs.lemmas.Bool.{false≢true}
use Rattle.host_base.specs.declared.cause.Cause.{Cause}
use Rattle.host_base.specs.declared.launch.Launch.{Launch}
use Rattle.host_base.specs.declared.site.Site.{Site}
use Rattle.host_trace.specs.declared.items.Item.{Item}
use Rattle.host_trace.specs.Projections.{children}
use Rattle.child_core.specs.declared.ending.Outcome.TheVariants.{Dropped, Failed, Gone, Output, Stopped}
use Rattle.front_answers.specs.Answer.{is_answered, text_of_answer}
use Rattle.meta_variables.specs.Gateway.{gateway_launch_of}
use Rattle.scgi_reader.specs.declared.reader.ScgiRequest.{ScgiRequest}
use Rattle.scgi_reader.specs.declared.reader.ScgiStep.TheVariants.{Bad, More, Whole}
use Rattle.scgi_model.specs.Answer.{by_children, by_launch as answer_by_launch}
use Rattle.scgi_model.specs.Rules.{launch_due}
use Rattle.scgi_conn.specs.Parts.{is_hearing, is_written}
use Rattle.scgi_conn.specs.Stages.{by_launch}
use Rattle.scgi_laws.specs.Dues.{BytesAreRead, RequestsBreakOff, RunsAreAnswered, body_in, launch_in, text_in}

-- a whole request, by what it maps to
record AreMapped (site : Site) (request : ScgiRequest) (r : Result Launch Cause) : Type 0 where
  hears : is_hearing (by_launch request r) ≡ false
  starts : launch_in (by_launch request r) ≡ launch_due (Some r)
  feeds : (launch : Launch) → launch_in (by_launch request r) ≡ Some launch → body_in (by_launch request r) ≡ request.body
  answers : (c : ℕ) (L : List Item) → children L c ≡ [] → is_written (by_launch request r) ≡ is_answered (answer_by_launch site c L (Some r))
  text : (c : ℕ) (L : List Item) → children L c ≡ [] → text_in (by_launch request r) ≡ text_of_answer (answer_by_launch site c L (Some r))

mapped : (site : Site) (request : ScgiRequest) (r : Result Launch Cause) → AreMapped site request r
mapped site request (Ok launch) = record {
  hears = refl;
  starts = refl;
  feeds = λ other is. refl;
  answers = λ c L none. sym (ap (λ (ks : List ℕ). is_answered (by_children site c L ks)) none);
  text = λ c L none. sym (ap (λ (ks : List ℕ). text_of_answer (by_children site c L ks)) none);
}
mapped site request (Err cause) = record {
  hears = refl;
  starts = refl;
  feeds = λ other is. absurd (cc);
  answers = λ c L none. refl;
  text = λ c L none. refl;
}

pub bytes_are_read : BytesAreRead
bytes_are_read site bytes More = record { hears = refl; starts = refl; feeds = λ other is. refl; answers = λ c L none. refl; text = λ c L none. refl }
bytes_are_read site bytes (Bad cause) = record { hears = refl; starts = refl; feeds = λ other is. refl; answers = λ c L none. refl; text = λ c L none. refl }
bytes_are_read site bytes (Whole request used) =
    let m = mapped site request (gateway_launch_of site.hosts request.fields) in
    record { hears = m.hears; starts = m.starts; feeds = m.feeds; answers = m.answers; text = m.text }

pub runs_are_answered : RunsAreAnswered
runs_are_answered output None = record { answers = refl; text = refl }
runs_are_answered [] (Some Output) = record { answers = refl; text = refl }
runs_are_answered (byte ∷ output) (Some Output) = record { answers = refl; text = refl }
runs_are_answered output (Some (Failed cause)) = record { answers = refl; text = refl }
runs_are_answered output (Some Gone) = record { answers = refl; text = refl }
runs_are_answered output (Some Stopped) = record { answers = refl; text = refl }
runs_are_answered output (Some Dropped) = record { answers = refl; text = refl }

pub requests_break_off : RequestsBreakOff
requests_break_off [] cause end = record { answers = λ is. absurd (false≢true is); leaves = λ is. refl }
requests_break_off (byte ∷ bytes) cause end = record { answers = λ is. refl; leaves = λ is. absurd (false≢true (sym is)) }

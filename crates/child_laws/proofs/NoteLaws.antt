-- What an item brings of the body, and what an event makes of a run.
use Rattle.std.proofs.Common.{◌≡◌, ◌≤◌, ℕ, zero, suc, Bool, true, false, List, [], ◌∷◌, ◌++◌, Some, None, refl, sym, ap, subst, ◌∙◌, append-nil, length}
use Rattle.std.specs.Prelude.{if◌then◌else◌, ◌||◌, drop}
use Rattle.std.proofs.lemmas.Bool.{false≢true}
use Rattle.host_base.specs.declared.request.Request.{Request}
use Rattle.host_base.specs.declared.site.Site.{Site}
use Rattle.host_trace.specs.declared.items.Item.{Item}
use Rattle.host_trace.specs.Decider.{is_websocket}
use Rattle.host_trace.specs.Kinds.{bytes_heard}
use Rattle.request_reader.specs.Request.{Reading, Whole, More, Bad, is_length, with_body}
use Rattle.request_reader.specs.RequestLaws.{Becomes}
use Rattle.child_core.specs.View.{View}
use Rattle.child_core.specs.Knows.{Offers}
use Rattle.trace_model.specs.Exchange.{Exchange, pushed, reading}
use Rattle.trace_model.specs.Readings.{body_of, headed, is_whole, startable}
use Rattle.trace_model.proofs.AnswerLaws.{grown}
use Rattle.trace_model.proofs.ExchangeLaws.{request_bytes-push}
use Rattle.child_laws.specs.Setting.{setting}
use Rattle.child_laws.specs.Heard.{body_heard, body_more, note_at}

-- ---- the body

drop_own : (f r : List ℕ) → drop (length f) (f ++ r) ≡ r
drop_own [] r = refl
drop_own (b ∷ f) r = drop_own f r

drop_all : (f : List ℕ) → drop (length f) f ≡ []
drop_all f = ap (λ l. drop (length f) l) (sym (append-nil f)) ∙ drop_own f []

-- what was heard of the body of a request that may be served is heard still
pub record Grows (was now : Reading) : Type 0 where
  pub body : body_of (headed now) ≡ body_of (headed was) ++ drop (length (body_of (headed was))) (body_of (headed now))
  pub whole : is_whole was ≡ true → is_whole now ≡ true
  pub done : is_whole was ≡ true → drop (length (body_of (headed was))) (body_of (headed now)) ≡ []

same_grows : (was now : Reading) → now ≡ was → Grows was now
same_grows was now e = subst (Grows was) (sym e) (record {
  body = sym (ap (λ l. body_of (headed was) ++ l) (drop_all (body_of (headed was))) ∙ append-nil _);
  whole = λ w. w;
  done = λ w. drop_all (body_of (headed was));
})

more_grows : (request request' : Request) (due : Bool) (now : Reading) (some : List ℕ) → headed now ≡ Some request' → request' ≡ with_body request (request.body ++ some)
    → Grows (More (Some request) due) now
more_grows request request' due now some is grew =
    let body : body_of (headed now) ≡ request.body ++ some = ap body_of is ∙ ap (λ (r : Request). r.body) grew in
    record {
      body = body ∙ ap (λ l. request.body ++ l) (sym (ap (λ l. drop (length request.body) l) body ∙ drop_own request.body some));
      whole = λ w. absurd (false≢true w);
      done = λ w. absurd (false≢true w);
    }

long_is : (request first : Request) → (if is_length request.framing then Some request else None) ≡ Some first → is_length request.framing ≡ true
long_is request first e = go (is_length request.framing) e
  where
    go : (b : Bool) → (if b then Some request else None) ≡ Some first → b ≡ true
    go true e = refl
    go false e = absurd (cc)

grows_by : (was now : Reading) (first : Request) → startable was ≡ Some first → Becomes was now → Grows was now
grows_by (Whole request used due) now first s b = same_grows (Whole request used due) now b
grows_by (More None due) now first s b = absurd (cc)
grows_by (Bad cause bare) now first s b = absurd (cc)
grows_by (More (Some request) due) (Whole request' used' due') first s b = more_grows request request' due (Whole request' used' due') b.0.0 refl b.0.1
grows_by (More (Some request) due) (More (Some request') due') first s b = more_grows request request' due (More (Some request') due') b.0.0 refl b.0.1
grows_by (More (Some request) due) (More None due') first s b = absurd b
grows_by (More (Some request) due) (Bad cause bare) first s b = absurd (false≢true (sym b.0 ∙ long_is request first s))

module _ (site : Site) (c : ℕ) (e : Exchange) (x : Item) where
  pub body_grows : 2 ≤ site.limits.head → (first : Request) → startable (reading site c e) ≡ Some first → Grows (reading site c e) (reading site c (pushed e x))
  body_grows two first s = grows_by (reading site c e) (reading site c (pushed e x)) first s (grown site c e x two)

  -- an item without bytes of the client
  pub reading_same : bytes_heard c x ≡ [] → reading site c (pushed e x) ≡ reading site c e
  reading_same none = rw (request_bytes-push c e x, none, append-nil _) refl

  pub nothing_more : bytes_heard c x ≡ [] → body_more site c e x ≡ []
  nothing_more none = ap (λ r. drop (length (body_heard site c e)) (body_of (headed r))) (reading_same none) ∙ drop_all (body_heard site c e)

  -- ---- the note

  whole_by : (now was : Bool) → (was ≡ true → now ≡ true) → now ≡ (now || was)
  whole_by true was f = refl
  whole_by false true f = f refl
  whole_by false false f = refl

  pub note_offers : (v : View) (hop : ℕ) (found : Bool) → is_websocket v.kind ≡ false → 2 ≤ site.limits.head → (first : Request) → startable (reading site c e) ≡ Some first
      → Offers (setting site c e hop) v e.items (note_at site c e hop found x) x
  note_offers v zero found ws two first s =
      let g = body_grows two first s in
      record {
        refused = λ w. absurd (false≢true (sym ws ∙ w));
        body = g.body;
        whole = λ w. whole_by (is_whole (reading site c (pushed e x))) (is_whole (reading site c e)) g.whole;
        done = λ w d. g.done d;
        talk = λ w. absurd (false≢true (sym ws ∙ w));
      }
  note_offers v (suc hop) found ws two first s = record {
    refused = λ w. absurd (false≢true (sym ws ∙ w));
    body = refl;
    whole = λ w. refl;
    done = λ w d. refl;
    talk = λ w. absurd (false≢true (sym ws ∙ w));
  }

-- What the calls make of what is known of an exchange's request.
use Rattle.std.proofs.Common.{◌≡◌, ℕ, ◌+◌, ◌≤◌, Bool, true, false, not, ◌||◌, List, [], ◌++◌, length, drop, Option, Some, None, is_some, refl, sym, ap, ◌∙◌, subst, arith, append-nil, inl}
use Rattle.std.proofs.lemmas.List.{length-drop, length-append}
use Rattle.host_base.specs.declared.cause.Cause.{Cause}
use Rattle.host_base.specs.declared.limits.Limits.{Limits}
use Rattle.host_base.specs.declared.request.Request.{Request}
use Rattle.request_reader.specs.Reader.{Reader, IsHeard, IsHeardBy, IsBehind, is_unread, unread}
use Rattle.request_reader.specs.Request.{Reading, Whole, More, Bad, is_begun, is_length, read_request, used_by, with_body}
use Rattle.request_reader.specs.RequestLaws.{Becomes}
use Rattle.request_reader.specs.declared.fault.Fault.{Fault}
use Rattle.request_reader.specs.declared.opened.Opened.{Opened}
use Rattle.request_reader.proofs.Becoming.{readings_become}
use Rattle.head_reader.specs.declared.step.HeadStep.TheVariants as Step
use Rattle.request_reader.proofs.ReadingLaws.{reading_at}
use Rattle.request_reader.proofs.RequestLaws.{rests_stay, unbegun_more}
use Rattle.trace_model.specs.Readings.{body_of, headed, if_length, is_due, is_whole, startable}
use Rattle.exchange_request.specs.Manner.{manner_of}
use Rattle.exchange_request.specs.Due.{due_of}
use Rattle.exchange_request.specs.Knows.{KnowsRequest, StandsBy, IsUnready, IsAwaited, FindsMore, FindsReady, FindsRefused, HandsOut, is_ready, is_taken, is_looked_at, is_read, reading_of}
use Rattle.exchange_request.specs.declared.found.Manner.{Manner}
use Rattle.exchange_request.specs.declared.incoming.Incoming.{Incoming}
use Rattle.exchange_request.proofs.ReadyLaws.{AnswersWhole, AnswersMore, AnswersEarly, whole_due, headed_begun, startable_more}

-- ---- what stands, by what was found

pub stands_at : (i : Incoming) (manner : Option Manner) (whole : Bool) (bytes : List ℕ) (taken : ℕ) → i.manner ≡ manner → i.whole ≡ whole
    → StandsBy i manner whole bytes taken → StandsBy i i.manner i.whole bytes taken
stands_at i manner whole bytes taken manner_is whole_is h =
    subst (λ (m : Option Manner). StandsBy i m i.whole bytes taken) (sym manner_is)
    (subst (λ (w : Bool). StandsBy i manner w bytes taken) (sym whole_is) h)

unready_by : (i : Incoming) (manner : Option Manner) (whole : Bool) (bytes : List ℕ) (taken : ℕ) → is_some manner ≡ false
    → StandsBy i manner whole bytes taken → IsUnready i bytes taken
unready_by i None false bytes taken none h = h
unready_by i None true bytes taken none h = absurd h
unready_by i (Some manner) whole bytes taken none h = absurd (cc)

pub unready : (i : Incoming) (bytes : List ℕ) (taken : ℕ) → is_ready i ≡ false → KnowsRequest i bytes taken → IsUnready i bytes taken
unready i bytes taken none k = unready_by i i.manner i.whole bytes taken none k.stands

untaken_by : (i : Incoming) (manner : Option Manner) (whole : Bool) (bytes : List ℕ) (taken : ℕ) → is_some manner ≡ false
    → StandsBy i manner whole bytes taken → whole ≡ false
untaken_by i None false bytes taken none h = refl
untaken_by i None true bytes taken none h = absurd h
untaken_by i (Some manner) whole bytes taken none h = absurd (cc)

pub untaken : (i : Incoming) (bytes : List ℕ) (taken : ℕ) → is_ready i ≡ false → KnowsRequest i bytes taken → i.whole ≡ false
untaken i bytes taken none k = untaken_by i i.manner i.whole bytes taken none k.stands

pub record Awaited (i : Incoming) (bytes : List ℕ) (taken : ℕ) : Type 0 where
  pub manner : Manner
  pub manner_of_it : i.manner ≡ Some manner
  pub is : IsAwaited i manner bytes taken

awaited_by : (i : Incoming) (manner : Option Manner) (whole : Bool) (bytes : List ℕ) (taken : ℕ) → i.manner ≡ manner → is_some manner ≡ true → whole ≡ false
    → StandsBy i manner whole bytes taken → Awaited i bytes taken
awaited_by i None whole bytes taken is ready open_yet h = absurd (cc)
awaited_by i (Some manner) true bytes taken is ready open_yet h = absurd (cc)
awaited_by i (Some manner) false bytes taken is ready open_yet h = record { manner = manner; manner_of_it = is; is = h }

pub awaited : (i : Incoming) (bytes : List ℕ) (taken : ℕ) → is_ready i ≡ true → is_taken i ≡ false → KnowsRequest i bytes taken → Awaited i bytes taken
awaited i bytes taken ready open_yet k = awaited_by i i.manner i.whole bytes taken refl ready open_yet k.stands

-- what was heard, where nothing was taken off
heard_by : (i : Incoming) (manner : Option Manner) (whole : Bool) (bytes : List ℕ) (taken : ℕ) → whole ≡ false
    → StandsBy i manner whole bytes taken → IsHeard i.reader bytes taken
heard_by i None false bytes taken open_yet h = subst (λ (n : ℕ). IsHeard i.reader bytes n) (sym h.none_taken) h.heard
heard_by i None true bytes taken open_yet h = absurd h
heard_by i (Some manner) false bytes taken open_yet h = h.heard
heard_by i (Some manner) true bytes taken open_yet h = absurd (cc)

-- ---- what the calls tell

-- all that was heard was looked at, where the request was not read to its end
looked_by : (fresh whole : Bool) → whole ≡ false → (not fresh || whole) ≡ true → fresh ≡ false
looked_by true whole w e = sym e ∙ w
looked_by false whole w e = refl

pub knows_whole : (i : Incoming) (bytes : List ℕ) (taken : ℕ) → KnowsRequest i bytes taken → is_read i ≡ true → is_taken i ≡ is_whole (reading_of i bytes)
knows_whole i bytes taken k read = by_stage i.manner i.whole refl refl k.stands
  where
    no_start : (reading : Reading) → startable reading ≡ None → false ≡ is_whole reading
    no_start (Whole request used due) e = absurd (cc)
    no_start (More request due) e = refl
    no_start (Bad cause bare) e = refl

    by_stage : (manner : Option Manner) (whole : Bool) → i.manner ≡ manner → i.whole ≡ whole → StandsBy i manner whole bytes taken
        → i.whole ≡ is_whole (reading_of i bytes)
    by_stage None false m w h = w ∙ no_start (reading_of i bytes) (h.looked (looked_by i.fresh i.whole w read))
    by_stage None true m w h = absurd h
    by_stage (Some manner) false m w h = w ∙ sym (h.looked (looked_by i.fresh i.whole w read))
    by_stage (Some manner) true m w h = w ∙ sym (ap is_whole h.is)

pub knows_due : (i : Incoming) (bytes : List ℕ) (taken : ℕ) → KnowsRequest i bytes taken → is_read i ≡ true → i.due ≡ is_due (reading_of i bytes)
knows_due i bytes taken k read = by_stage i.manner i.whole refl refl k.stands
  where
    by_stage : (manner : Option Manner) (whole : Bool) → i.manner ≡ manner → i.whole ≡ whole → StandsBy i manner whole bytes taken
        → i.due ≡ is_due (reading_of i bytes)
    by_stage None false m w h = h.due (looked_by i.fresh i.whole w read)
    by_stage None true m w h = absurd h
    by_stage (Some manner) false m w h = h.due
    by_stage (Some manner) true m w h = sym (ap is_due h.is)

pub begun_known : (i : Incoming) (bytes : List ℕ) (taken : ℕ) → KnowsRequest i bytes taken → 2 ≤ i.limits.head → is_some i.manner ≡ true → true ≡ is_begun bytes
begun_known i bytes taken k two ready = by_stage i.manner i.whole ready k.stands
  where
    by_stage : (manner : Option Manner) (whole : Bool) → is_some manner ≡ true → StandsBy i manner whole bytes taken → true ≡ is_begun bytes
    by_stage None whole r h = absurd (cc)
    by_stage (Some manner) false r h = headed_begun i.limits bytes h.request two h.head
    by_stage (Some manner) true r h = headed_begun i.limits bytes h.request two (ap headed h.is)

-- what is left of what was heard, where nothing of it was read
left_of : (i : Incoming) (bytes : List ℕ) (taken : ℕ) → IsHeard i.reader bytes taken → is_unread i.reader ≡ true → i.reader.rest ≡ bytes
left_of i bytes taken heard none = by_reader i.reader.fault i.reader.opened heard none
  where
    by_reader : (fault : Option Fault) (opened : Option Opened) → IsHeardBy i.reader.limits fault opened i.reader.rest bytes taken
        → not (is_some opened || is_some fault) ≡ true → i.reader.rest ≡ bytes
    by_reader None None h e = h.0
    by_reader (Some fault) None h e = absurd (cc)
    by_reader None (Some opened) h e = absurd (cc)
    by_reader (Some fault) (Some opened) h e = absurd (cc)

-- what is left behind a request that was read to its end
pub knows_rest : (i : Incoming) (bytes : List ℕ) (taken : ℕ) → KnowsRequest i bytes taken → is_taken i ≡ true
    → i.reader.rest ≡ drop (used_by (reading_of i bytes)) bytes
knows_rest i bytes taken k whole = by_stage i.manner i.whole whole k.stands
  where
    by_stage : (manner : Option Manner) (is_whole : Bool) → is_whole ≡ true → StandsBy i manner is_whole bytes taken
        → i.reader.rest ≡ drop (used_by (reading_of i bytes)) bytes
    by_stage manner false e h = absurd (cc)
    by_stage None true e h = absurd h
    by_stage (Some manner) true e h =
        left_of i (drop h.used bytes) 0 h.rest h.unread ∙ sym (ap (λ (r : Reading). drop (used_by r) bytes) h.is)

-- ---- bytes come

-- a request whose head is whole, with more of its body perhaps
record Grown (a b : Reading) (request : Request) : Type 0 where
  pub more : List ℕ
  pub head : headed b ≡ Some (with_body request (request.body ++ more))
  pub due : is_due b ≡ is_due a

same_head : (r request : Request) (more : List ℕ) → Some r ≡ Some request → Some (with_body r (r.body ++ more)) ≡ Some (with_body request (request.body ++ more))
same_head r request more e = let own : r ≡ request = cc in ap (λ (q : Request). Some (with_body q (q.body ++ more))) own

grown : (a b : Reading) (request : Request) → headed a ≡ Some request → is_length request.framing ≡ true → Becomes a b → Grown a b request
grown (Whole r used due) b request e long h =
    record {
      more = [];
      head = ap headed h ∙ ap (λ (l : List ℕ). Some (with_body r l)) (sym (append-nil r.body)) ∙ same_head r request [] e;
      due = ap is_due h;
    }
grown (More None due) b request e long h = absurd (cc)
grown (More (Some r) due) (Whole r' used' due') request e long h =
    record { more = h.0.0; head = ap (λ (q : Request). Some q) h.0.1 ∙ same_head r request h.0.0 e; due = h.1 }
grown (More (Some r) due) (More None due') request e long h = absurd h
grown (More (Some r) due) (More (Some r') due') request e long h =
    record { more = h.0.0; head = ap (λ (q : Request). Some q) h.0.1 ∙ same_head r request h.0.0 e; due = h.1 }
grown (More (Some r) due) (Bad cause bare) request e long h =
    let own : r ≡ request = cc in
    let both : true ≡ false = sym long ∙ ap (λ (q : Request). is_length q.framing) (sym own) ∙ h.0 in
    absurd (cc)
grown (Bad cause bare) b request e long h = absurd (cc)

-- what the call of `feed` does
pub record IsFed (i j : Incoming) (piece : List ℕ) : Type 0 where
  pub limits : j.limits ≡ i.limits
  pub reader : j.reader.limits ≡ i.reader.limits
  pub manner : j.manner ≡ i.manner
  pub whole : j.whole ≡ i.whole
  pub due : j.due ≡ i.due
  pub fresh : j.fresh ≡ true
  pub unread : is_unread j.reader ≡ is_unread i.reader
  pub heard : (bytes : List ℕ) (taken : ℕ) → IsHeard i.reader bytes taken → IsHeard j.reader (bytes ++ piece) taken

pub knows_fed : (i j : Incoming) (bytes piece : List ℕ) (taken : ℕ) → 2 ≤ i.limits.head → IsFed i j piece → KnowsRequest i bytes taken
    → KnowsRequest j (bytes ++ piece) taken
knows_fed i j bytes piece taken two f k =
    record { limits = f.reader ∙ k.limits ∙ sym f.limits; stands = by_stage i.manner i.whole refl refl k.stands }
  where
    now_fresh : {A : Type 0} → j.fresh ≡ false → A
    now_fresh e = let both : true ≡ false = sym f.fresh ∙ e in absurd (cc)

    at : (l : Limits) → l ≡ i.limits → Becomes (read_request l bytes) (read_request l (bytes ++ piece))
    at l is = readings_become l bytes piece (subst (λ (x : Limits). 2 ≤ x.head) (sym is) two)

    by_stage : (manner : Option Manner) (whole : Bool) → i.manner ≡ manner → i.whole ≡ whole → StandsBy i manner whole bytes taken
        → StandsBy j j.manner j.whole (bytes ++ piece) taken
    by_stage None false m w h = stands_at j None false (bytes ++ piece) taken (f.manner ∙ m) (f.whole ∙ w)
        (record { heard = f.heard bytes 0 h.heard; none_taken = h.none_taken; looked = now_fresh; due = now_fresh })
    by_stage None true m w h = absurd h
    by_stage (Some manner) false m w h =
        let g = grown (reading_of i bytes) (read_request i.limits (bytes ++ piece)) h.request h.head h.long (at i.limits refl) in
        let same : reading_of j (bytes ++ piece) ≡ read_request i.limits (bytes ++ piece) = ap (λ (l : Limits). read_request l (bytes ++ piece)) f.limits in
        stands_at j (Some manner) false (bytes ++ piece) taken (f.manner ∙ m) (f.whole ∙ w) (record {
          request = with_body h.request (h.request.body ++ g.more);
          heard = f.heard bytes taken h.heard;
          head = ap headed same ∙ g.head;
          long = h.long;
          manner_is = h.manner_is;
          due = f.due ∙ h.due ∙ sym (ap is_due same ∙ g.due);
          some = omega (arith, h.some, length-append h.request.body g.more);
          looked = now_fresh;
        })
    by_stage (Some manner) true m w h =
        let same : reading_of j (bytes ++ piece) ≡ read_request i.limits (bytes ++ piece) = ap (λ (l : Limits). read_request l (bytes ++ piece)) f.limits in
        let stays : read_request i.limits (bytes ++ piece) ≡ Whole h.request h.used i.due =
        subst (λ (r : Reading). Becomes r (read_request i.limits (bytes ++ piece))) h.is (at i.limits refl) in
        let left : drop h.used (bytes ++ piece) ≡ drop h.used bytes ++ piece =
        subst (λ (r : Reading). drop (used_by r) (bytes ++ piece) ≡ drop (used_by r) bytes ++ piece) h.is (rests_stay i.limits bytes piece) in
        stands_at j (Some manner) true (bytes ++ piece) taken (f.manner ∙ m) (f.whole ∙ w) (record {
          request = h.request;
          used = h.used;
          is = same ∙ stays ∙ ap (λ (b : Bool). Whole h.request h.used b) (sym f.due);
          rest = subst (λ (l : List ℕ). IsHeard j.reader l 0) (sym left) (f.heard (drop h.used bytes) 0 h.rest);
          unread = f.unread ∙ h.unread;
          manner_is = h.manner_is;
          all = h.all;
        })

-- ---- a look

-- the request was taken off
pub found_whole : (j : Incoming) (bytes : List ℕ) (answered : Request) → j.manner ≡ Some (manner_of answered) → j.whole ≡ true → j.fresh ≡ false
    → j.due ≡ due_of answered → AnswersWhole 0 answered (reading_of j bytes)
    → IsBehind j.limits bytes 0 (reading_of j bytes) j.reader → FindsReady j bytes answered
found_whole j bytes answered manner whole fresh due a behind =
    let left : answered ≡ a.request = a.left in
    let is_off : j.reader ≡ unread j.limits (drop a.used bytes) = subst (λ (r : Reading). IsBehind j.limits bytes 0 r j.reader) a.is behind in
    let due_is : j.due ≡ a.due = due ∙ ap due_of left ∙ whole_due j.limits bytes a.request a.used a.due a.is in
    record {
      is = ap startable a.is ∙ ap (λ (r : Request). Some r) (sym left);
      knows = record {
        limits = ap (λ (r : Reader). r.limits) is_off;
        stands = stands_at j (Some (manner_of answered)) true bytes (length answered.body) manner whole (record {
          request = a.request;
          used = a.used;
          is = a.is ∙ ap (λ (b : Bool). Whole a.request a.used b) (sym due_is);
          rest = subst (λ (r : Reader). IsHeard r (drop a.used bytes) 0) (sym is_off) (refl, refl);
          unread = ap (λ (r : Reader). is_unread r) is_off;
          manner_is = ap manner_of left;
          all = ap (λ (r : Request). length r.body) left;
        });
      };
      ready = ap is_some manner;
      looked = ap not fresh;
    }

-- more is to come, and none can be served
pub found_more : (j : Incoming) (bytes : List ℕ) (request : Option Request) (due : Bool) → j.manner ≡ None → j.whole ≡ false → j.fresh ≡ false → j.due ≡ due
    → j.reader.limits ≡ j.limits → reading_of j bytes ≡ More request due → if_length request ≡ None → IsHeard j.reader bytes 0 → FindsMore j bytes
found_more j bytes request due manner whole fresh due_is limits is unready heard = record {
  request = request;
  due = due;
  is = is;
  unready = unready;
  knows = record {
    limits = limits;
    stands = stands_at j None false bytes 0 manner whole (record {
      heard = heard;
      none_taken = refl;
      looked = λ e. ap startable is ∙ unready;
      due = λ e. due_is ∙ sym (ap is_due is);
    });
  };
  ready = ap is_some manner;
  looked = ap not fresh;
}

-- .. and it can be served
pub found_early : (j : Incoming) (bytes : List ℕ) (answered : Request) (request : Option Request) (due : Bool) → j.manner ≡ Some (manner_of answered)
    → j.whole ≡ false → j.fresh ≡ false → j.due ≡ due → j.reader.limits ≡ j.limits → reading_of j bytes ≡ More request due
    → AnswersEarly 0 answered request → IsHeard j.reader bytes (length answered.body) → FindsReady j bytes answered
found_early j bytes answered request due manner whole fresh due_is limits is a heard =
    let left : answered ≡ a.request = a.left in
    record {
      is = startable_more request due (reading_of j bytes) a.request is a.is a.long ∙ ap (λ (r : Request). Some r) (sym left);
      knows = record {
        limits = limits;
        stands = stands_at j (Some (manner_of answered)) false bytes (length answered.body) manner whole (record {
          request = a.request;
          heard = heard;
          head = ap headed is ∙ a.is;
          long = a.long;
          manner_is = ap manner_of left;
          due = due_is ∙ sym (ap is_due is);
          some = omega (arith, ap (λ (r : Request). length r.body) left);
          looked = λ e. ap is_whole is;
        });
      };
      ready = ap is_some manner;
      looked = ap not fresh;
    }

-- it is refused
pub found_refused : (j : Incoming) (bytes : List ℕ) (cause : Cause) (bare : Bool) → j.manner ≡ None → j.whole ≡ false → j.fresh ≡ false → j.due ≡ false
    → j.reader.limits ≡ j.limits → reading_of j bytes ≡ Bad cause bare → IsHeard j.reader bytes 0 → FindsRefused j bytes (Bad cause bare)
found_refused j bytes cause bare manner whole fresh due limits is heard = record {
  is = is;
  knows = record {
    limits = limits;
    stands = stands_at j None false bytes 0 manner whole (record {
      heard = heard;
      none_taken = refl;
      looked = λ e. ap startable is;
      due = λ e. due ∙ sym (ap is_due is);
    });
  };
  ready = ap is_some manner;
  looked = ap not fresh;
}

-- ---- more of a body

-- it has ended
pub handed_whole : (i j : Incoming) (bytes : List ℕ) (taken : ℕ) (answered : Request) → i.limits ≡ j.limits → j.manner ≡ i.manner → j.whole ≡ true
    → j.fresh ≡ false → j.due ≡ i.due → Awaited i bytes taken → AnswersWhole taken answered (reading_of j bytes)
    → IsBehind j.limits bytes taken (reading_of j bytes) j.reader → HandsOut j bytes taken answered.body
handed_whole i j bytes taken answered same manner whole fresh due w a behind =
    let reads : reading_of i bytes ≡ Whole a.request a.used a.due = ap (λ (l : Limits). read_request l bytes) same ∙ a.is in
    let own : w.is.request ≡ a.request = some_same w.is.request a.request (sym w.is.head ∙ ap headed reads) in
    let body : answered.body ≡ drop taken a.request.body = ap (λ (r : Request). r.body) a.left in
    let due_is : j.due ≡ a.due = due ∙ w.is.due ∙ ap is_due reads in
    let within : taken ≤ length a.request.body = subst (λ (r : Request). taken ≤ length r.body) own w.is.some in
    let is_off : j.reader ≡ unread j.limits (drop a.used bytes) = subst (λ (r : Reading). IsBehind j.limits bytes taken r j.reader) a.is behind in
    record {
      is = body ∙ sym (ap (λ (r : Reading). drop taken (body_of (headed r))) a.is);
      knows = record {
        limits = ap (λ (r : Reader). r.limits) is_off;
        stands = stands_at j (Some w.manner) true bytes (taken + length answered.body) (manner ∙ w.manner_of_it) whole (record {
          request = a.request;
          used = a.used;
          is = a.is ∙ ap (λ (b : Bool). Whole a.request a.used b) (sym due_is);
          rest = subst (λ (r : Reader). IsHeard r (drop a.used bytes) 0) (sym is_off) (refl, refl);
          unread = ap (λ (r : Reader). is_unread r) is_off;
          manner_is = w.is.manner_is ∙ ap manner_of own;
          all = omega (arith, ap length body, length-drop taken a.request.body, within);
        });
      };
      ready = ap is_some (manner ∙ w.manner_of_it);
      looked = ap not fresh;
    }
  where
    some_same : (r q : Request) → Some r ≡ Some q → r ≡ q
    some_same r q e = cc

-- more of it is to come
pub handed_more : (i j : Incoming) (bytes : List ℕ) (taken : ℕ) (due : Bool) (body : List ℕ) → i.limits ≡ j.limits → j.manner ≡ i.manner → j.whole ≡ i.whole
    → i.whole ≡ false → j.fresh ≡ false → j.due ≡ i.due → j.reader.limits ≡ j.limits → (w : Awaited i bytes taken) → AnswersMore due (reading_of j bytes)
    → body ≡ drop taken w.is.request.body → IsHeard j.reader bytes (taken + length body) → HandsOut j bytes taken body
handed_more i j bytes taken due body same manner whole open_yet fresh due_same limits w a body_is heard =
    let reads : reading_of i bytes ≡ More a.request due = ap (λ (l : Limits). read_request l bytes) same ∙ a.is in
    let head : headed (reading_of j bytes) ≡ Some w.is.request = ap headed (a.is ∙ sym reads) ∙ w.is.head in
    record {
      is = body_is ∙ sym (ap (λ (r : Option Request). drop taken (body_of r)) head);
      knows = record {
        limits = limits;
        stands = stands_at j (Some w.manner) false bytes (taken + length body) (manner ∙ w.manner_of_it) (whole ∙ open_yet) (record {
          request = w.is.request;
          heard = heard;
          head = head;
          long = w.is.long;
          manner_is = w.is.manner_is;
          due = due_same ∙ w.is.due ∙ ap is_due (reads ∙ sym a.is);
          some = omega (arith, ap length body_is, length-drop taken w.is.request.body, w.is.some);
          looked = λ e. ap is_whole a.is;
        });
      };
      ready = ap is_some (manner ∙ w.manner_of_it);
      looked = ap not fresh;
    }

-- ---- nothing was heard

pub knows_new : (j : Incoming) → 2 ≤ j.limits.head → j.manner ≡ None → j.whole ≡ false → j.due ≡ false → j.reader ≡ unread j.limits [] → KnowsRequest j [] 0
knows_new j two manner whole due reader =
    let none : reading_of j [] ≡ More None false = reading_at j.limits [] Step.More (unbegun_more j.limits [] two (inl refl)) in
    record {
      limits = ap (λ (r : Reader). r.limits) reader;
      stands = stands_at j None false [] 0 manner whole (record {
        heard = subst (λ (r : Reader). IsHeard r [] 0) (sym reader) (refl, refl);
        none_taken = refl;
        looked = λ e. ap startable none;
        due = λ e. due ∙ sym (ap is_due none);
      });
    }

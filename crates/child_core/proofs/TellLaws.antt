-- What a run tells, and items that don't name its child.
use Rattle.std.proofs.Common.{◌≡◌, ℕ, ◌+◌, List, [], ◌∷◌, ◌++◌, Bool, true, false, ◌||◌, ◌&&◌, refl, sym, ◌∙◌, ap, arith, None, length, append-nil, subst, inl, inr}
use Rattle.std.specs.Prelude.{◌==◌, not, is_some}
use Rattle.std.proofs.lemmas.Bool.{cases_Bool, or_parts, false≢true}
use Rattle.std.proofs.lemmas.Bool.Decides.{nat_tests}
use Rattle.host_trace.specs.declared.items.Act.{Act}
use Rattle.host_trace.specs.declared.items.Act.TheVariants.{Shut}
use Rattle.host_trace.specs.declared.items.Event.{Event}
use Rattle.host_trace.specs.declared.items.Event.TheVariants.{ClientEof, ClientGone, StartFailed, StartFull, ChildBytes, ChildEof, ChildBroken, WsText, WsBinary, WsBad, NoRoom, Tick, Stop}
use Rattle.host_trace.specs.declared.items.Item.{Item}
use Rattle.host_trace.specs.declared.items.Item.TheVariants.{In, Out}
use Rattle.host_trace.specs.Kinds.{names_child, is_start, is_started, is_start_answer, is_exited, is_input_end, is_output_end, is_kill, is_want_child, is_child_answer, is_child_eof, is_feed, is_end_input, is_tick, is_client_eof, is_client_gone, is_ws_closed, is_ws_bad, is_ws_binary, is_no_room, is_shut_for_memory, is_stop}
use Rattle.host_trace.specs.Projections.{took_sum, child_in}
use Rattle.host_trace.specs.Account.{is_refusal, settled}
use Rattle.host_trace.specs.Decider.{is_websocket, ends_connection}
use Rattle.trace_child.specs.ChildDemands.{is_all_taken}
use Rattle.child_core.specs.View.{View, Note, plain, noted, verdict, by_bytes}
use Rattle.child_core.specs.Calls.{fits_run, is_settled}
use Rattle.child_core.specs.Setting.{Setting}
use Rattle.child_core.specs.Knows.{KnowsRun, Admits, Offers}
use Rattle.child_core.specs.Laws.{IsStill}
use Rattle.child_core.specs.Tells.{WantsAreExact, concerns}
use Rattle.child_core.proofs.WordLaws.{contra, start_names, started_names, start_answer_names, refusal_names, exited_names, input_names, output_names, kill_names, want_names, answer_names, eof_names, feed_names, end_input_names, no_output, no_input, no_took}
use Rattle.child_core.proofs.KnowsLaws.{Knows-noted}
use Rattle.child_core.proofs.ActLaws.{and_false, or_none}
use Rattle.child_core.proofs.AdmitLaws.{fits_is, event-admits}

-- ---- what it tells

pub settled_is : (early : Bool) (s : Setting) (v : View) (L : List Item) → KnowsRun early s v L → is_settled v ≡ settled L v.number
settled_is early s v L k = rw (← k.refused, ← k.exited, ← k.input_ended, ← k.output_ended) refl

untaken_is : (t u n : ℕ) → t + u ≡ n → (u == 0) ≡ (t == n)
untaken_is t u n e = grind (arith, nat_tests)

pub wants_are : (early : Bool) (s : Setting) (v : View) (L : List Item) → KnowsRun early s v L → WantsAreExact s v L
wants_are early s v L k =
    let taken : (v.untaken == 0) ≡ is_all_taken L v.number = untaken_is (took_sum L v.number) v.untaken (length (child_in L v.number)) k.took in
    record {
      body = λ ws. rw (ws, taken) (or_end (is_all_taken L v.number));
      text = λ ws. rw (ws, taken, ← k.started, ← k.input_ended, ← k.exited) (same_parts v.started (is_all_taken L v.number) v.input_ended v.exited);
    }
  where
    or_end : (b : Bool) → (b || false) ≡ b
    or_end true = refl
    or_end false = refl

    same_parts : (a t i e : Bool) → (a && (t || (i || e))) ≡ (a && (t || i || e))
    same_parts false t i e = refl
    same_parts true true i e = refl
    same_parts true false true e = refl
    same_parts true false false e = refl

-- ---- items that don't name the child

-- what such an item can't be
pub record Apart (c k : ℕ) (x : Item) : Type 0 where
  pub names : names_child k x ≡ false
  pub tick : is_tick x ≡ false
  pub eof : is_client_eof c x ≡ false
  pub closed : is_ws_closed c x ≡ false
  pub gone : is_client_gone c x ≡ false
  pub bad : is_ws_bad c x ≡ false
  pub binary : is_ws_binary c x ≡ false
  pub room : is_no_room c x ≡ false
  pub memory : is_shut_for_memory c x ≡ false
  pub stop : is_stop x ≡ false

apart_of : (c k : ℕ) (x : Item) → concerns c k x ≡ false → Apart c k x
apart_of c k x e =
    let p = or_parts (names_child k x || is_tick x || is_client_eof c x || is_ws_closed c x) (ends_connection c x) e in
    let q = or_parts (names_child k x || is_tick x || is_client_eof c x) (is_ws_closed c x) p.0 in
    let r = or_parts (names_child k x || is_tick x) (is_client_eof c x) q.0 in
    let t = or_parts (names_child k x) (is_tick x) r.0 in
    let a = or_parts (is_client_gone c x || is_ws_bad c x || is_ws_binary c x || is_no_room c x || is_shut_for_memory c x) (is_stop x) p.1 in
    let b = or_parts (is_client_gone c x || is_ws_bad c x || is_ws_binary c x || is_no_room c x) (is_shut_for_memory c x) a.0 in
    let d = or_parts (is_client_gone c x || is_ws_bad c x || is_ws_binary c x) (is_no_room c x) b.0 in
    let f = or_parts (is_client_gone c x || is_ws_bad c x) (is_ws_binary c x) d.0 in
    let g = or_parts (is_client_gone c x) (is_ws_bad c x) f.0 in
    record { names = t.0; tick = t.1; eof = r.1; closed = q.1; gone = g.0; bad = g.1; binary = f.1; room = d.1; memory = b.1; stop = a.1 }

no_bytes : (talk : Bool) → by_bytes talk false false ≡ None
no_bytes true = refl
no_bytes false = refl

no_verdict : (c : ℕ) (v : View) (x : Item) → Apart c v.number x → verdict c v plain x ≡ None
no_verdict c v (In (ChildEof d)) a = rw a.names refl
no_verdict c v (In (StartFailed d)) a = rw a.names refl
no_verdict c v (In (StartFull d seen)) a = rw a.names refl
no_verdict c v (In (ChildBroken d)) a = rw a.names refl
no_verdict c v (In (ChildBytes d bytes)) a = rw a.names (no_bytes (is_websocket v.kind))
no_verdict c v (In (Tick secs)) a = absurd (let e = a.tick in cc)
no_verdict c v (In Stop) a = absurd (let e = a.stop in cc)
no_verdict c v (In (ClientGone d)) a = rw a.gone refl
no_verdict c v (In (ClientEof d)) a = rw a.eof refl
no_verdict c v (In (WsText d bytes)) a = rw (and_false (is_websocket v.kind)) refl
no_verdict c v (In (WsBinary d)) a = rw a.binary refl
no_verdict c v (In (WsBad d)) a = rw a.bad refl
no_verdict c v (In (NoRoom d)) a = rw a.room refl
no_verdict c v (Out (Shut d why)) a = rw a.memory refl
no_verdict c v x a = refl

unnamed : (test : ℕ → Item → Bool) (k : ℕ) (x : Item) → ((j : ℕ) (y : Item) → test j y ≡ true → names_child j y ≡ true) → names_child k x ≡ false → test k x ≡ false
unnamed test k x names e = contra (test k x) (names_child k x) (names k x) e

pub noted-other : (c : ℕ) (v : View) (x : Item) → concerns c v.number x ≡ false → noted c v plain x ≡ v
noted-other c v x e =
    let a = apart_of c v.number x e in
    let m = a.names in
    rw (
      unnamed is_started v.number x started_names m,
      unnamed is_refusal v.number x refusal_names m,
      unnamed is_exited v.number x exited_names m,
      unnamed is_input_end v.number x input_names m,
      unnamed is_output_end v.number x output_names m,
      unnamed is_kill v.number x kill_names m,
      unnamed is_want_child v.number x want_names m,
      unnamed is_child_answer v.number x answer_names m,
      no_verdict c v x a,
      a.closed,
      a.stop,
      a.gone,
      a.bad,
      a.room,
      a.memory,
      a.tick,
      no_output v.number x m,
      no_input v.number x m,
      no_took v.number x m,
      and_false (is_websocket v.kind),
      and_false (not (is_some v.outcome)),
      or_none v.outcome,
    ) refl

pub other-admits : (early : Bool) (s : Setting) (v : View) (L : List Item) (n : Note) (x : Item) → names_child v.number x ≡ false → Offers s v L n x → Admits early s v L n x
other-admits early s v L n x m o = record {
  start = unnamed is_start v.number x start_names m;
  begins = λ e. absurd (false≢true (sym (unnamed is_start_answer v.number x start_answer_names m) ∙ e));
  exits = λ e. absurd (false≢true (sym (unnamed is_exited v.number x exited_names m) ∙ e));
  asks = λ e. absurd (false≢true (sym (unnamed is_want_child v.number x want_names m) ∙ e));
  answers = λ e. absurd (false≢true (sym (unnamed is_child_answer v.number x answer_names m) ∙ e));
  eof = λ e. absurd (false≢true (sym (unnamed is_child_eof v.number x eof_names m) ∙ e));
  takes = rw (no_took v.number x m) (omega arith);
  feeds = λ e. absurd (false≢true (sym (unnamed is_feed v.number x feed_names m) ∙ e));
  front = rw (no_input v.number x m) refl;
  in_turn = λ w e. absurd (false≢true (sym (unnamed is_feed v.number x feed_names m) ∙ e));
  deserved = λ a e. absurd (false≢true (sym (unnamed is_end_input v.number x end_input_names m) ∙ e));
  refused = o.refused;
  body = o.body;
  whole = o.whole;
  done = o.done;
  talk = o.talk;
}

pub Knows-other : (early : Bool) (s : Setting) (v : View) (L : List Item) (x : Item) → KnowsRun early s v L → concerns s.conn v.number x ≡ false → Offers s v L plain x → KnowsRun early s v (L ++ x ∷ [])
Knows-other early s v L x k e o =
    subst (λ w. KnowsRun early s w (L ++ x ∷ [])) (noted-other s.conn v x e)
    (Knows-noted early s v L plain x k (other-admits early s v L plain x (apart_of s.conn v.number x e).names o))

pub still-offers : (early : Bool) (s : Setting) (v : View) (L : List Item) (act : Act) → IsStill s → KnowsRun early s v L → Offers s v L plain (Out act)
still-offers early s v L act still k = record {
  refused = λ w. sym (and_false _);
  body = ap (λ o. o.body) (still L act) ∙ sym (append-nil _);
  whole = λ w. ap (λ o. o.whole) (still L act);
  done = λ w e. refl;
  talk = λ w. ap (λ o. o.whole) (still L act) ∙ k.talk w;
}

pub run-admits : (early : Bool) (s : Setting) (v : View) (L : List Item) (n : Note) (ev : Event) → KnowsRun early s v L → fits_run v ev ≡ true → Offers s v L n (In ev) → Admits early s v L n (In ev)
run-admits early s v L n ev k f o = elim (cases_Bool (names_child v.number (In ev))) [
  | inl named ↦ event-admits early s v L n k ev (sym (fits_is early s v L k ev named) ∙ f) o
  | inr unnamed_it ↦ other-admits early s v L n (In ev) unnamed_it o
]

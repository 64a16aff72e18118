-- A connection without a program says nothing over its WebSocket, and closes nothing.
use Rattle.std.proofs.Common.{◌≡◌, ℕ, zero, suc, ◌<◌, Bool, true, false, List, [], ◌∷◌, ◌++◌, map, Option, Some, None, Result, Ok, Err, refl, sym, ap, ◌∙◌, inl, inr}
use Rattle.std.specs.Prelude.{if◌then◌else◌, ◌&&◌, ◌||◌, ◌==◌}
use Rattle.std.specs.List.{list_any}
use Rattle.std.proofs.lemmas.Bool.{cases_Bool, cases_lt, cond-true, eq-eqb, false≢true, lt-ltb, or_left, or_right}
use Rattle.host_base.specs.declared.cause.Cause.{Cause}
use Rattle.host_base.specs.declared.request.Request.{Request}
use Rattle.host_base.specs.declared.site.Mapped.{Mapped}
use Rattle.host_base.specs.declared.site.ScriptKind.{ScriptKind}
use Rattle.host_base.specs.declared.site.ScriptKind.TheVariants.{Cgi, Nph, WebSocket}
use Rattle.host_base.specs.declared.site.Site.{Site}
use Rattle.host_trace.specs.declared.items.Act.{Act}
use Rattle.host_trace.specs.declared.items.Act.TheVariants.{CloseWs, Says as SayTexts, Start}
use Rattle.host_trace.specs.declared.items.Item.{Item}
use Rattle.host_trace.specs.declared.items.Item.TheVariants.{Out}
use Rattle.host_trace.specs.Decider.{is_websocket}
use Rattle.host_trace.specs.Kinds.{is_accepted, is_stop, is_tick, names}
use Rattle.host_trace.specs.Projections.{accepted_count, children, children_of, is_own, names_one_of, own, own_after}
use Rattle.host_trace.proofs.OwnLaws.{own-append}
use Rattle.own_traces.specs.Between.{Between}
use Rattle.own_traces.proofs.SameLaws.{says}
use Rattle.request_reader.specs.Request.{Reading, Whole, More, Bad}
use Rattle.ws_handshake.specs.Handshake.{handshake}
use Rattle.trace_child.specs.Words.{is_filled}
use Rattle.trace_model.specs.Answer.{Walk, at_handshake, at_place, at_script, at_start, legs, walk_by, walk_by_break, walk_from}
use Rattle.trace_model.specs.Breaks.{broken}
use Rattle.trace_model.specs.Exchange.{Exchange, reading}
use Rattle.trace_model.specs.Exchanges.{current}
use Rattle.trace_model.specs.Legs.{leg_of}
use Rattle.trace_model.specs.Places.{kind_of, origins_of, place_of}
use Rattle.trace_model.specs.Readings.{if_length}
use Rattle.trace_model.specs.Talks.{has_talk, is_right_talk_act}
use Rattle.trace_model.proofs.ExchangeLaws.{all_of-current}
use Rattle.trace_laws.specs.Promised.{Promised}
use Rattle.trace_laws.proofs.ActLaws.{all_keep}
use Rattle.trace_laws.proofs.ListLaws.{any-right, children-append}
use Rattle.trace_laws.proofs.PrefixLaws.{Stands, stands}
use Rattle.promise_laws.specs.PromiseLaws.{TalksHavePrograms}

-- ---- an exchange without a child has no leg

none_of : (c j hop : ℕ) (items : List Item) → children items c ≡ [] → children_of items c j hop ≡ []
none_of c j hop [] none = refl
none_of c j hop (Out (Start k d i h launch) ∷ items) none = go (none_of c j hop items) (c == d) (j == i) (hop == h) none
  where
    go : (children items c ≡ [] → children_of items c j hop ≡ []) → (mine same later : Bool) → (if mine then k ∷ [] else []) ++ children items c ≡ []
        → (if mine && same && later then k ∷ [] else []) ++ children_of items c j hop ≡ []
    go rest true same later none = absurd (cc)
    go rest false same later none = rest none
none_of c j hop (x ∷ items) none = none_of c j hop items none

module _ (site : Site) (c : ℕ) (e : Exchange) (none : children e.items c ≡ []) where
  start_none : (hop : ℕ) (request : Request) (mapped : Mapped) (kind : ScriptKind) (next : List ℕ → Walk) → (at_start site c e hop request mapped kind next (children_of e.items c e.number hop)).legs ≡ []
  start_none hop request mapped kind next =
      ap (λ ks. (at_start site c e hop request mapped kind next ks).legs) (none_of c e.number hop e.items none)

  handshake_none : (hop : ℕ) (request : Request) (mapped : Mapped) (value : Result (List ℕ) Cause) → (at_handshake c e hop request mapped value).legs ≡ []
  handshake_none hop request mapped (Ok value) = ap (λ ks. map (leg_of hop WebSocket request) ks) (none_of c e.number hop e.items none)
  handshake_none hop request mapped (Err cause) = refl

  script_none : (hop : ℕ) (request : Request) (mapped : Mapped) (next : List ℕ → Walk) (kind : ScriptKind) → (at_script site c e hop request mapped next kind).legs ≡ []
  script_none hop request mapped next WebSocket = handshake_none hop request mapped (handshake request (origins_of site mapped))
  script_none hop request mapped next Cgi = start_none hop request mapped Cgi next
  script_none hop request mapped next Nph = start_none hop request mapped Nph next

  place_none : (hop : ℕ) (request : Request) (next : List ℕ → Walk) (place : Result Mapped Cause) → (at_place site c e hop request next place).legs ≡ []
  place_none hop request next (Err cause) = refl
  place_none hop request next (Ok mapped) = script_none hop request mapped next (kind_of site mapped)

  from_none : (left hop : ℕ) (request : Request) → (walk_from site c e left hop request).legs ≡ []
  from_none zero hop request = place_none hop request _ (place_of site request)
  from_none (suc left) hop request = place_none hop request _ (place_of site request)

  break_none : (o : Option (List Item)) (request : Option Request) → (walk_by_break site c e o request).legs ≡ []
  break_none (Some front) request = refl
  break_none None None = refl
  break_none None (Some request) = from_none site.limits.redirects 0 request

  by_none : (r : Reading) → (walk_by site c e r).legs ≡ []
  by_none (Bad cause bare) = refl
  by_none (Whole request used due) = break_none (broken site c e) (Some request)
  by_none (More request due) = break_none (broken site c e) (if_length request)

  legs_none : legs site c e ≡ []
  legs_none = by_none (reading site c e)

empty : (ks : List ℕ) → is_filled ks ≡ false → ks ≡ []
empty [] is = refl
empty (k ∷ ks) is = absurd (false≢true (sym is))

talk_started : (site : Site) (c : ℕ) (e : Exchange) → has_talk site c e ≡ true → is_filled (children e.items c) ≡ true
talk_started site c e talks = elim (cases_Bool (is_filled (children e.items c))) [
  | inl some ↦ some
  | inr none ↦ absurd (false≢true (sym (ap (list_any (λ leg. is_websocket leg.kind)) (legs_none site c e (empty (children e.items c) none))) ∙ talks))
]

filled_behind : (xs ys : List ℕ) → is_filled ys ≡ true → is_filled (xs ++ ys) ≡ true
filled_behind [] ys is = is
filled_behind (x ∷ xs) ys is = refl

-- ---- an act of a connection that was accepted

act_is_own : (c : ℕ) (before later : List Item) (x : Item) → names c x ≡ true → own_after before c (x ∷ later) ≡ x ∷ own_after (before ++ x ∷ []) c later
act_is_own c before later x named =
    cond-true (is_own c (children before c) (accepted_count before) x) (x ∷ own_after (before ++ x ∷ []) c later) (own_after (before ++ x ∷ []) c later)
    (by_name (is_accepted x && accepted_count before == c) (names c x) (names_one_of (children before c) x) (is_tick x) (is_stop x) named)
  where
    by_name : (a b d e f : Bool) → b ≡ true → (a || b || d || e || f) ≡ true
    by_name a b d e f is = or_left _ f (or_left _ e (or_left _ d (or_right a b is)))

known_by : (T before : List Item) (c : ℕ) (x : Item) (later : List Item) → Between T → names c x ≡ true → T ≡ before ++ x ∷ later → c < accepted_count T
known_by T before c x later b named is = elim (cases_lt c (accepted_count T)) [
  | inl known ↦ known
  | inr none ↦
      absurd (false≢true (sym (b.known c none) ∙ (ap (λ (l : List Item). list_any (names c) l) is ∙ any-right (names c) before (x ∷ later) (or_left (names c x) (list_any (names c) later) named))))
]

program_stands : (site : Site) (T before : List Item) (c : ℕ) (act : Act) (later : List Item) → Promised site T → T ≡ before ++ Out act ∷ later → names c (Out act) ≡ true
    → ((e : Exchange) → is_right_talk_act site c e act ≡ true → has_talk site c e ≡ true) → is_filled (children before c) ≡ true
program_stands site T before c act later f is named talks =
    let s : Stands T = stands site T f in
    let x : Item = Out act in
    let L : List Item = own before c in
    let cut : own T c ≡ L ++ x ∷ own_after (before ++ x ∷ []) c later =
    ap (λ (l : List Item). own l c) is ∙ (own-append before c (x ∷ later) ∙ ap (λ (l : List Item). L ++ l) (act_is_own c before later x named)) in
    let known : c < accepted_count T = known_by T before c x later s.between named is in
    let right : is_right_talk_act site c (current site c (own before c)) act ≡ true =
    all_keep site c (is_right_talk_act site c) (λ step good. good.good.talk_acts) (own T c) (s.begins c) (f.good.connections c (lt-ltb c (accepted_count T) known)) (own before c)
    (own_after (before ++ x ∷ []) c later) act cut in
    let now : Exchange = current site c (own before c) in
    let started : is_filled (children (current site c (own before c)).items c) ≡ true = talk_started site c (current site c (own before c)) (talks (current site c (own before c)) right) in
    ap is_filled (sym (says before c (s.fronts before (x ∷ later) is)).starts)
    ∙ (ap (λ (l : List Item). is_filled (children l c)) (sym (all_of-current site c (own before c)))
    ∙ (ap is_filled (children-append (current site c (own before c)).before (current site c (own before c)).items c)
    ∙ filled_behind (children (current site c (own before c)).before c) (children (current site c (own before c)).items c) started))

pub talks_programmed : TalksHavePrograms
talks_programmed = record {
  texts = λ site T before c said later f is. program_stands site T before c (SayTexts c said) later f is (eq-eqb c c refl) (λ e right. right);
  codes = λ site T before c code later f is. program_stands site T before c (CloseWs c code) later f is (eq-eqb c c refl) (λ e right. right);
}

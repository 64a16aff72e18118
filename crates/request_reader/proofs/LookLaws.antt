-- What a look finds, by what was read of the body.
use Rattle.std.proofs.Common.{◌≡◌, ℕ, ◌+◌, ◌≤◌, Bool, true, false, cond, List, [], ◌++◌, length, take, drop, Option, Some, None, Result, Ok, Err, refl, sym, ap, ◌∙◌, arith, subst, append-nil, append_assoc, length-append}
use Rattle.std.specs.Prelude.{bytes_eq, codes}
use Rattle.std.proofs.lemmas.List.{nil_from_length, drop-take, take_at, take_all, drop_at, length-take-le, length-drop, drop-drop, take-append-drop}
use Rattle.host_base.specs.declared.cause.Cause.{Cause}
use Rattle.host_base.specs.declared.limits.Limits.{Limits}
use Rattle.host_base.specs.declared.request.Framing.{Framing}
use Rattle.host_base.specs.declared.request.Framing.TheVariants.{Empty, Length, Chunked}
use Rattle.host_base.specs.declared.request.Head.{Head}
use Rattle.host_base.specs.declared.request.Request.{Request}
use Rattle.host_base.specs.declared.request.Target.{Target}
use Rattle.head_reader.specs.RequestHead.{read_head}
use Rattle.head_reader.specs.declared.step.HeadStep.TheVariants as Step
use Rattle.body_framing.specs.declared.step.ChunkStep.{ChunkStep}
use Rattle.body_framing.specs.declared.step.ChunkStep.TheVariants as Told
use Rattle.body_framing.specs.Chunked.{ended, unended, refused}
use Rattle.body_framing.specs.Framing.{framing_of}
use Rattle.script_map.specs.Targets.{target_of}
use Rattle.request_reader.specs.declared.asked.Asked.{Asked}
use Rattle.request_reader.specs.declared.fault.Fault.{Fault}
use Rattle.request_reader.specs.declared.opened.Opened.{Opened}
use Rattle.request_reader.specs.Request.{Bad, asked_at, asked_by, asked_expecting, asked_framed, expects_continue, if_length, is_length, read_body, read_request, request_with, with_body, without_taken}
use Rattle.request_reader.specs.Reader.{Reader, IsInBody, IsOpened, IsFaulty, IsHeardBy, data_kept}
use Rattle.request_reader.specs.Advance.{AdvancesTo, IsSameHead}
use Rattle.request_reader.specs.Starts.{IsOpeningOf}
use Rattle.request_reader.specs.declared.look.Look.{Look}
use Rattle.request_reader.specs.Looks.{LookSays, FaultsKeep, SeesMore, SeesWhole, SeesFault, body_fault, early_opened, look_of, settled}
use Rattle.head_reader.proofs.ReadLaws.{two_for_whole, wholes_are_heads}
use Rattle.request_reader.proofs.ReadingLaws.{reading_asked}

-- ---- what a head asks for is of its method

pub method_asked : (limits : Limits) (head : Head) (asked : Asked) → asked_by limits head ≡ Ok asked → asked.request.method ≡ head.method
method_asked limits head asked is = by_target (target_of head) is
  where
    by_due : (target : Target) (framing : Framing) (due : Result Bool Cause)
        → asked_expecting (request_with head target framing []) due ≡ Ok asked → asked.request.method ≡ head.method
    by_due target framing (Ok due) e =
        let same : record { request = request_with head target framing []; due = due } ≡ asked = cc in
        ap (λ (a : Asked). a.request.method) (sym same)
    by_due target framing (Err cause) e = absurd (cc)

    by_framing : (target : Target) (framing : Result Framing Cause) → asked_framed head target framing ≡ Ok asked → asked.request.method ≡ head.method
    by_framing target (Ok framing) e = by_due target framing (expects_continue head.version head.fields framing) e
    by_framing target (Err cause) e = absurd (cc)

    by_target : (target : Result Target Cause) → asked_at limits head target ≡ Ok asked → asked.request.method ≡ head.method
    by_target (Ok target) e = by_framing target (framing_of head limits) e
    by_target (Err cause) e = absurd (cc)

-- ---- what an opened request shows early

if_length_says : (framing : Framing) (o : Opened) (r : Request) (taken : ℕ) → o.request.framing ≡ framing → r.framing ≡ framing
    → (is_length framing ≡ true → o.request ≡ without_taken taken r) → if_length taken r ≡ early_opened (Some o)
if_length_says framing o r taken own given says =
    let left : if_length taken r ≡ cond (is_length framing) (Some (without_taken taken r)) None =
    ap (λ (f : Framing). cond (is_length f) (Some (without_taken taken r)) None) given in
    let right : early_opened (Some o) ≡ cond (is_length framing) (Some o.request) None =
    ap (λ (f : Framing). cond (is_length f) (Some o.request) None) own in
    left ∙ same (is_length framing) refl ∙ sym right
  where
    same : (b : Bool) → is_length framing ≡ b → cond b (Some (without_taken taken r)) None ≡ cond b (Some o.request) None
    same true is = ap (λ (q : Request). Some q) (sym (says is))
    same false is = refl

-- a request of known length is what is kept of it
kept_says : (framing : Framing) (o : Opened) (decoded : List ℕ) (taken : ℕ) → is_length framing ≡ true → data_kept framing o ≡ drop taken decoded
    → o.request ≡ without_taken taken (with_body o.request decoded)
kept_says Empty o decoded taken counted kept = absurd (cc)
kept_says Chunked o decoded taken counted kept = absurd (cc)
kept_says (Length n) o decoded taken counted kept = ap (with_body o.request) kept

-- ---- settled

pub faults_keep : (r : Reader) (o : Opened) (step : ChunkStep) → FaultsKeep (look_of o step) r (settled r o step)
faults_keep r o Told.More = tt
faults_keep r o (Told.End count) = tt
faults_keep r o (Told.Bad cause) = refl

-- a reader of an opened request, before and behind a look
pub record Settling (limits : Limits) (bytes : List ℕ) (taken : ℕ) (r : Reader) (o : Opened) (step : ChunkStep) (read behind : List ℕ) : Type 0 where
  pub head : Head
  pub inside : o.used ≤ length bytes
  pub whole : read_head limits bytes ≡ Step.Whole head o.used
  pub asks : asked_by limits head ≡ Ok (record { request = with_body o.request []; due = o.due })
  pub body_is : drop o.used bytes ≡ read ++ behind
  pub rest_is : r.rest ≡ take o.used bytes ++ behind
  pub advances : AdvancesTo limits.body o.request.framing read behind taken step o
  pub limits_are : r.limits ≡ limits
  pub unfaulty : r.fault ≡ None

settled_more : (limits : Limits) (bytes : List ℕ) (taken : ℕ) (r : Reader) (o : Opened) (read behind : List ℕ)
    → Settling limits bytes taken r o Told.More read behind → SeesMore limits bytes taken o.due (settled r o Told.More)
settled_more limits bytes taken r o read behind h =
    let a = h.advances in
    let len = length-take-le o.used bytes h.inside in
    record {
      request = Some (with_body o.request a.decoded);
      reads = reading_asked limits bytes h.head o.used _ (unended a.decoded) h.whole h.asks
          (ap (read_body limits.body o.request.framing) h.body_is ∙ a.reads);
      early = if_length_says o.request.framing o (with_body o.request a.decoded) taken refl refl (λ counted. kept_says o.request.framing o a.decoded taken counted a.kept);
      limits_are = h.limits_are;
      heard = subst (λ (f : Option Fault). IsHeardBy r.limits f (Some o) (take o.used r.rest) bytes taken) (sym h.unfaulty)
          (subst (λ (l : Limits). IsOpened l o (take o.used r.rest) bytes taken) (sym h.limits_are) (record {
            head = h.head;
            read = read ++ take (length behind) behind;
            behind = [];
            whole = h.whole;
            asks = h.asks;
            body_is = h.body_is ∙ ap (λ (l : List ℕ). read ++ l) (sym (take_all (length behind) behind (omega arith))) ∙ sym (append-nil (read ++ take (length behind) behind));
            rest_is = ap (take o.used) h.rest_is ∙ take_at (take o.used bytes) behind o.used len ∙ sym (append-nil (take o.used bytes));
            body = a.body;
            waits = λ some. refl;
          }));
    }

settled_whole : (limits : Limits) (bytes : List ℕ) (taken count : ℕ) (r : Reader) (o : Opened) (read behind : List ℕ)
    → Settling limits bytes taken r o (Told.End count) read behind → SeesWhole limits bytes taken (settled r o (Told.End count))
settled_whole limits bytes taken count r o read behind h =
    let a = h.advances.2 in
    let len = length-take-le o.used bytes h.inside in
    let rest = take o.used r.rest ++ drop (o.used + count) r.rest in
    let front : take o.used r.rest ≡ take o.used bytes = ap (take o.used) h.rest_is ∙ take_at (take o.used bytes) behind o.used len in
    let tail : drop o.used r.rest ≡ behind = ap (drop o.used) h.rest_is ∙ drop_at (take o.used bytes) behind o.used len in
    let later : drop (o.used + count) r.rest ≡ drop count behind = sym (drop-drop count o.used r.rest) ∙ ap (drop count) tail in
    let both : rest ≡ take o.used bytes ++ drop count behind = λ i. front i ++ later i in
    let text : read ++ behind ≡ (read ++ take count behind) ++ drop count behind =
    ap (λ (l : List ℕ). read ++ l) (sym (take-append-drop count behind)) ∙ sym (append_assoc read (take count behind) (drop count behind)) in
    let lens : length (read ++ take count behind) ≡ length read + count =
    omega (arith, length-append read (take count behind), length-take-le count behind h.advances.0) in
    record {
      request = with_body o.request a.decoded;
      used = o.used + (length read + count);
      due = o.due;
      o = o;
      reads = reading_asked limits bytes h.head o.used _ (ended a.decoded (length read + count)) h.whole h.asks
          (ap (read_body limits.body o.request.framing) h.body_is ∙ a.reads);
      opened = refl;
      unfaulty = h.unfaulty;
      says = ap (with_body o.request) a.kept;
      behind = ap (drop o.used) both ∙ drop_at (take o.used bytes) (drop count behind) o.used len
          ∙ sym (sym (drop-drop (length read + count) o.used bytes) ∙ ap (drop (length read + count)) (h.body_is ∙ text)
          ∙ drop_at (read ++ take count behind) (drop count behind) (length read + count) lens);
      limits_are = h.limits_are;
      heard = subst (λ (f : Option Fault). IsHeardBy r.limits f (Some o) rest bytes taken) (sym h.unfaulty)
          (subst (λ (l : Limits). IsOpened l o rest bytes taken) (sym h.limits_are) (record {
            head = h.head;
            read = read ++ take count behind;
            behind = drop count behind;
            whole = h.whole;
            asks = h.asks;
            body_is = h.body_is ∙ text;
            rest_is = both;
            body = a.body;
            waits = λ some. let none = h.advances.1 in absurd (omega arith);
          }));
    }

settled_bad : (limits : Limits) (bytes : List ℕ) (taken : ℕ) (cause : Cause) (r : Reader) (o : Opened) (read behind : List ℕ)
    → Settling limits bytes taken r o (Told.Bad cause) read behind → SeesFault limits bytes taken (body_fault o cause) (settled r o (Told.Bad cause))
settled_bad limits bytes taken cause r o read behind h =
    let method : o.request.method ≡ h.head.method = method_asked limits h.head _ h.asks in
    let reads : read_request limits bytes ≡ Bad cause (bytes_eq o.request.method (codes "HEAD")) =
    reading_asked limits bytes h.head o.used _ (refused cause) h.whole h.asks (ap (read_body limits.body o.request.framing) h.body_is ∙ h.advances.1)
    ∙ ap (λ (m : List ℕ). Bad cause (bytes_eq m (codes "HEAD"))) (sym method) in
    record {
      reads = reads;
      limits_are = h.limits_are;
      heard = subst (λ (l : Limits). IsFaulty l (body_fault o cause) (Some o) r.rest bytes) (sym h.limits_are) (record {
        is = reads;
        lasts = two_for_whole limits bytes h.head o.used h.whole;
        left = record {
          read = read;
          behind = behind;
          inside = h.inside;
          body_is = h.body_is;
          rest_is = h.rest_is;
          none_left = h.advances.0;
        };
      });
    }

pub settles : (limits : Limits) (bytes : List ℕ) (taken : ℕ) (r : Reader) (o : Opened) (step : ChunkStep) (read behind : List ℕ)
    → Settling limits bytes taken r o step read behind → LookSays limits bytes taken (look_of o step) (settled r o step)
settles limits bytes taken r o Told.More read behind h = settled_more limits bytes taken r o read behind h
settles limits bytes taken r o (Told.End count) read behind h = settled_whole limits bytes taken count r o read behind h
settles limits bytes taken r o (Told.Bad cause) read behind h = settled_bad limits bytes taken cause r o read behind h

-- the buffer was cut behind the head
pub settled_at_more : (r : Reader) (limits : Limits) (o : Opened) (step : ChunkStep) (opened : Option Opened) (fault : Option Fault) (begin : ℕ)
    (buffer cut : List ℕ) → record { limits = limits; opened = opened; fault = fault; rest = drop begin buffer } ≡ r → cut ≡ take (begin + o.used) buffer
    → step ≡ Told.More → record { limits = limits; opened = Some o; fault = fault; rest = drop begin cut } ≡ settled r o step
settled_at_more r limits o step opened fault begin buffer cut view cut_is is =
    let rest : drop begin cut ≡ take o.used (drop begin buffer) = ap (drop begin) cut_is ∙ drop-take begin o.used buffer in
    (λ i. record { limits = limits; opened = Some o; fault = fault; rest = rest i })
    ∙ ap (λ (q : Reader). settled q o Told.More) view
    ∙ ap (settled r o) (sym is)

-- the buffer was cut behind the head, where nothing stands behind what was read
pub cut_read : (buffer cut : List ℕ) (begin used count : ℕ) → cut ≡ take (begin + used) buffer → length buffer ≤ begin + used + count
    → drop begin cut ≡ take used (drop begin buffer) ++ drop (used + count) (drop begin buffer)
cut_read buffer cut begin used count cut_is short =
    let rest = drop begin buffer in
    ap (drop begin) cut_is ∙ drop-take begin used buffer ∙ sym (append-nil (take used rest))
    ∙ ap (λ (l : List ℕ). take used rest ++ l)
    (sym (nil_from_length (drop (used + count) rest) (omega (arith, length-drop (used + count) rest, length-drop begin buffer))))

look_at : (limits : Limits) (bytes : List ℕ) (taken : ℕ) (look look' : Look) (r r' : Reader) → look' ≡ look → r' ≡ r
    → LookSays limits bytes taken look r → LookSays limits bytes taken look' r'
look_at limits bytes taken look look' r r' look_is r_is says =
    subst (λ (q : Reader). LookSays limits bytes taken look' q) (sym r_is)
    (subst (λ (l : Look). LookSays limits bytes taken l r) (sym look_is) says)

-- a request whose head was read before
pub went_on : (limits : Limits) (bytes : List ℕ) (taken : ℕ) (r : Reader) (old o : Opened) (step : ChunkStep) (text : List ℕ) (look : Look) (r' : Reader)
    → IsOpened r.limits old r.rest bytes taken → r.fault ≡ None → IsSameHead old o → text ≡ drop old.used r.rest
    → ((read : List ℕ) → IsInBody old.request.framing r.limits.body old read taken → AdvancesTo r.limits.body old.request.framing read text taken step o)
    → look ≡ look_of o step → r' ≡ settled r o step → LookSays r.limits bytes taken look r'
went_on limits bytes taken r old o step text look r' h unfaulty same text_is advances look_is r_is =
    let inside = (wholes_are_heads r.limits bytes h.head old.used h.whole).1 in
    let behind_is : text ≡ h.behind =
    text_is ∙ ap (drop old.used) h.rest_is ∙ drop_at (take old.used bytes) h.behind old.used (length-take-le old.used bytes inside) in
    let framing : old.request.framing ≡ o.request.framing = ap (λ (q : Request). q.framing) (sym same.request) in
    look_at r.limits bytes taken (look_of o step) look (settled r o step) r' look_is r_is
    (settles r.limits bytes taken r o step h.read h.behind (record {
      head = h.head;
      inside = omega (arith, inside, same.used);
      whole = h.whole ∙ ap (λ (n : ℕ). Step.Whole h.head n) (sym same.used);
      asks = h.asks ∙ (λ i. Ok (record { request = sym same.request i; due = sym same.due i }));
      body_is = ap (λ (n : ℕ). drop n bytes) same.used ∙ h.body_is;
      rest_is = h.rest_is ∙ ap (λ (n : ℕ). take n bytes ++ h.behind) (sym same.used);
      advances = subst (λ (f : Framing). AdvancesTo r.limits.body f h.read h.behind taken step o) framing
          (subst (λ (l : List ℕ). AdvancesTo r.limits.body old.request.framing h.read l taken step o) behind_is (advances h.read h.body));
      limits_are = refl;
      unfaulty = unfaulty;
    }))

-- a request whose head was read now
pub first_settled : (r : Reader) (o : Opened) (step : ChunkStep) (text : List ℕ) (look : Look) (r' : Reader) → IsOpeningOf r.limits text o step
    → text ≡ r.rest → r.fault ≡ None → look ≡ look_of o step → r' ≡ settled r o step → LookSays r.limits r.rest 0 look r'
first_settled r o step text look r' h text_is unfaulty look_is r_is =
    let g : IsOpeningOf r.limits r.rest o step = subst (λ (l : List ℕ). IsOpeningOf r.limits l o step) text_is h in
    look_at r.limits r.rest 0 (look_of o step) look (settled r o step) r' look_is r_is
    (settles r.limits r.rest 0 r o step [] (drop o.used r.rest) (record {
      head = g.head;
      inside = g.inside;
      whole = g.whole;
      asks = g.opens.asks;
      body_is = refl;
      rest_is = sym (take-append-drop o.used r.rest);
      advances = g.opens.advances;
      limits_are = refl;
      unfaulty = unfaulty;
    }))

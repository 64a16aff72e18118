-- The cut into exchanges, as the items of a connection go on.
use Rattle.std.proofs.Common.{◌≡◌, ℕ, Bool, true, false, List, [], ◌∷◌, ◌++◌, refl, sym, ◌∙◌, ap, append_assoc, append-nil, map}
use Rattle.std.specs.List.{flat_map, AllByRecursion}
use Rattle.std.proofs.lemmas.Grind.{flat_map-append}
use Rattle.std.proofs.lemmas.List.{take-append-drop}
use Rattle.host_base.specs.declared.site.Site.{Site}
use Rattle.host_trace.specs.declared.items.Act.{Act}
use Rattle.host_trace.specs.declared.items.Event.{Event}
use Rattle.host_trace.specs.declared.items.Item.{Item}
use Rattle.host_trace.specs.declared.items.Item.TheVariants.{In, Out}
use Rattle.host_trace.specs.Kinds.{bytes_written, bytes_heard}
use Rattle.host_trace.specs.Projections.{client_in, client_out}
use Rattle.host_trace.specs.Trace.{after_step}
use Rattle.host_trace.proofs.ProjectionLaws.{client_in-push}
use Rattle.request_reader.specs.Request.{used_by}
use Rattle.trace_model.specs.Exchange.{Exchange, first_exchange, pushed, all_of, request_bytes, written, reading}
use Rattle.trace_model.specs.ModelLaws.{used, IsCut, IsNextItem}
use Rattle.trace_model.specs.Exchanges.{has_ended, left_over, following, next_by, ended_by, next_of, ended_of, current_after, ended_after, current, ended, exchanges}

-- ---- the items go on

pub current_after-append : (site : Site) (c : ℕ) (e : Exchange) (L more : List Item) →
    current_after site c e (L ++ more) ≡ current_after site c (current_after site c e L) more
current_after-append site c e [] more = refl
current_after-append site c e (x ∷ L) more = current_after-append site c (next_of site c e x) L more

pub ended_after-append : (site : Site) (c : ℕ) (e : Exchange) (L more : List Item) →
    ended_after site c e (L ++ more) ≡ ended_after site c e L ++ ended_after site c (current_after site c e L) more
ended_after-append site c e [] more = refl
ended_after-append site c e (x ∷ L) more =
    ap (λ es. ended_of site c e x ++ es) (ended_after-append site c (next_of site c e x) L more)
    ∙ sym (append_assoc (ended_of site c e x) _ _)

-- the exchange that goes on depends on the one that went on before, and on what came since, alone
pub current-append : (site : Site) (c : ℕ) (L more : List Item) → current site c (L ++ more) ≡ current_after site c (current site c L) more
current-append site c L more = current_after-append site c first_exchange L more

-- an exchange that has ended stays as it is, whatever follows
pub ended-append : (site : Site) (c : ℕ) (L more : List Item) →
    ended site c (L ++ more) ≡ ended site c L ++ ended_after site c (current site c L) more
ended-append site c L more = ended_after-append site c first_exchange L more

pub exchanges-append : (site : Site) (c : ℕ) (L more : List Item) →
    exchanges site c (L ++ more)
    ≡ ended site c L ++ (ended_after site c (current site c L) more ++ current_after site c (current site c L) more ∷ [])
exchanges-append site c L more =
    rw (ended-append site c L more, current-append site c L more) (append_assoc (ended site c L) _ _)

-- one item more
pub current-push : (site : Site) (c : ℕ) (L : List Item) (x : Item) → current site c (L ++ x ∷ []) ≡ next_of site c (current site c L) x
current-push site c L x = current-append site c L (x ∷ [])

pub ended-push : (site : Site) (c : ℕ) (L : List Item) (x : Item) → ended site c (L ++ x ∷ []) ≡ ended site c L ++ ended_of site c (current site c L) x
ended-push site c L x = ended-append site c L (x ∷ []) ∙ ap (λ es. ended site c L ++ es) (append-nil (ended_of site c (current site c L) x))

-- .. which ends no exchange, or the one that goes on
pub current-push-on : (site : Site) (c : ℕ) (L : List Item) (x : Item) → has_ended site c (pushed (current site c L) x) ≡ false
    → current site c (L ++ x ∷ []) ≡ pushed (current site c L) x
current-push-on site c L x on = current-push site c L x ∙ ap (λ b. next_by site c (pushed (current site c L) x) b) on

pub current-push-ended : (site : Site) (c : ℕ) (L : List Item) (x : Item) → has_ended site c (pushed (current site c L) x) ≡ true
    → current site c (L ++ x ∷ []) ≡ following site c (pushed (current site c L) x)
current-push-ended site c L x end = current-push site c L x ∙ ap (λ b. next_by site c (pushed (current site c L) x) b) end

-- one step more: an event and its acts. Several exchanges may end in it.
pub current-step : (site : Site) (c : ℕ) (L : List Item) (event : Event) (acts : List Act) →
    current site c (after_step L event acts) ≡ current_after site c (next_of site c (current site c L) (In event)) (map Out acts)
current-step site c L event acts = current-append site c L (In event ∷ map Out acts)

pub ended-step : (site : Site) (c : ℕ) (L : List Item) (event : Event) (acts : List Act) →
    ended site c (after_step L event acts)
    ≡ ended site c L ++ (ended_of site c (current site c L) (In event) ++ ended_after site c (next_of site c (current site c L) (In event)) (map Out acts))
ended-step site c L event acts = ended-append site c L (In event ∷ map Out acts)

-- items after none of which an exchange has ended are items of the exchange that goes on
abbrev pub EndsNone : Site → ℕ → Exchange → List Item → Type 0
EndsNone site c e [] = Unit {0}
EndsNone site c e (x ∷ items) = (has_ended site c (pushed e x) ≡ false) × EndsNone site c (pushed e x) items

abbrev pub with_items : Exchange → List Item → Exchange
with_items e items = record e { items = e.items ++ items }

pub current_after-on : (site : Site) (c : ℕ) (e : Exchange) (items : List Item) → EndsNone site c e items → current_after site c e items ≡ with_items e items
current_after-on site c e [] on = ap (λ items. record e { items = items }) (sym (append-nil e.items))
current_after-on site c e (x ∷ items) on =
    ap (λ b. current_after site c (next_by site c (pushed e x) b) items) on.0
    ∙ (current_after-on site c (pushed e x) items on.1
    ∙ ap (λ all. record e { items = all }) (append_assoc e.items (x ∷ []) items))

-- ---- the cut leaves nothing out

-- the items before an exchange and its own are those of the connection
all_of-next : (site : Site) (c : ℕ) (e : Exchange) (x : Item) → all_of (next_of site c e x) ≡ all_of e ++ x ∷ []
all_of-next site c e x = go (has_ended site c (pushed e x))
  where
    go : (b : Bool) → all_of (next_by site c (pushed e x) b) ≡ all_of e ++ x ∷ []
    go true = append-nil (e.before ++ (e.items ++ x ∷ [])) ∙ sym (append_assoc e.before e.items (x ∷ []))
    go false = sym (append_assoc e.before e.items (x ∷ []))

pub all_of-after : (site : Site) (c : ℕ) (e : Exchange) (L : List Item) → all_of (current_after site c e L) ≡ all_of e ++ L
all_of-after site c e [] = sym (append-nil (all_of e))
all_of-after site c e (x ∷ L) =
    all_of-after site c (next_of site c e x) L ∙ (ap (λ l. l ++ L) (all_of-next site c e x) ∙ append_assoc (all_of e) (x ∷ []) L)

pub all_of-current : (site : Site) (c : ℕ) (L : List Item) → all_of (current site c L) ≡ L
all_of-current site c L = all_of-after site c first_exchange L

-- the items of the exchanges, one after the other
items-after : (site : Site) (c : ℕ) (e : Exchange) (L : List Item) →
    flat_map (λ (d : Exchange). d.items) (ended_after site c e L) ++ (current_after site c e L).items ≡ e.items ++ L
items-after site c e [] = sym (append-nil e.items)
items-after site c e (x ∷ L) = go (λ d. items-after site c d L) (has_ended site c (pushed e x))
  where
    go : ((d : Exchange) → flat_map (λ (d : Exchange). d.items) (ended_after site c d L) ++ (current_after site c d L).items ≡ d.items ++ L) → (b : Bool)
        → flat_map (λ (d : Exchange). d.items) (ended_by (pushed e x) b ++ ended_after site c (next_by site c (pushed e x) b) L)
        ++ (current_after site c (next_by site c (pushed e x) b) L).items
        ≡ e.items ++ x ∷ L
    go later true =
        append_assoc (e.items ++ x ∷ []) _ _
        ∙ (ap (λ l. (e.items ++ x ∷ []) ++ l) (later (following site c (pushed e x))) ∙ append_assoc e.items (x ∷ []) L)
    go later false = later (pushed e x) ∙ append_assoc e.items (x ∷ []) L

pub items-exchanges : (site : Site) (c : ℕ) (L : List Item) →
    flat_map (λ (e : Exchange). e.items) (ended site c L) ++ (current site c L).items ≡ L
items-exchanges site c L = items-after site c first_exchange L

-- each that has ended has: its whole answer stands, and its children are settled
abbrev pub Ended : Site → ℕ → Exchange → Type 0
Ended site c e = has_ended site c e ≡ true

all-ended : (site : Site) (c : ℕ) (e : Exchange) (L : List Item) → AllByRecursion (Ended site c) (ended_after site c e L)
all-ended site c e [] = tt
all-ended site c e (x ∷ L) = go (λ d. all-ended site c d L) (has_ended site c (pushed e x)) refl
  where
    go : ((d : Exchange) → AllByRecursion (Ended site c) (ended_after site c d L)) → (b : Bool) → has_ended site c (pushed e x) ≡ b
        → AllByRecursion (Ended site c) (ended_by (pushed e x) b ++ ended_after site c (next_by site c (pushed e x) b) L)
    go later true is = (is, later (following site c (pushed e x)))
    go later false is = later (pushed e x)

pub ended-all : (site : Site) (c : ℕ) (L : List Item) → AllByRecursion (Ended site c) (ended site c L)
ended-all site c L = all-ended site c first_exchange L

-- ---- whole strings

written-flat : (c : ℕ) (es : List Exchange) → client_out (flat_map (λ (e : Exchange). e.items) es) c ≡ flat_map (written c) es
written-flat c [] = refl
written-flat c (e ∷ es) =
    flat_map-append (bytes_written c) e.items (flat_map (λ (d : Exchange). d.items) es) ∙ ap (λ l. written c e ++ l) (written-flat c es)

-- what was written is what was written of each exchange
pub written-exchanges : (site : Site) (c : ℕ) (L : List Item) →
    client_out L c ≡ flat_map (written c) (ended site c L) ++ written c (current site c L)
written-exchanges site c L =
    ap (λ l. client_out l c) (sym (items-exchanges site c L))
    ∙ (flat_map-append (bytes_written c) (flat_map (λ (e : Exchange). e.items) (ended site c L)) (current site c L).items
    ∙ ap (λ l. l ++ written c (current site c L)) (written-flat c (ended site c L)))

pub request_bytes-push : (c : ℕ) (e : Exchange) (x : Item) → request_bytes c (pushed e x) ≡ request_bytes c e ++ bytes_heard c x
request_bytes-push c e x = ap (λ l. e.rest ++ l) (client_in-push e.items x c) ∙ sym (append_assoc e.rest (client_in e.items c) (bytes_heard c x))

request_bytes-after : (site : Site) (c : ℕ) (e : Exchange) (L : List Item) →
    flat_map (used site c) (ended_after site c e L) ++ request_bytes c (current_after site c e L) ≡ request_bytes c e ++ client_in L c
request_bytes-after site c e [] = sym (append-nil (request_bytes c e))
request_bytes-after site c e (x ∷ L) = go (λ d. request_bytes-after site c d L) (has_ended site c (pushed e x))
  where
    grown : request_bytes c (pushed e x) ++ client_in L c ≡ request_bytes c e ++ client_in (x ∷ L) c
    grown = ap (λ l. l ++ client_in L c) (request_bytes-push c e x) ∙ append_assoc (request_bytes c e) (bytes_heard c x) (client_in L c)

    go : ((d : Exchange) → flat_map (used site c) (ended_after site c d L) ++ request_bytes c (current_after site c d L) ≡ request_bytes c d ++ client_in L c) → (b : Bool)
        → flat_map (used site c) (ended_by (pushed e x) b ++ ended_after site c (next_by site c (pushed e x) b) L)
        ++ request_bytes c (current_after site c (next_by site c (pushed e x) b) L)
        ≡ request_bytes c e ++ client_in (x ∷ L) c
    go later true =
        append_assoc (used site c (pushed e x)) _ _
        ∙ (ap (λ l. used site c (pushed e x) ++ l) (later (following site c (pushed e x)))
        ∙ (ap (λ l. used site c (pushed e x) ++ (l ++ client_in L c)) (append-nil (left_over site c (pushed e x)))
        ∙ (sym (append_assoc (used site c (pushed e x)) (left_over site c (pushed e x)) (client_in L c))
        ∙ (ap (λ l. l ++ client_in L c) (take-append-drop (used_by (reading site c (pushed e x))) (request_bytes c (pushed e x))) ∙ grown))))
    go later false = later (pushed e x) ∙ grown

-- what the client sent is what each request used and what was heard of the one that goes on
pub request_bytes-exchanges : (site : Site) (c : ℕ) (L : List Item) →
    client_in L c ≡ flat_map (used site c) (ended site c L) ++ request_bytes c (current site c L)
request_bytes-exchanges site c L = sym (request_bytes-after site c first_exchange L)

-- ---- the laws

pub is_cut : (site : Site) (c : ℕ) (L : List Item) → IsCut site c L
is_cut site c L = record {
  items = items-exchanges site c L;
  whole_list = all_of-current site c L;
  heard = request_bytes-exchanges site c L;
}

pub ended-stay : (site : Site) (c : ℕ) (L more : List Item) → (later : List Exchange) × (ended site c (L ++ more) ≡ ended site c L ++ later)
ended-stay site c L more = (ended_after site c (current site c L) more, ended-append site c L more)

pub is_next_item : (site : Site) (c : ℕ) (L : List Item) (x : Item) → IsNextItem site c L x
is_next_item site c L x = record { on = current-push-on site c L x; over = current-push-ended site c L x }

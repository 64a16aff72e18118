-- An event that names a connection or the child of its run may come next exactly where the connection says so.
use Rattle.std.proofs.Common.{◌≡◌, ℕ, ◌&&◌, ◌||◌, Bool, true, false, not, List, Option, Some, None, inl, inr, refl, sym, ap, ◌∙◌, subst}
use Rattle.std.specs.Option.{option_map}
use Rattle.std.proofs.lemmas.Bool.{eqb-true, false≢true, or_right}
use Rattle.host_base.specs.declared.site.Site.{Site}
use Rattle.host_trace.specs.declared.items.Event.{Event}
use Rattle.host_trace.specs.declared.items.Event.TheVariants.{Started, StartFailed, StartFull, ChildBytes, ChildEof, ChildBroken, Took, InputGone, Exited}
use Rattle.host_trace.specs.declared.items.Item.{Item}
use Rattle.host_trace.specs.declared.items.Item.TheVariants.{In}
use Rattle.host_trace.specs.Fits.{fits}
use Rattle.host_trace.specs.Kinds.{is_accepted, is_stop, names, names_child}
use Rattle.own_traces.specs.OwnFits.{fits_own}
use Rattle.child_core.specs.Calls.{fits_run, may_come}
use Rattle.child_core.specs.View.{View}
use Rattle.child_core.proofs.BehindLaws.{fits-behind}
use Rattle.conn_flags.specs.Fits.{fits_flags}
use Rattle.conn_flags.specs.View.{View as Flags}
use Rattle.conn_flags.proofs.FitLaws.{fits_told}
use Rattle.trace_model.specs.Exchange.{Exchange, all_of}
use Rattle.trace_model.specs.Legs.{Leg}
use Rattle.trace_model.proofs.ExchangeLaws.{all_of-current}
use Rattle.child_laws.specs.Children.{KnowsRuns, NoMore}
use Rattle.child_laws.specs.Setting.{setting}
use Rattle.http_conn.specs.HttpConn.{HttpConn}
use Rattle.http_conn.specs.Fits.{fits_conn, fits_run_of}
use Rattle.http_conn.specs.Kept.{flags_of, number_of, site_of}
use Rattle.many_conns.specs.Kept.{is_child}
use Rattle.many_conns.specs.Kind.{IsFor}
use Rattle.good_step_laws.specs.Http.Stands.{ConnStands, conn_kind}
use Rattle.http_conn.specs.Kid.{number_in}

-- an event that names a connection names no child
pub no_childs : (c k : ℕ) (ev : Event) → names c (In ev) ≡ true → names_child k (In ev) ≡ false
no_childs c k (Started d) e = absurd (false≢true e)
no_childs c k (StartFailed d) e = absurd (false≢true e)
no_childs c k (StartFull d seen) e = absurd (false≢true e)
no_childs c k (ChildBytes d bytes) e = absurd (false≢true e)
no_childs c k (ChildEof d) e = absurd (false≢true e)
no_childs c k (ChildBroken d) e = absurd (false≢true e)
no_childs c k (Took d n) e = absurd (false≢true e)
no_childs c k (InputGone d) e = absurd (false≢true e)
no_childs c k (Exited d) e = absurd (false≢true e)
no_childs c k ev e = refl

-- .. and the flags say nothing of one that names a child
pub flags_let : (m : Flags) (k : ℕ) (ev : Event) → names_child k (In ev) ≡ true → fits_flags m ev ≡ true
flags_let m k (Started d) e = refl
flags_let m k (StartFailed d) e = refl
flags_let m k (StartFull d seen) e = refl
flags_let m k (ChildBytes d bytes) e = refl
flags_let m k (ChildEof d) e = refl
flags_let m k (ChildBroken d) e = refl
flags_let m k (Took d n) e = refl
flags_let m k (InputGone d) e = refl
flags_let m k (Exited d) e = refl
flags_let m k ev e = absurd (false≢true e)

pub own_of_child : (limit k : ℕ) (L : List Item) (ev : Event) → names_child k (In ev) ≡ true → fits_own limit L ev ≡ fits limit L ev
own_of_child limit k L (Started d) e = refl
own_of_child limit k L (StartFailed d) e = refl
own_of_child limit k L (StartFull d seen) e = refl
own_of_child limit k L (ChildBytes d bytes) e = refl
own_of_child limit k L (ChildEof d) e = refl
own_of_child limit k L (ChildBroken d) e = refl
own_of_child limit k L (Took d n) e = refl
own_of_child limit k L (InputGone d) e = refl
own_of_child limit k L (Exited d) e = refl
own_of_child limit k L ev e = absurd (false≢true e)

run_lets : (run : Option View) (ev : Event) → ((k : ℕ) → names_child k (In ev) ≡ false) → fits_run_of run ev ≡ true
run_lets None ev none = refl
run_lets (Some v) ev none = ap (λ (b : Bool). not b || may_come v ev) (none v.number)

pub and_true : (a b : Bool) → b ≡ true → (a && b) ≡ a
and_true true b e = e
and_true false b e = refl

-- its child's
run_fits : (site : Site) (c : ℕ) (e : Exchange) (legs : List Leg) (run : Option View) (k : ℕ) (ev : Event) → KnowsRuns NoMore site c e false legs run → is_child (option_map number_in run) k ≡ true
    → names_child k (In ev) ≡ true → fits_run_of run ev ≡ fits_own site.limits.children (all_of e) ev
run_fits site c e legs None k ev r mine named = absurd (false≢true mine)
run_fits site c e legs (Some v) k ev r mine named =
    let number : k ≡ v.number = sym (eqb-true v.number k mine) in
    let named_then : names_child v.number (In ev) ≡ true = subst (λ (j : ℕ). names_child j (In ev) ≡ true) number named in
    let viewed : v ≡ r.view = r.held_as in
    subst (λ (w : View). fits_run w ev ≡ fits_own site.limits.children (all_of e) ev) (sym viewed)
    (fits-behind false (setting site c e r.leg.hop) r.view e.before e.items r.known.unnamed r.known.knows ev (subst (λ (w : View). names_child w.number (In ev) ≡ true) viewed named_then)
    ∙ sym (own_of_child site.limits.children k (all_of e) ev named))

pub fits_is : (site : Site) (conn : HttpConn) (L : List Item) (ev : Event) → ConnStands site conn L → IsFor conn_kind conn ev → fits_conn conn ev ≡ fits_own site.limits.children L ev
fits_is site conn L ev t (inl named) =
    ap (λ (b : Bool). fits_flags (flags_of conn) ev && b) (run_lets conn.run ev (λ k. no_childs (number_of conn) k ev named))
    ∙ (and_true (fits_flags (flags_of conn) ev) true refl
    ∙ fits_told site.limits.children (flags_of conn) L ev t.rest.flags (or_right (is_accepted (In ev) || is_stop (In ev)) (names (number_of conn) (In ev)) named))
fits_is site conn L ev t (inr of_child) =
    ap (λ (b : Bool). b && fits_run_of conn.run ev) (flags_let (flags_of conn) of_child.0 ev of_child.1)
    ∙ (run_fits (site_of conn) (number_of conn) t.exchange t.legs conn.run of_child.0 ev t.rest.children.runs of_child.2 of_child.1
    ∙ (ap (λ (l : List Item). fits_own (site_of conn).limits.children l ev) (ap all_of t.rest.now ∙ all_of-current (site_of conn) (number_of conn) L)
    ∙ ap (λ (s : Site). fits_own s.limits.children L ev) t.site_is))

-- What is held of the idle time goes on over acts, and begins anew with each exchange.
use Rattle.std.proofs.Common.{◌≡◌, ℕ, Bool, true, false, List, [], ◌∷◌, ◌++◌, Option, Some, None, is_some, refl, sym, ap, ◌∙◌}
use Rattle.host_base.specs.declared.site.Site.{Site}
use Rattle.host_trace.specs.declared.items.Act.{Act}
use Rattle.host_trace.specs.declared.items.Act.TheVariants.{Write}
use Rattle.host_trace.specs.declared.items.Item.TheVariants.{Out}
use Rattle.host_trace.specs.First.{or_else}
use Rattle.host_trace.proofs.FirstLaws.{first_front-push}
use Rattle.trace_model.specs.Breaks.{idled, idles_out}
use Rattle.trace_model.specs.Exchange.{Exchange, continue_text, pushed}
use Rattle.trace_model.specs.Exchanges.{following}
use Rattle.conn_laws.specs.Moves.{AreInStep, Move, continues, gives, moved, settles}
use Rattle.good_step_laws.proofs.Shuts.PartWords.{AreInner}

none_more : {X : Type 0} (o : Option X) → is_some (or_else o None) ≡ is_some o
none_more None = refl
none_more (Some x) = refl

-- an act is no Tick
pub idled_act : (site : Site) (c : ℕ) (e : Exchange) (act : Act) → is_some (idled site c (pushed e (Out act))) ≡ is_some (idled site c e)
idled_act site c e act = ap is_some (first_front-push (idles_out c site e) e.items (Out act)) ∙ none_more (idled site c e)

-- An exchange that follows one that closes was begun in these moves, or goes on since before them.
pub idled_moved : (site : Site) (c : ℕ) (held : Bool) (e : Exchange) (moves : List Move) → AreInStep site c e moves → AreInner held moves → (e.closed ≡ true → held ≡ is_some (idled site c e))
    → (moved site c e moves).closed ≡ true → held ≡ is_some (idled site c (moved site c e moves))
idled_moved site c held e [] a i known closed = known closed
idled_moved site c held e (gives act ∷ moves) a i known closed =
    idled_moved site c held (pushed e (Out act)) moves a.1 i.1 (λ was. known was ∙ sym (idled_act site c e act)) closed
idled_moved site c held e (continues d ∷ moves) a i known closed =
    idled_moved site c held (pushed e (Out (Write d continue_text))) moves a.2 i (λ was. known was ∙ sym (idled_act site c e (Write d continue_text))) closed
idled_moved site c held e (settles ending ∷ moves) a i known closed = idled_moved site c held (following site c e) moves a.1 i.1 (λ was. sym i.0 ∙ a.0.idled) closed

-- A run that its client ended.
use Rattle.std.proofs.Common.{false, [], ◌∷◌, ◌++◌, refl, sym, ap, subst, ◌∙◌}
use Rattle.std.proofs.lemmas.Bool.{false≢true}
use Rattle.std.proofs.lemmas.List.{append-nil}
use Rattle.host_trace.specs.declared.items.Event.TheVariants.{WsBinary}
use Rattle.host_trace.specs.declared.items.Item.TheVariants.{In}
use Rattle.child_core.specs.View.{plain}
use Rattle.child_core.specs.Knows.{KnowsRun, Offers}
use Rattle.child_core.proofs.CallLaws.{binary-is}
use Rattle.child_core.proofs.KnowsLaws.{Knows-noted}
use Rattle.child_core.proofs.TellLaws.{other-admits}
use Rattle.front_children.specs.Steps.{AbortsAreKnown}

pub aborts_are_known : AbortsAreKnown
aborts_are_known s v L kind still k =
    let offers : Offers s v L plain (In (WsBinary s.conn)) = record {
      refused = λ talks. absurd (false≢true (sym kind ∙ talks));
      body = ap (λ o. o.body) still ∙ sym (append-nil (s.offered L).body);
      whole = λ w. ap (λ o. o.whole) still;
      done = λ w all. refl;
      talk = λ talks. absurd (false≢true (sym kind ∙ talks));
    } in
    subst (λ w. KnowsRun false s w (L ++ In (WsBinary s.conn) ∷ [])) (binary-is s.conn v)
    (Knows-noted false s v L plain (In (WsBinary s.conn)) k (other-admits false s v L plain (In (WsBinary s.conn)) refl offers))

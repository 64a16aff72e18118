-- A reply that is due is so whatever the child is given.
use Rattle.std.proofs.Common.{◌≡◌, ℕ, Bool, true, false, ◌&&◌, ◌||◌, not, List, [], ◌∷◌, ◌++◌, length, drop, is_some, if◌then◌else◌, refl, sym, ap, ◌∙◌, subst, append-nil}
use Rattle.std.proofs.lemmas.Bool.{false≢true}
use Rattle.host_base.specs.declared.site.Site.{Site}
use Rattle.host_trace.specs.declared.items.Act.{Act}
use Rattle.host_trace.specs.declared.items.Act.TheVariants.{CloseWs, EndInput, Feed, Kill, Release, Says, Shut, Start, Upgrade, WantChild, WantClient, Write}
use Rattle.host_trace.specs.declared.items.Item.TheVariants.{Out}
use Rattle.host_trace.specs.Kinds.{bytes_written, output_heard}
use Rattle.host_trace.specs.Projections.{child_out}
use Rattle.host_trace.proofs.ProjectionLaws.{client_out-push}
use Rattle.trace_child.specs.Words.{is_filled}
use Rattle.trace_model.specs.Answer.{Stage, Walk, answer, answer_at, is_final, running, stage, walk}
use Rattle.trace_model.specs.Demands.{is_live, waits_its_turn}
use Rattle.trace_model.specs.Exchange.{Exchange, all_of, continue_part, continue_text, continues, final, has_final, pushed, written}
use Rattle.trace_model.specs.Legs.{Leg}
use Rattle.trace_model.specs.Standing.{stands_whole}
use Rattle.trace_model.specs.TakesNoMemory.{lacks_reply}
use Rattle.conn_laws.specs.Quiet.{is_plain}
use Rattle.conn_laws.proofs.QuietLaws.{act_quiet, walk-quiet}
use Rattle.exchange_reply.specs.Leg.{has_ticked}
use Rattle.exchange_reply.specs.Standings.{is_due}
use Rattle.exchange_reply.proofs.LegLaws.{items_are_told}
use Rattle.exchange_reply.proofs.MemoryLaws.{answers_are_lacked, dues_are_lacked}
use Rattle.exchange_laws.proofs.UnansweredLaws.{continues-quiet}
use Rattle.conn_laws.specs.Moves.{Move, continues as lets_on, gives, moved, settles}

-- an act given to the child
abbrev pub is_childs : Act → Bool
is_childs (Feed k bytes) = true
is_childs (EndInput k) = true
is_childs (WantChild k) = true
is_childs (Kill k) = true
is_childs (Release k) = true
is_childs act = false

abbrev pub AreChilds : List Move → Type 0
AreChilds [] = Unit {0}
AreChilds (gives act ∷ moves) = (is_childs act ≡ true) × AreChilds moves
AreChilds (lets_on d ∷ moves) = ⊥
AreChilds (settles ending ∷ moves) = ⊥

-- there is a whole reply to write that waits for nothing, or one that is to have begun
pub data Owed (site : Site) (c : ℕ) (e : Exchange) : Type 0 where
  whole : is_final (answer site c e) ≡ true → waits_its_turn (stage site c e) ≡ false → Owed site c e
  begins : (leg : Leg) → stage site c e ≡ running leg → is_due leg.kind (child_out e.items leg.child) (has_ticked e leg) ≡ true → has_final site c e ≡ false → Owed site c e

pub owed_lacks : (site : Site) (c : ℕ) (e : Exchange) → stands_whole site c e ≡ false → Owed site c e → is_live c (all_of e) ≡ true → lacks_reply site c e ≡ true
owed_lacks site c e unwhole (whole final turn) live = answers_are_lacked site c e live final turn unwhole
owed_lacks site c e unwhole (begins leg at due none) live = dues_are_lacked site c e leg live at due none

child_plain : (act : Act) → is_childs act ≡ true → is_plain act ≡ true
child_plain (Feed k bytes) e = refl
child_plain (EndInput k) e = refl
child_plain (WantChild k) e = refl
child_plain (Kill k) e = refl
child_plain (Release k) e = refl
child_plain (WantClient d) e = absurd (false≢true e)
child_plain (Write d bytes) e = absurd (false≢true e)
child_plain (Shut d why) e = absurd (false≢true e)
child_plain (Start k d j hop launch) e = absurd (false≢true e)
child_plain (Upgrade d rest) e = absurd (false≢true e)
child_plain (Says d texts) e = absurd (false≢true e)
child_plain (CloseWs d code) e = absurd (false≢true e)

child_unwritten : (c : ℕ) (act : Act) → is_childs act ≡ true → bytes_written c (Out act) ≡ []
child_unwritten c (Feed k bytes) e = refl
child_unwritten c (EndInput k) e = refl
child_unwritten c (WantChild k) e = refl
child_unwritten c (Kill k) e = refl
child_unwritten c (Release k) e = refl
child_unwritten c (WantClient d) e = absurd (false≢true e)
child_unwritten c (Write d bytes) e = absurd (false≢true e)
child_unwritten c (Shut d why) e = absurd (false≢true e)
child_unwritten c (Start k d j hop launch) e = absurd (false≢true e)
child_unwritten c (Upgrade d rest) e = absurd (false≢true e)
child_unwritten c (Says d texts) e = absurd (false≢true e)
child_unwritten c (CloseWs d code) e = absurd (false≢true e)

module _ (site : Site) (c : ℕ) (e : Exchange) (act : Act) (childs : is_childs act ≡ true) where
  stage_same : stage site c (pushed e (Out act)) ≡ stage site c e
  stage_same = ap (λ (w : Walk). w.stage) (walk-quiet site c e (Out act) (act_quiet site c e act (child_plain act childs)))

  final_same : final site c (pushed e (Out act)) ≡ final site c e
  final_same =
      ap (λ (b : Bool). drop (length (if b then continue_text else [])) (written c (pushed e (Out act)))) (continues-quiet site c e (Out act) refl)
      ∙ ap (λ (l : List ℕ). drop (length (continue_part site c e)) l)
      (client_out-push e.items (Out act) c ∙ (ap (λ (l : List ℕ). written c e ++ l) (child_unwritten c act childs) ∙ append-nil (written c e)))

  or_none : (b : Bool) → (b || false) ≡ b
  or_none true = refl
  or_none false = refl

  owed_act : Owed site c e → Owed site c (pushed e (Out act))
  owed_act (whole is turn) = whole (ap (λ (t : Stage). is_final (answer_at t)) stage_same ∙ is) (ap waits_its_turn stage_same ∙ turn)
  owed_act (begins leg at due none) =
      let told = items_are_told e leg (Out act) in
      begins leg (stage_same ∙ at)
      (ap (λ (l : List ℕ). is_due leg.kind l (has_ticked (pushed e (Out act)) leg)) (told.output ∙ append-nil (child_out e.items leg.child))
      ∙ (ap (λ (b : Bool). is_due leg.kind (child_out e.items leg.child) b) (told.ticked ∙ or_none (has_ticked e leg)) ∙ due))
      (ap (λ (l : List ℕ). is_filled l) final_same ∙ none)

pub owed_moved : (site : Site) (c : ℕ) (e : Exchange) (moves : List Move) → AreChilds moves → Owed site c e → Owed site c (moved site c e moves)
owed_moved site c e [] a o = o
owed_moved site c e (gives act ∷ moves) a o = owed_moved site c (pushed e (Out act)) moves a.1 (owed_act site c e act a.0 o)
owed_moved site c e (lets_on d ∷ moves) a o = absurd a
owed_moved site c e (settles ending ∷ moves) a o = absurd a

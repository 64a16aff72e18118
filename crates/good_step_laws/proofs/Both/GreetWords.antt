-- What a step of a connection that speaks HTTP brings up to the accept text of a handshake.
use Rattle.std.proofs.Common.{◌≡◌, ◌≤◌, ℕ, ◌&&◌, Bool, true, false, List, [], ◌∷◌, ◌++◌, Option, Some, None, refl, sym, ap, ◌∙◌, subst}
use Rattle.std.specs.List.{list_any}
use Rattle.std.specs.Option.{option_map}
use Rattle.host_base.specs.declared.launch.Launch.{Launch}
use Rattle.host_trace.specs.declared.items.Act.{Act}
use Rattle.host_trace.specs.declared.items.Event.{Event}
use Rattle.host_trace.specs.declared.items.Item.{Item}
use Rattle.host_trace.specs.declared.items.Item.TheVariants.{In, Out}
use Rattle.host_trace.specs.Projections.{children}
use Rattle.own_traces.specs.Whose.{are_of, kids_after}
use Rattle.ws_handshake.specs.Handshake.{accept_text}
use Rattle.trace_model.specs.Between.{turns_away}
use Rattle.trace_model.specs.Exchange.{all_of}
use Rattle.trace_model.proofs.ExchangeLaws.{all_of-current}
use Rattle.conn_flags.specs.Form.{are_given}
use Rattle.conn_flags.specs.View.{View as Flags, noted}
use Rattle.conn_flags.proofs.KnowsLaws.{given_all-number}
use Rattle.conn_laws.specs.Moves.{Move, acts_of}
use Rattle.conn_laws.proofs.MoveLaws.{acts_of-append}
use Rattle.http_conn.specs.HttpConn.{HttpConn}
use Rattle.http_conn.specs.Hears.{Hears}
use Rattle.http_conn.specs.Kept.{AreOwn, HasChildIn, flags_of, number_of, site_of}
use Rattle.http_conn.specs.Kid.{number_in}
use Rattle.http_conn.specs.Parts.{Answers, Deed, Handles, Part, Rounds, Then}
use Rattle.http_conn.specs.Step.{SteppedBy}
use Rattle.http_conn.specs.Writes.{acts_written}
use Rattle.http_conn.specs.Welcomes.{Accepts, Greets, GreetsAfter, GreetsRound}
use Rattle.http_stage_laws.specs.HeardStages.{AtRest}
use Rattle.many_conns.specs.Kind.{Fitting, Within as KidWithin}
use Rattle.good_step_laws.specs.Http.Stands.{ConnStands, with_left}
use Rattle.good_step_laws.proofs.Http.FullLaws.{acts_spare, of_answers, of_handles, of_part, of_rounds, of_then, written_spares}
use Rattle.good_step_laws.proofs.Http.OwnLaws.{child_in, hears_left, rest_at, within_in}

-- no act of it turns a connection away
pub greets_spare : (c : ℕ) (launch : Launch) (stamp : Option ℕ) (old new : HttpConn) (n : ℕ) (moves : List Move) → Greets launch stamp old n moves new
    → list_any (λ (act : Act). turns_away c (Out act)) (acts_of moves) ≡ false
greets_spare c launch stamp =
    of_then c (Answers stamp) (Then Handles (GreetsAfter launch stamp)) (of_answers c stamp)
    (of_then c Handles (GreetsAfter launch stamp) (of_handles c)
    (λ a b m l x. of_then c (Rounds x.0 stamp) (GreetsRound launch stamp) (of_rounds c x.0 stamp)
    (λ d e k j y. of_then c (Answers stamp) (Part (Accepts launch)) (of_answers c stamp)
    (of_part c (Accepts launch) (λ f g h i z. acts_spare c i (acts_written f.flags.c (accept_text z.value) true) z.moves_are (written_spares c f.flags.c (accept_text z.value)))) d e k j y.does) a b m l x.1))

module _ (Does : Deed) (old conn : HttpConn) (ev : Event) (stamp : Option ℕ) (n k : ℕ) (before told : Option (List Item)) (s : SteppedBy Does old ev n before conn k told) where
  pub acts_later : s.acts ≡ acts_of s.later
  acts_later =
      sym s.same ∙ (ap acts_of s.are ∙ (acts_of-append s.heard.moves s.later ∙ ap (λ (l : List Act). l ++ acts_of s.later) s.heard.none))

  pub number_kept : number_of conn ≡ number_of old
  number_kept = ap (λ (v : Flags). v.c) s.flags ∙ given_all-number (noted (flags_of old) (In ev)) s.acts

  pub its : (ks : List ℕ) → KidWithin (option_map number_in old.run) ks → AreOwn (number_of old) n ks s.acts conn
  its ks w = s.own ks (within_in old.run ks w)

  module _ (L : List Item) (t : ConnStands (site_of old) old L) (fit : Fitting (site_of old).limits.children (number_of old) n stamp L ev) where
    pub alone : are_of (number_of old) (children L (number_of old)) n s.acts ≡ true
    alone =
        (s.own (children L (number_of old))
        (subst (λ (l : List Item). HasChildIn old (children l (number_of old))) (ap all_of t.rest.now ∙ all_of-current (site_of old) (number_of old) L)
        (child_in (site_of old) (number_of old) t.exchange t.next t.legs old.run t.rest.children))).are

    -- it is at rest, as if it had heard the Ticks before its Accepted
    pub rest_then : AtRest (with_left t.left old) L t.exchange t.legs n
    rest_then = rest_at (with_left t.left old) L t.exchange t.legs t.next n t.rest fit.fresh

    pub hears_it : Hears (with_left t.left old) ev s.mid
    hears_it = hears_left old s.mid ev t.left L t.rest.flags.accepted t.told fit.told s.exact

    pub form_later : are_given (noted (flags_of old) (In ev)) (acts_of s.later) ≡ true
    form_later = subst (λ (acts : List Act). are_given (noted (flags_of old) (In ev)) acts ≡ true) acts_later s.form

    pub alone_later : are_of (number_of old) (children L (number_of old)) n (acts_of s.later) ≡ true
    alone_later = subst (λ (acts : List Act). are_of (number_of old) (children L (number_of old)) n acts ≡ true) acts_later alone

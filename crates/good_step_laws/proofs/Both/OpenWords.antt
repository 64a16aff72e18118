-- The step in which a connection comes to speak WebSocket, or is shut for want of memory before it could.
use Rattle.std.proofs.Common.{◌≡◌, ◌≤◌, ℕ, ◌+◌, ◌==◌, ◌&&◌, ◌||◌, Bool, true, false, not, List, [], ◌∷◌, ◌++◌, map, Option, Some, None, if◌then◌else◌, refl, sym, ap, ◌∙◌, subst}
use Rattle.std.specs.List.{list_any}
use Rattle.std.proofs.lemmas.Bool.{and_from, eq-eqb, or_from, or_left}
use Rattle.std.proofs.lemmas.List.Folds.{list_any-append}
use Rattle.host_base.specs.declared.launch.Launch.{Launch}
use Rattle.host_base.specs.declared.site.Site.{Site}
use Rattle.host_trace.specs.declared.items.Act.{Act}
use Rattle.host_trace.specs.declared.items.Act.TheVariants.{Shut as Shuts, Start, Upgrade}
use Rattle.host_trace.specs.declared.items.Event.{Event}
use Rattle.host_trace.specs.declared.items.Item.{Item}
use Rattle.host_trace.specs.declared.items.Item.TheVariants.{In, Out}
use Rattle.host_trace.specs.declared.items.Why.TheVariants.{NoMemory}
use Rattle.host_trace.specs.Account.{has_unsettled, settled}
use Rattle.host_trace.specs.Projections.{children}
use Rattle.host_trace.specs.Trace.{after_step, step_of}
use Rattle.host_trace.proofs.AddsLaws.{Adds-trans}
use Rattle.own_traces.specs.Whose.{are_of, has, is_of, kids_after, next_after}
use Rattle.own_traces.proofs.BlockLaws.{are_of-append, next_after-append}
use Rattle.trace_child.specs.Words.{given}
use Rattle.trace_model.specs.Between.{turns_away}
use Rattle.trace_model.specs.Exchange.{Exchange, all_of}
use Rattle.trace_model.specs.Exchanges.{current}
use Rattle.trace_model.specs.Good.{GoodFor, StepGood}
use Rattle.trace_model.specs.Hears.{hears}
use Rattle.trace_model.proofs.ExchangeLaws.{all_of-current}
use Rattle.trace_model.proofs.LiftLaws.{AtEachStep-push}
use Rattle.conn_flags.specs.View.{View as Flags}
use Rattle.conn_flags.proofs.KnowsLaws.{given_all-number}
use Rattle.child_core.specs.View.{View as Run}
use Rattle.conn_laws.specs.Moves.{acts_of}
use Rattle.http_conn.specs.HttpConn.{HttpConn}
use Rattle.http_conn.specs.Kept.{AreOwn, flags_of, number_of, site_of}
use Rattle.http_conn.specs.Opens.{Missed, Misses, Opened, Opens, acts_upgraded, missed}
use Rattle.http_conn.specs.Parts.{Deed}
use Rattle.http_conn.specs.Welcomes.{Greets}
use Rattle.http_conn.proofs.GaveLaws.{kids_after-append}
use Rattle.good_step_laws.specs.Opens.Laws.{IsClosed, IsMissed, IsOpened, acts_missed, acts_opened}
use Rattle.many_conns.specs.Kind.{AreIts, Fitting, Gives, StepOwn}
use Rattle.good_step_laws.proofs.Http.AccountLaws.{accounts_kept}
use Rattle.good_step_laws.proofs.Http.FullLaws.{none_given}
use Rattle.good_step_laws.proofs.Http.OwnLaws.{has-append}
use Rattle.good_step_laws.proofs.Http.SettledLaws.{older_settled, settled_together}
use Rattle.good_step_laws.proofs.Http.StepWords.{asks_of}
use Rattle.good_step_laws.specs.Http.Stands.{with_left}
use Rattle.talk_conn.specs.declared.conn.TalkConn.{TalkConn}
use Rattle.talk_conn.specs.View.{flags_of as talk_flags, number_of as talk_number, run_of as talk_run}
use Rattle.conn_phase.specs.declared.phase.Phase.TheVariants.{Http, Talk}
use Rattle.good_step_laws.specs.Both.Laws.{AllSteps}
use Rattle.good_step_laws.specs.Both.Stands.{HttpStands, ShutStands, TalkStandsFor, Was, phase_kind}
use Rattle.good_step_laws.proofs.Both.GreetWords.{acts_later, alone, alone_later, form_later, greets_spare, hears_it, its, number_kept, rest_then}

and_false : (b : Bool) → (b && false) ≡ false
and_false true = refl
and_false false = refl

-- ---- it speaks WebSocket

module _ (all : AllSteps) (old : HttpConn) (talk : TalkConn) (ev : Event) (stamp : Option ℕ) (n m : ℕ) (before after : Option (List Item)) (o : Opened old ev stamp n before talk m after) where
  abbrev Does : Deed
  Does = Greets o.launch stamp

  abbrev c : ℕ
  c = number_of old

  abbrev tail : List Act
  tail = acts_opened o.conn o.k o.launch o.opens.rest

  abbrev acts : List Act
  acts = o.greets.acts ++ acts_opened o.conn o.k o.launch o.opens.rest

  same : number_of o.conn ≡ number_of old
  same = number_kept Does old o.conn ev stamp n o.k before o.then_told o.greets

  later : o.greets.acts ≡ acts_of o.greets.later
  later = acts_later Does old o.conn ev stamp n o.k before o.then_told o.greets

  mine : (c == number_of o.conn) ≡ true
  mine = eq-eqb c (number_of o.conn) (sym same)

  tail_are : (ks : List ℕ) → are_of c ks (next_after n o.greets.acts) tail ≡ true
  tail_are ks =
      and_from _ _ (or_left (c == number_of o.conn) _ mine)
      (and_from _ true (and_from (c == number_of o.conn) (next_after n o.greets.acts == o.k) mine (eq-eqb (next_after n o.greets.acts) o.k (sym o.greets.next))) refl)

  are : (ks : List ℕ) → are_of c ks n o.greets.acts ≡ true → are_of c ks n acts ≡ true
  are ks first = are_of-append c ks n o.greets.acts tail ∙ and_from (are_of c ks n o.greets.acts) _ first (tail_are (kids_after ks c o.greets.acts))

  last_child : (talk_run talk).number ≡ o.k
  last_child = ap (λ (v : Run). v.number) o.opens.run

  kid_in : (ks : List ℕ) → has (kids_after ks c acts) (talk_run talk).number ≡ true
  kid_in ks =
      ap (λ (l : List ℕ). has l (talk_run talk).number) (kids_after-append ks c o.greets.acts tail)
      ∙ (ap (λ (b : Bool). has (if b then kids_after ks c o.greets.acts ++ o.k ∷ [] else kids_after ks c o.greets.acts) (talk_run talk).number) mine
      ∙ has-append (talk_run talk).number (kids_after ks c o.greets.acts) (o.k ∷ []) (or_left (o.k == (talk_run talk).number) false (eq-eqb o.k (talk_run talk).number (sym last_child))))

  spares : (d : ℕ) → list_any (λ (act : Act). turns_away d (Out act)) acts ≡ false
  spares d =
      list_any-append (λ (act : Act). turns_away d (Out act)) o.greets.acts tail
      ∙ or_from _ _ (ap (λ (l : List Act). list_any (λ act. turns_away d (Out act)) l) later ∙ greets_spare d o.launch stamp o.greets.mid o.conn n o.greets.later o.greets.does) refl

  module _ (L : List Item) (t : HttpStands (site_of old) old L) (fit : Fitting (site_of old).limits.children (number_of old) n stamp L ev) where
    by_number : (j : ℕ) → j ≡ next_after n (acts_of o.greets.later) → (p : Opens o.launch o.conn j o.then_told talk m after)
        → IsOpened (with_left t.stood.left old) talk L ev (acts_of o.greets.later ++ acts_opened o.conn j o.launch p.rest) m
    by_number j is =
        subst (λ (i : ℕ). (p : Opens o.launch o.conn i o.then_told talk m after) → IsOpened (with_left t.stood.left old) talk L ev (acts_of o.greets.later ++ acts_opened o.conn i o.launch p.rest) m) (sym is)
        (λ p. all.opens (with_left t.stood.left old) o.greets.mid o.conn talk L t.stood.exchange t.stood.legs ev stamp n m o.launch o.greets.later o.then_told after
        (rest_then Does old o.conn ev stamp n o.k before o.then_told o.greets L t.stood fit) t.untalked fit.fits fit.clock
        (hears_it Does old o.conn ev stamp n o.k before o.then_told o.greets L t.stood fit) o.greets.does
        (form_later Does old o.conn ev stamp n o.k before o.then_told o.greets L t.stood fit)
        (alone_later Does old o.conn ev stamp n o.k before o.then_told o.greets L t.stood fit) p)

    one : IsOpened (with_left t.stood.left old) talk L ev acts m
    one =
        subst (λ (l : List Act). IsOpened (with_left t.stood.left old) talk L ev (l ++ tail) m) (sym later)
        (by_number o.k (o.greets.next ∙ ap (next_after n) later) o.opens)

    own : StepOwn phase_kind (site_of old) (Http old) n ev acts (Talk talk) L
    own = record {
      alone = are (children L c) (alone Does old o.conn ev stamp n o.k before o.then_told o.greets L t.stood fit);
      stands = record {
        holds = record {
          site_is = one.site;
          next = m;
          stands = one.stands;
          asks = subst (λ (d : ℕ). hears (site_of old) d (current (site_of old) d (after_step L ev acts)) ≡ true) (sym one.number)
              (asks_of (site_of old) c L ev acts (current (site_of old) c (after_step L ev acts)) one.good refl);
          accounts = accounts_kept (site_of old).limits.children L ev acts t.stood.accounts fit.fits;
          good = subst (λ (d : ℕ). GoodFor (site_of old) d (after_step L ev acts)) (sym one.number) (AtEachStep-push (StepGood (site_of old) c) L ev acts t.stood.good one.good);
        };
        was = record { conn = old; list = L; stood = t.stood };
      };
    }

  pub opened_gives : Gives phase_kind (Http old) n ev stamp (Talk talk) m before after
  opened_gives = record {
    acts = acts;
    added = Adds-trans o.greets.told o.opens.told;
    next = o.opens.next ∙ (ap (λ (j : ℕ). j + 1) o.greets.next ∙ sym (next_after-append n o.greets.acts tail));
    site = o.opens.site ∙ o.greets.site;
    number = ap (λ (v : Flags). v.c) o.opens.flags ∙ same;
    stays = λ d. none_given d acts (spares d);
    its = λ ks w. record { are = are ks (its Does old o.conn ev stamp n o.k before o.then_told o.greets ks w).are; child = kid_in ks };
    own = λ L t fit. own L t fit;
  }

-- ---- memory ran out

module _ (all : AllSteps) (old left : HttpConn) (ev : Event) (stamp : Option ℕ) (n m : ℕ) (before after : Option (List Item)) (o : Missed old ev stamp n before left m after) where
  abbrev Does' : Deed
  Does' = Greets o.launch stamp

  abbrev c' : ℕ
  c' = number_of old

  abbrev tail' : List Act
  tail' = acts_missed o.conn o.misses.rest o.misses.upgraded

  abbrev pub acts_shut : List Act
  acts_shut = o.greets.acts ++ acts_missed o.conn o.misses.rest o.misses.upgraded

  same' : number_of o.conn ≡ number_of old
  same' = number_kept Does' old o.conn ev stamp n o.k before o.then_told o.greets

  later' : o.greets.acts ≡ acts_of o.greets.later
  later' = acts_later Does' old o.conn ev stamp n o.k before o.then_told o.greets

  mine' : (c' == number_of o.conn) ≡ true
  mine' = eq-eqb c' (number_of o.conn) (sym same')

  missed_are : (ks : List ℕ) (j : ℕ) (rest : List ℕ) (b : Bool) → are_of c' ks j (acts_missed o.conn rest b) ≡ true
  missed_are ks j rest true = and_from _ _ (or_left (c' == number_of o.conn) _ mine') (and_from _ true (or_left (c' == number_of o.conn) _ mine') refl)
  missed_are ks j rest false = and_from _ true (or_left (c' == number_of o.conn) _ mine') refl

  missed_next : (j : ℕ) (rest : List ℕ) (b : Bool) → next_after j (acts_missed o.conn rest b) ≡ j
  missed_next j rest true = refl
  missed_next j rest false = refl

  missed_spares : (d : ℕ) (rest : List ℕ) (b : Bool) → list_any (λ (act : Act). turns_away d (Out act)) (acts_missed o.conn rest b) ≡ false
  missed_spares d rest true = or_from (d == number_of o.conn && false) false (and_false (d == number_of o.conn)) refl
  missed_spares d rest false = or_from (d == number_of o.conn && false) false (and_false (d == number_of o.conn)) refl

  shut_are : (ks : List ℕ) → are_of c' ks n o.greets.acts ≡ true → are_of c' ks n acts_shut ≡ true
  shut_are ks first =
      are_of-append c' ks n o.greets.acts tail'
      ∙ and_from (are_of c' ks n o.greets.acts) _ first (missed_are (kids_after ks c' o.greets.acts) (next_after n o.greets.acts) o.misses.rest o.misses.upgraded)

  shut_spares : (d : ℕ) → list_any (λ (act : Act). turns_away d (Out act)) acts_shut ≡ false
  shut_spares d =
      list_any-append (λ (act : Act). turns_away d (Out act)) o.greets.acts tail'
      ∙ or_from _ _ (ap (λ (l : List Act). list_any (λ act. turns_away d (Out act)) l) later' ∙ greets_spare d o.launch stamp o.greets.mid o.conn n o.greets.later o.greets.does)
      (missed_spares d o.misses.rest o.misses.upgraded)

  pub shut_site : site_of left ≡ site_of old
  shut_site = ap site_of o.misses.is ∙ o.greets.site

  pub shut_number : number_of left ≡ number_of old
  shut_number = ap number_of o.misses.is ∙ (given_all-number o.conn.flags (acts_upgraded (number_of o.conn) o.misses.rest o.misses.upgraded) ∙ same')

  pub shut_next_is : m ≡ next_after n acts_shut
  shut_next_is =
      o.misses.next ∙ (o.greets.next ∙ (sym (missed_next (next_after n o.greets.acts) o.misses.rest o.misses.upgraded) ∙ sym (next_after-append n o.greets.acts tail')))

  pub shut_stays : (d : ℕ) → given (turns_away d) acts_shut ≡ 0
  shut_stays d = none_given d acts_shut (shut_spares d)

  pub shut_its : (ks : List ℕ) → are_of c' ks n o.greets.acts ≡ true → are_of c' ks n acts_shut ≡ true
  shut_its = shut_are

  module _ (L : List Item) (t : HttpStands (site_of old) old L) (fit : Fitting (site_of old).limits.children (number_of old) n stamp L ev) where
    by_number' : (j : ℕ) → j ≡ next_after n (acts_of o.greets.later) → (p : Misses o.conn j o.then_told left m after)
        → IsMissed (site_of old) c' L ev (acts_of o.greets.later ++ acts_missed o.conn p.rest p.upgraded)
    by_number' j is =
        subst (λ (i : ℕ). (p : Misses o.conn i o.then_told left m after) → IsMissed (site_of old) c' L ev (acts_of o.greets.later ++ acts_missed o.conn p.rest p.upgraded)) (sym is)
        (λ p. all.misses (with_left t.stood.left old) o.greets.mid o.conn left L t.stood.exchange t.stood.legs ev stamp n m o.launch o.greets.later o.then_told after
        (rest_then Does' old o.conn ev stamp n o.k before o.then_told o.greets L t.stood fit) t.untalked fit.fits fit.clock
        (hears_it Does' old o.conn ev stamp n o.k before o.then_told o.greets L t.stood fit) o.greets.does
        (form_later Does' old o.conn ev stamp n o.k before o.then_told o.greets L t.stood fit)
        (alone_later Does' old o.conn ev stamp n o.k before o.then_told o.greets L t.stood fit) p)

    one' : IsMissed (site_of old) c' L ev acts_shut
    one' =
        subst (λ (l : List Act). IsMissed (site_of old) c' L ev (l ++ tail')) (sym later')
        (by_number' o.k (o.greets.next ∙ ap (next_after n) later') o.misses)

    pub shut_alone : are_of c' (children L c') n acts_shut ≡ true
    shut_alone = shut_are (children L c') (alone Does' old o.conn ev stamp n o.k before o.then_told o.greets L t.stood fit)

    abbrev now : Exchange
    now = current (site_of old) c' (after_step L ev acts_shut)

    settled_then : has_unsettled (after_step L ev acts_shut) c' ≡ false
    settled_then =
        ap (λ (l : List Item). has_unsettled l c') (sym (all_of-current (site_of old) c' (after_step L ev acts_shut)))
        ∙ settled_together now.before now.items c' (older_settled (site_of old) c' (after_step L ev acts_shut))
        (ap (λ (ks : List ℕ). list_any (λ k. not (settled now.items k)) ks) one'.closed.no_child)

    pub shut_stands : (of : Site) → of ≡ site_of old → ShutStands (site_of old) of c' (after_step L ev acts_shut)
    shut_stands of is = record {
      site_is = is;
      closed = one'.closed;
      settled = settled_then;
      accounts = accounts_kept (site_of old).limits.children L ev acts_shut t.stood.accounts fit.fits;
      good = AtEachStep-push (StepGood (site_of old) c') L ev acts_shut t.stood.good one'.good;
      was = record { conn = old; list = L; stood = t.stood };
    }

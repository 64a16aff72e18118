-- What a step comes to in which no script is started and none is to be heard of its client.
use Rattle.std.proofs.Common.{◌≡◌, ℕ, ◌&&◌, Bool, true, false, not, List, [], ◌++◌, Option, Some, None, if◌then◌else◌, refl, sym, ap, ◌∙◌}
use Rattle.std.proofs.lemmas.Bool.{false≢true}
use Rattle.std.proofs.lemmas.List.{append-nil}
use Rattle.host_trace.specs.declared.items.Act.{Act}
use Rattle.host_trace.specs.declared.items.Event.{Event}
use Rattle.host_trace.specs.declared.items.Why.{Why}
use Rattle.conn_flags.specs.View.{is_live}
use Rattle.scgi_conn.specs.declared.conn.ScgiConn.{ScgiConn}
use Rattle.scgi_conn.specs.declared.stage.Stage.{Stage}
use Rattle.scgi_conn.specs.declared.stage.Stage.TheVariants.{Over, Running}
use Rattle.scgi_conn.specs.Parts.{acts_acted, acts_asked, acts_begun, acts_begun_at, acts_shut, acts_written, asked_conn, begun_at, is_ask_due, is_hearing, shut_conn, why_at, why_of}
use Rattle.scgi_conn.specs.Step.{Steps}
use Rattle.scgi_conn.specs.View.{flags_of, number_of, run_of, stage_of}
use Rattle.scgi_conn.proofs.KeepLaws.{steps_keep}
use Rattle.scgi_laws.specs.Ends.{EndsAt, StepsEnd, is_past}

-- ---- parts that do nothing there

still : (b : Bool) (n : ℕ) (s : Stage) (x : ScgiConn) → is_past s ≡ true → begun_at b n s x ≡ x
still b n Running x p = refl
still b n (Over end) x p = refl
still b n _ x p = absurd (false≢true p)

unbegun : (b : Bool) (n : ℕ) (s : Stage) (x : ScgiConn) → is_past s ≡ true → acts_begun_at b n s x ≡ []
unbegun b n Running x p = refl
unbegun b n (Over end) x p = refl
unbegun b n _ x p = absurd (false≢true p)

unheard : (s : Stage) → is_past s ≡ true → is_hearing s ≡ false
unheard Running p = refl
unheard (Over end) p = refl
unheard _ p = absurd (false≢true p)

shut_stage : (why : Option Why) (x : ScgiConn) → stage_of (shut_conn why x) ≡ stage_of x
shut_stage None x = refl
shut_stage (Some why) x = refl

shut_run : (why : Option Why) (x : ScgiConn) → run_of (shut_conn why x) ≡ run_of x
shut_run None x = refl
shut_run (Some why) x = refl

shut_number : (why : Option Why) (x : ScgiConn) → number_of (shut_conn why x) ≡ number_of x
shut_number None x = refl
shut_number (Some why) x = refl

module _ (old new : ScgiConn) (ev : Event) (n m : ℕ) (acts : List Act) (w : Steps old ev n acts new m) (s : Stage) (past : is_past s ≡ true) (at : stage_of w.fifth ≡ s)
    (live : is_live (flags_of w.fifth) ≡ true) where
  same : w.sixth ≡ w.fifth
  same = w.sixth_is ∙ (ap (λ (x : Stage). begun_at w.begun n x w.fifth) at ∙ still w.begun n s w.fifth past)

  none_begun : acts_begun w.begun n w.fifth ≡ []
  none_begun = ap (λ (x : Stage). acts_begun_at w.begun n x w.fifth) at ∙ unbegun w.begun n s w.fifth past

  why_is : why_of w.sixth ≡ why_at s
  why_is =
      ap why_of same
      ∙ (ap (λ (b : Bool). if b then why_at (stage_of w.fifth) else None) live ∙ ap why_at at)

  stage_last : stage_of w.last ≡ s
  stage_last = ap stage_of w.last_is ∙ (shut_stage (why_of w.sixth) w.sixth ∙ (ap stage_of same ∙ at))

  unasked : is_ask_due w.last ≡ false
  unasked = ap (λ (b : Bool). b && is_live w.last.flags && not w.last.flags.asked) (ap is_hearing stage_last ∙ unheard s past)

  end_is : new ≡ w.last
  end_is = w.is ∙ ap (λ (b : Bool). asked_conn b w.last) unasked

  number_is : number_of w.sixth ≡ number_of old
  number_is =
      sym (shut_number (why_of w.sixth) w.sixth)
      ∙ (sym (ap number_of w.last_is) ∙ (sym (ap number_of end_is) ∙ (steps_keep old new ev n m acts w).number))

  acts_are : acts ≡ (acts_written w.written w.third ++ acts_acted w.fed w.fourth) ++ acts_shut (number_of old) (why_at s)
  acts_are =
      w.acts_are
      ∙ (ap (λ (l : List Act). (acts_written w.written w.third ++ (acts_acted w.fed w.fourth ++ l)) ++ (acts_shut w.sixth.flags.c (why_of w.sixth) ++ acts_asked w.last.flags.c (is_ask_due w.last))) none_begun
      ∙ (ap (λ (l : List Act). (acts_written w.written w.third ++ l) ++ (acts_shut w.sixth.flags.c (why_of w.sixth) ++ acts_asked w.last.flags.c (is_ask_due w.last))) (append-nil (acts_acted w.fed w.fourth))
      ∙ (ap (λ (b : Bool). (acts_written w.written w.third ++ acts_acted w.fed w.fourth) ++ (acts_shut w.sixth.flags.c (why_of w.sixth) ++ acts_asked w.last.flags.c b)) unasked
      ∙ (ap (λ (l : List Act). (acts_written w.written w.third ++ acts_acted w.fed w.fourth) ++ l) (append-nil (acts_shut w.sixth.flags.c (why_of w.sixth)))
      ∙ (ap (λ (c : ℕ). (acts_written w.written w.third ++ acts_acted w.fed w.fourth) ++ acts_shut c (why_of w.sixth)) number_is
      ∙ ap (λ (why : Option Why). (acts_written w.written w.third ++ acts_acted w.fed w.fourth) ++ acts_shut (number_of old) why) why_is)))))

  ends : EndsAt old new ev n m acts w s
  ends = record {
    acts_are = acts_are;
    run_is = ap run_of end_is ∙ (ap run_of w.last_is ∙ (shut_run (why_of w.sixth) w.sixth ∙ ap run_of same));
    stage_is = ap stage_of end_is ∙ stage_last;
  }

pub steps_end : StepsEnd
steps_end old new ev n m acts w s past at live = ends old new ev n m acts w s past at live

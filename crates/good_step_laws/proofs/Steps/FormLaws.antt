-- The acts of a step come in form: those on the connection by its flags, and those on a child where they may be given to it.
use Rattle.std.proofs.Common.{◌≡◌, ℕ, ◌==◌, true, ◌&&◌, ◌||◌, not, List, [], ◌∷◌, ◌++◌, refl, sym, ap, ◌∙◌}
use Rattle.std.proofs.lemmas.Bool.{and_from, and_parts, eqb-true}
use Rattle.host_base.specs.declared.site.Site.{Site}
use Rattle.host_trace.specs.declared.items.Act.{Act}
use Rattle.host_trace.specs.declared.items.Act.TheVariants.{CloseWs, EndInput, Feed, Kill, Release, Says, Shut, Start, Upgrade, WantChild, WantClient, Write}
use Rattle.host_trace.specs.declared.items.Item.{Item}
use Rattle.host_trace.specs.declared.items.Item.TheVariants.{Out}
use Rattle.host_trace.specs.Projections.{start_stands, stopped}
use Rattle.own_traces.specs.Whose.{are_of, is_of, next_child, with_child}
use Rattle.trace_child.specs.ChildForm.{may_be_given}
use Rattle.trace_model.specs.Demands.{has_room, is_live}
use Rattle.trace_model.specs.Exchange.{Exchange, all_of}
use Rattle.trace_model.specs.Exchanges.{current, next_of}
use Rattle.trace_model.specs.Form.{comes_in_form, may_come}
use Rattle.trace_model.specs.Steps.{each_act_from}
use Rattle.trace_model.proofs.ExchangeLaws.{all_of-after, all_of-current}
use Rattle.conn_flags.specs.Form.{are_given}
use Rattle.conn_flags.specs.Knows.{KnowsFlags}
use Rattle.conn_flags.specs.View.{View as Flags}
use Rattle.conn_laws.specs.Form.{all_come, all_in_time, comes_in_time, is_to_connection}
use Rattle.conn_laws.proofs.FormLaws.{acts_come, acts_in_time}
use Rattle.http_step_laws.specs.Laws.{may_be_given_at}

module _ (site : Site) (c : ℕ) where
  one : (L : List Item) (ks : List ℕ) (n : ℕ) (act : Act) → is_of c ks n (Out act) ≡ true → (not (is_to_connection act) || may_come L act) ≡ true → comes_in_time c L act ≡ true
      → may_be_given L act ≡ true → may_come L act ≡ true
  one L ks n (Feed k bytes) own come time may = may
  one L ks n (EndInput k) own come time may = may
  one L ks n (WantChild k) own come time may = may
  one L ks n (Kill k) own come time may = may
  one L ks n (Release k) own come time may = may
  one L ks n (Start k d j hop launch) own come time may =
      let mine : c ≡ d = eqb-true c d (and_parts (c == d) (n == k) own).0 in
      let live : is_live c L ≡ true = (and_parts (is_live c L) (has_room c L) (and_parts (is_live c L && has_room c L) (not (stopped L)) time).0).0 in
      and_from (is_live d L) (not (start_stands L k)) (sym (ap (λ (i : ℕ). is_live i L) mine) ∙ live) may
  one L ks n _ own come time may = come

  all : (L : List Item) (d : Exchange) (ks : List ℕ) (n : ℕ) (acts : List Act) → all_of d ≡ L → are_of c ks n acts ≡ true → all_come L acts ≡ true → all_in_time c L acts ≡ true
      → each_act_from site c may_be_given_at d acts ≡ true → each_act_from site c comes_in_form d acts ≡ true
  all L d ks n [] is own come time may = refl
  all L d ks n (act ∷ acts) is own come time may =
      let o = and_parts (is_of c ks n (Out act)) (are_of c (with_child ks c (Out act)) (next_child n (Out act)) acts) own in
      let a = and_parts (not (is_to_connection act) || may_come L act) (all_come (L ++ Out act ∷ []) acts) come in
      let b = and_parts (comes_in_time c L act) (all_in_time c (L ++ Out act ∷ []) acts) time in
      let m = and_parts (may_be_given_at d act) (each_act_from site c may_be_given_at (next_of site c d (Out act)) acts) may in
      let later : all_of (next_of site c d (Out act)) ≡ L ++ Out act ∷ [] = all_of-after site c d (Out act ∷ []) ∙ ap (λ (l : List Item). l ++ Out act ∷ []) is in
      and_from _ _ (ap (λ (l : List Item). may_come l act) is ∙ one L ks n act o.0 a.0 b.0 (sym (ap (λ (l : List Item). may_be_given l act) is) ∙ m.0))
      (all (L ++ Out act ∷ []) (next_of site c d (Out act)) (with_child ks c (Out act)) (next_child n (Out act)) acts later o.1 a.1 b.1 m.1)

-- Each act comes in form.
pub acts_come_in_form : (site : Site) (m : Flags) (L : List Item) (ks : List ℕ) (n : ℕ) (acts : List Act) → KnowsFlags m L → are_of m.c ks n acts ≡ true → are_given m acts ≡ true
    → each_act_from site m.c may_be_given_at (current site m.c L) acts ≡ true → each_act_from site m.c comes_in_form (current site m.c L) acts ≡ true
acts_come_in_form site m L ks n acts knows own form may =
    all site m.c L (current site m.c L) ks n acts (all_of-current site m.c L) own (acts_come m L ks n acts knows own form) (acts_in_time m L acts knows form) may

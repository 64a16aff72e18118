-- What the flags of a connection allow once the accept text stands.
use Rattle.std.proofs.Common.{◌≡◌, ℕ, Bool, true, false, not, ◌&&◌, List, [], refl, sym, ap, ◌∙◌, subst, arith}
use Rattle.std.specs.Prelude.{if◌then◌else◌}
use Rattle.std.specs.List.{list_any}
use Rattle.std.proofs.lemmas.Bool.{and_from, false≢true}
use Rattle.host_base.specs.declared.launch.Launch.{Launch}
use Rattle.host_base.specs.declared.site.Site.{Site}
use Rattle.host_trace.specs.declared.items.Act.TheVariants.{Start, Upgrade}
use Rattle.host_trace.specs.declared.items.Item.{Item}
use Rattle.host_trace.specs.declared.items.Item.TheVariants.{Out}
use Rattle.host_trace.specs.Kinds.{is_accepted, is_upgrade}
use Rattle.host_trace.specs.Projections.{shut, upgraded}
use Rattle.trace_model.specs.Demands.{has_room as room_then}
use Rattle.trace_model.specs.Exchange.{Exchange, all_of, pushed}
use Rattle.conn_laws.specs.Form.{SaysDemands}
use Rattle.conn_laws.proofs.FormLaws.{flags_say}
use Rattle.conn_flags.specs.View.{View as Flags, has_room, is_live, may_write, more_by, noted}
use Rattle.conn_flags.specs.Form.{is_allowed}
use Rattle.conn_flags.specs.Knows.{KnowsFlags}
use Rattle.conn_flags.proofs.KnowsLaws.{act_admitted, known_next}
use Rattle.talk_laws.specs.Welcome.{IsOpening}
use Rattle.talk_laws.proofs.ListLaws.{all_push, any_within}

-- a Start changes nothing of them
sent_none : (upgraded : Bool) (pending : ℕ) → more_by (if upgraded then 0 else 0) pending ≡ pending
sent_none true pending = refl
sent_none false pending = refl

pub start_same : (m : Flags) (k c j hop : ℕ) (launch : Launch) → noted m (Out (Start k c j hop launch)) ≡ m
start_same m k c j hop launch = ap (λ (p : ℕ). record m { pending = p }) (sent_none m.upgraded m.pending)

module _ (site : Site) (c : ℕ) (e : Exchange) (continued : Bool) (launch : Launch) (m : Flags) (k : KnowsFlags m (all_of e)) (number : m.c ≡ c) (met : list_any is_accepted (all_of e) ≡ true) where
  says : SaysDemands m (all_of e)
  says = flags_say m (all_of e) k

  pub live_flags : (spoken : Bool) → IsOpening site c e [] continued launch spoken → is_live m ≡ true
  live_flags spoken o =
      says.live ∙ and_from (list_any is_accepted (all_of e)) (not (shut (all_of e) m.c)) met (ap not (ap (λ (i : ℕ). shut (all_of e) i) number ∙ o.unshut))

  pub write_flags : IsOpening site c e [] continued launch false → may_write m ≡ true
  write_flags o =
      and_from (is_live m) (not m.upgraded) (live_flags false o)
      (ap not (k.upgraded ∙ (ap (λ (i : ℕ). upgraded (all_of e) i) number ∙ (any_within (is_upgrade c) e o.http_before ∙ o.upgraded_is))))

  pub upgrade_allowed : (rest : List ℕ) → IsOpening site c e [] continued launch false → is_allowed m (Upgrade m.c rest) ≡ true
  upgrade_allowed rest o = and_from (may_write m) true (write_flags o) refl

  pub start_allowed : (n j : ℕ) (due : Launch) → IsOpening site c e [] continued launch true → is_allowed m (Start n m.c j 0 due) ≡ true
  start_allowed n j due o =
      and_from (is_live m) (has_room m && not m.stopped) (live_flags true o)
      (and_from (has_room m) (not m.stopped) (says.room ∙ (ap (λ (i : ℕ). room_then i (all_of e)) number ∙ o.room refl)) (ap not (k.stopped ∙ o.going)))

  pub upgrade_known : (rest : List ℕ) → IsOpening site c e [] continued launch false → KnowsFlags (noted m (Out (Upgrade c rest))) (all_of (pushed e (Out (Upgrade c rest))))
  upgrade_known rest o =
      subst (λ (i : ℕ). KnowsFlags (noted m (Out (Upgrade i rest))) (all_of (pushed e (Out (Upgrade i rest))))) number
      (subst (λ (l : List Item). KnowsFlags (noted m (Out (Upgrade m.c rest))) l) (sym (all_push e (Out (Upgrade m.c rest))))
      (known_next m (all_of e) (Out (Upgrade m.c rest)) k (act_admitted m (Upgrade m.c rest) (write_flags o))))

  pub start_known : (n j : ℕ) (due : Launch) → KnowsFlags m (all_of (pushed e (Out (Start n c j 0 due))))
  start_known n j due =
      subst (λ (w : Flags). KnowsFlags w (all_of (pushed e (Out (Start n c j 0 due))))) (start_same m n c j 0 due)
      (subst (λ (l : List Item). KnowsFlags (noted m (Out (Start n c j 0 due))) l) (sym (all_push e (Out (Start n c j 0 due))))
      (known_next m (all_of e) (Out (Start n c j 0 due)) k (record { asks = λ is. absurd (false≢true is); answers = λ is. absurd (false≢true is); leaves = λ unshut. omega arith })))

-- What two lists say that have the same items of a connection, or of a child.
use Rattle.std.proofs.Common.{◌≡◌, ℕ, ◌+◌, Bool, true, false, List, [], ◌∷◌, refl, sym, ◌∙◌, ap, length}
use Rattle.std.specs.Prelude.{◌-◌, ◌||◌, ◌&&◌, not, if◌then◌else◌, filter, sum_by, nat_lt, nat_le}
use Rattle.std.specs.List.{list_any}
use Rattle.std.proofs.lemmas.Bool.{or_left, or_right, eq-eqb}
use Rattle.host_trace.specs.declared.items.Item.{Item}
use Rattle.host_trace.specs.First.{since, last_of}
use Rattle.host_trace.specs.Kinds.{names, names_child, is_shut, is_upgrade, is_client_answer, is_want_client, bytes_heard, bytes_written, texts_said, texts_heard, count_wrote, child_started, is_start, is_start_answer, is_started, is_output_end, is_input_end, is_exited, is_child_answer, is_want_child, input_fed, output_heard, count_took, is_tick, tick_secs, is_stop}
use Rattle.host_trace.specs.declared.items.Event.TheVariants.{Tick}
use Rattle.host_trace.specs.declared.items.Item.TheVariants.{In}
use Rattle.host_trace.specs.Projections.{own, children, shut, upgraded, client_wanted, said_len, wrote_sum, sent_of_phase, left_of_phase, pending, started, exited, input_ended, stopped}
use Rattle.host_trace.specs.Account.{settled, is_refusal}
use Rattle.host_trace.specs.Fits.{is_asked, is_asked_upgraded, may_leave, is_start_open, is_output_asked, may_take}
use Rattle.own_traces.specs.Whose.{has}
use Rattle.own_traces.specs.Between.{Between}
use Rattle.own_traces.specs.OwnLaws.{Says}
use Rattle.own_traces.proofs.KeptLaws.{any-kept, flat-kept, count-kept, sum-kept, since-filter}
use Rattle.own_traces.proofs.NameLaws.{shut_names, child_started_names, heard_names, text_names, upgrade_names, want_names, answer_names, written_names, said_names, wrote_names, start_names, start_answer_names, started_names, child_answer_names, want_child_names, fed_names, took_names, exit_names, input_names, output_names, refusal_names, output_heard_names}

-- ---- of a connection

module _ (c : ℕ) (L T : List Item) (e : filter (names c) L ≡ filter (names c) T) where
  pub same-shut : shut L c ≡ shut T c
  same-shut = any-kept (is_shut c) (names c) (shut_names c) L T e

  pub same-upgraded : upgraded L c ≡ upgraded T c
  same-upgraded = any-kept (is_upgrade c) (names c) (upgrade_names c) L T e

  pub same-wanted : client_wanted L c ≡ client_wanted T c
  same-wanted = (λ i. nat_lt (count-kept (is_client_answer c) (names c) (answer_names c) L T e i) (count-kept (is_want_client c) (names c) (want_names c) L T e i))

  pub same-asked : is_asked L c ≡ is_asked T c
  same-asked = (λ i. not (same-shut i) && not (same-upgraded i) && same-wanted i)

  pub same-asked_upgraded : is_asked_upgraded L c ≡ is_asked_upgraded T c
  same-asked_upgraded = (λ i. not (same-shut i) && same-upgraded i && same-wanted i)

  pub since_same : filter (names c) (since (is_upgrade c) L) ≡ filter (names c) (since (is_upgrade c) T)
  since_same = since-filter (is_upgrade c) (names c) (upgrade_names c) L ∙ (ap (since (is_upgrade c)) e ∙ sym (since-filter (is_upgrade c) (names c) (upgrade_names c) T))

  pub same-said : (V W : List Item) → filter (names c) V ≡ filter (names c) W → said_len V c ≡ said_len W c
  same-said V W f = ap (λ l. sum_by length l) (flat-kept (texts_said c) (names c) (said_names c) V W f)

  pub same-wrote : (V W : List Item) → filter (names c) V ≡ filter (names c) W → wrote_sum V c ≡ wrote_sum W c
  same-wrote V W f = sum-kept (count_wrote c) (names c) (wrote_names c) V W f

  pub same-sent : sent_of_phase L c ≡ sent_of_phase T c
  same-sent = (λ i. if same-upgraded i then same-said (since (is_upgrade c) L) (since (is_upgrade c) T) since_same i else length (flat-kept (bytes_written c) (names c) (written_names c) L T e i))

  pub same-left : left_of_phase L c ≡ left_of_phase T c
  same-left = (λ i. if same-upgraded i then same-wrote (since (is_upgrade c) L) (since (is_upgrade c) T) since_same i else same-wrote L T e i)

  pub same-leave : (n : ℕ) → may_leave L c n ≡ may_leave T c n
  same-leave n = (λ i. not (same-shut i) && nat_le 1 n && nat_le (same-left i + n) (same-sent i))

  pub same-pending : pending L c ≡ pending T c
  same-pending = (λ i. if same-shut i then 0 else same-sent i - same-left i)

-- ---- .. and of a child

module _ (k : ℕ) (L T : List Item) (e : filter (names_child k) L ≡ filter (names_child k) T) where
  pub same-started : started L k ≡ started T k
  same-started = any-kept (is_started k) (names_child k) (started_names k) L T e

  pub same-open : is_start_open L k ≡ is_start_open T k
  same-open = (λ i. any-kept (is_start k) (names_child k) (start_names k) L T e i && not (any-kept (is_start_answer k) (names_child k) (start_answer_names k) L T e i))

  pub same-output : is_output_asked L k ≡ is_output_asked T k
  same-output = (λ i. same-started i && not (any-kept (is_output_end k) (names_child k) (output_names k) L T e i)
      && nat_lt (count-kept (is_child_answer k) (names_child k) (child_answer_names k) L T e i) (count-kept (is_want_child k) (names_child k) (want_child_names k) L T e i))

  pub same-take : (n : ℕ) → may_take L k n ≡ may_take T k n
  same-take n = (λ i. same-started i && nat_le 1 n && nat_le (sum-kept (count_took k) (names_child k) (took_names k) L T e i + n) (length (flat-kept (input_fed k) (names_child k) (fed_names k) L T e i)))

  pub same-input : (started L k && not (input_ended L k)) ≡ (started T k && not (input_ended T k))
  same-input = (λ i. same-started i && not (any-kept (is_input_end k) (names_child k) (input_names k) L T e i))

  pub same-exited : (started L k && not (exited L k)) ≡ (started T k && not (exited T k))
  same-exited = (λ i. same-started i && not (any-kept (is_exited k) (names_child k) (exit_names k) L T e i))

  pub same-settled : settled L k ≡ settled T k
  same-settled = (λ i. any-kept (is_refusal k) (names_child k) (refusal_names k) L T e i
      || any-kept (is_exited k) (names_child k) (exit_names k) L T e i
      && any-kept (is_input_end k) (names_child k) (input_names k) L T e i
      && any-kept (is_output_end k) (names_child k) (output_names k) L T e i)

-- ---- a list of a connection and the whole trace

tick_names : (x : Item) → is_tick x ≡ false → tick_secs x ≡ []
tick_names (In (Tick secs)) e = absurd (cc)
tick_names _ e = refl

-- two tests that agree on each of these numbers
any-same : (p q : ℕ → Bool) (ks : List ℕ) → ((k : ℕ) → has ks k ≡ true → p k ≡ q k) → list_any p ks ≡ list_any q ks
any-same p q [] same = refl
any-same p q (k ∷ ks) same =
    ap (λ b. b || list_any p ks) (same k (or_left _ _ (eq-eqb k k refl)))
    ∙ ap (λ b. q k || b) (any-same p q ks (λ j h. same j (or_right _ _ h)))

pub children-own : (T : List Item) (c : ℕ) → Between T → children (own T c) c ≡ children T c
children-own T c b = flat-kept (child_started c) (names c) (child_started_names c) (own T c) T (b.conns c)

pub stopped-own : (T : List Item) (c : ℕ) → Between T → stopped (own T c) ≡ stopped T
stopped-own T c b = any-kept is_stop is_stop (λ x e. e) (own T c) T (b.stops c)

pub shut-own : (T : List Item) (c : ℕ) → Between T → shut (own T c) c ≡ shut T c
shut-own T c b = same-shut c (own T c) T (b.conns c)

pub settled-own : (T : List Item) (c k : ℕ) → Between T → has (children T c) k ≡ true → settled (own T c) k ≡ settled T k
settled-own T c k b h = same-settled k (own T c) T (b.kids c k h)

pub says : (T : List Item) (c : ℕ) → Between T → Says T c
says T c b = record {
  clock = ap last_of (flat-kept tick_secs is_tick tick_names (own T c) T (b.ticks c));
  stopped_then = stopped-own T c b;
  shut_then = shut-own T c b;
  upgraded_then = same-upgraded c (own T c) T (b.conns c);
  client_sent = flat-kept (bytes_heard c) (names c) (heard_names c) (own T c) T (b.conns c);
  client_got = flat-kept (bytes_written c) (names c) (written_names c) (own T c) T (b.conns c);
  texts_said = flat-kept (texts_said c) (names c) (said_names c) (own T c) T (b.conns c);
  texts_heard = flat-kept (texts_heard c) (names c) (text_names c) (own T c) T (b.conns c);
  waits = same-pending c (own T c) T (b.conns c);
  starts = children-own T c b;
  unsettled =
      ap (list_any (λ k. not (settled (own T c) k))) (children-own T c b)
      ∙ any-same (λ k. not (settled (own T c) k)) (λ k. not (settled T k)) (children T c) (λ k h. ap not (settled-own T c k b h));
  kid_settled = λ k h. settled-own T c k b h;
  kid_in = λ k h. flat-kept (input_fed k) (names_child k) (fed_names k) (own T c) T (b.kids c k h);
  kid_out = λ k h. flat-kept (output_heard k) (names_child k) (output_heard_names k) (own T c) T (b.kids c k h);
}

-- An item of each kind names its connection or its child.
use Rattle.std.proofs.Common.{◌≡◌, ℕ, false, [], refl, ap}
use Rattle.std.specs.Prelude.{◌||◌}
use Rattle.std.proofs.lemmas.Bool.{or_from, cond-false}
use Rattle.host_trace.specs.declared.items.Event.TheVariants.{ClientBytes, ClientEof, Wrote, Started, StartFailed, StartFull, ChildBytes, ChildEof, ChildBroken, Took, InputGone, Exited, WsText, WsBinary, WsClosed, WsBad}
use Rattle.host_trace.specs.declared.items.Act.TheVariants.{WantClient, Write, Start, Feed, WantChild, Upgrade, Says, Shut, EndInput, Release}
use Rattle.host_trace.specs.declared.items.Item.{Item}
use Rattle.host_trace.specs.declared.items.Item.TheVariants.{In, Out}
use Rattle.host_trace.specs.Kinds.{names, names_child, is_shut, is_upgrade, is_client_answer, is_want_client, bytes_heard, bytes_written, texts_said, texts_heard, count_wrote, child_started, is_start, is_start_answer, is_started, is_output_end, is_input_end, is_exited, is_child_answer, is_want_child, input_fed, output_heard, count_took}
use Rattle.host_trace.specs.Account.{is_refusal}

-- ---- of a connection

pub shut_names : (c : ℕ) (x : Item) → names c x ≡ false → is_shut c x ≡ false
shut_names c (Out (Shut d why)) e = e
shut_names c _ e = refl

pub child_started_names : (c : ℕ) (x : Item) → names c x ≡ false → child_started c x ≡ []
child_started_names c (Out (Start k d j hop launch)) e = cond-false _ _ _ e
child_started_names c _ e = refl

pub heard_names : (c : ℕ) (x : Item) → names c x ≡ false → bytes_heard c x ≡ []
heard_names c (In (ClientBytes d bytes)) e = cond-false _ _ _ e
heard_names c _ e = refl

pub text_names : (c : ℕ) (x : Item) → names c x ≡ false → texts_heard c x ≡ []
text_names c (In (WsText d bytes)) e = cond-false _ _ _ e
text_names c _ e = refl

pub upgrade_names : (c : ℕ) (x : Item) → names c x ≡ false → is_upgrade c x ≡ false
upgrade_names c (Out (Upgrade d rest)) e = e
upgrade_names c _ e = refl

pub want_names : (c : ℕ) (x : Item) → names c x ≡ false → is_want_client c x ≡ false
want_names c (Out (WantClient d)) e = e
want_names c _ e = refl

pub answer_names : (c : ℕ) (x : Item) → names c x ≡ false → is_client_answer c x ≡ false
answer_names c (In (ClientBytes d bytes)) e = ap (λ b. b || false || false || false || false || false) e
answer_names c (In (ClientEof d)) e = ap (λ b. b || false || false || false || false) e
answer_names c (In (WsText d bytes)) e = ap (λ b. b || false || false || false) e
answer_names c (In (WsBinary d)) e = ap (λ b. b || false || false) e
answer_names c (In (WsClosed d)) e = ap (λ b. b || false) e
answer_names c (In (WsBad d)) e = e
answer_names c _ e = refl

pub written_names : (c : ℕ) (x : Item) → names c x ≡ false → bytes_written c x ≡ []
written_names c (Out (Write d bytes)) e = cond-false _ _ _ e
written_names c _ e = refl

pub said_names : (c : ℕ) (x : Item) → names c x ≡ false → texts_said c x ≡ []
said_names c (Out (Says d texts)) e = cond-false _ _ _ e
said_names c _ e = refl

pub wrote_names : (c : ℕ) (x : Item) → names c x ≡ false → count_wrote c x ≡ 0
wrote_names c (In (Wrote d n)) e = cond-false _ _ _ e
wrote_names c _ e = refl

pub start_names : (k : ℕ) (x : Item) → names_child k x ≡ false → is_start k x ≡ false
start_names k (Out (Start d c j hop launch)) e = e
start_names k _ e = refl

pub start_answer_names : (k : ℕ) (x : Item) → names_child k x ≡ false → is_start_answer k x ≡ false
start_answer_names k (In (Started d)) e = ap (λ b. b || false || false) e
start_answer_names k (In (StartFailed d)) e = ap (λ b. b || false) e
start_answer_names k (In (StartFull d seen)) e = e
start_answer_names k _ e = refl

pub started_names : (k : ℕ) (x : Item) → names_child k x ≡ false → is_started k x ≡ false
started_names k (In (Started d)) e = e
started_names k _ e = refl

pub child_answer_names : (k : ℕ) (x : Item) → names_child k x ≡ false → is_child_answer k x ≡ false
child_answer_names k (In (ChildBytes d bytes)) e = ap (λ b. b || false || false) e
child_answer_names k (In (ChildEof d)) e = ap (λ b. b || false) e
child_answer_names k (In (ChildBroken d)) e = e
child_answer_names k _ e = refl

pub want_child_names : (k : ℕ) (x : Item) → names_child k x ≡ false → is_want_child k x ≡ false
want_child_names k (Out (WantChild d)) e = e
want_child_names k _ e = refl

pub fed_names : (k : ℕ) (x : Item) → names_child k x ≡ false → input_fed k x ≡ []
fed_names k (Out (Feed d bytes)) e = cond-false _ _ _ e
fed_names k _ e = refl

pub took_names : (k : ℕ) (x : Item) → names_child k x ≡ false → count_took k x ≡ 0
took_names k (In (Took d n)) e = cond-false _ _ _ e
took_names k _ e = refl

-- ---- the end of a child

pub refusal_names : (k : ℕ) (x : Item) → names_child k x ≡ false → is_refusal k x ≡ false
refusal_names k (In (StartFailed d)) e = or_from _ _ e refl
refusal_names k (In (StartFull d seen)) e = e
refusal_names k _ e = refl

pub exit_names : (k : ℕ) (x : Item) → names_child k x ≡ false → is_exited k x ≡ false
exit_names k (In (Exited d)) e = e
exit_names k _ e = refl

pub input_names : (k : ℕ) (x : Item) → names_child k x ≡ false → is_input_end k x ≡ false
input_names k (In (InputGone d)) e = e
input_names k (Out (EndInput d)) e = or_from _ _ e refl
input_names k _ e = refl

pub output_names : (k : ℕ) (x : Item) → names_child k x ≡ false → is_output_end k x ≡ false
output_names k (In (ChildEof d)) e = or_from _ _ (or_from _ _ e refl) refl
output_names k (In (ChildBroken d)) e = or_from _ _ e refl
output_names k (Out (Release d)) e = e
output_names k _ e = refl

pub output_heard_names : (k : ℕ) (x : Item) → names_child k x ≡ false → output_heard k x ≡ []
output_heard_names k (In (ChildBytes d bytes)) e = cond-false _ _ _ e
output_heard_names k _ e = refl

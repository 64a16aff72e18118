-- The phrases and the host's own replies are plain.
use Rattle.std.proofs.Common.{◌≡◌, ℕ, ◌≤◌, true, List, [], ◌∷◌, refl, arith, codes}
use Rattle.std.specs.Prelude.{false, All, ◌==◌, if◌then◌else◌}
use Rattle.std.specs.List.{list_all}
use Rattle.std.proofs.lemmas.Bool.{and_parts}
use Rattle.std.proofs.lemmas.List.Elements.{All-append, All-cons, All-nil}
use Rattle.std.proofs.lemmas.List.Sums.{AllPass-from_list_all}
use Rattle.httparse.specs.Grammar.{is_token_byte, is_value_byte, trim_ows}
use Rattle.host_base.specs.declared.cause.Cause.{Cause}
use Rattle.host_base.specs.declared.cause.Cause.TheVariants.{BadHead, UpgradeNeeded}
use Rattle.host_base.specs.declared.fields.Field.{Field}
use Rattle.host_base.specs.CauseText.{status_of}
use Rattle.reply_writer.specs.FaultReply.{upgrade_fields}
use Rattle.reply_writer.specs.Phrases.{Reason, phrase_in, phrase_of, phrases}
use Rattle.reply_writer.specs.ReadBack.{FaultsArePlain, IsPlainField, PhrasesArePlain}
use Rattle.reply_writer.specs.Spelling.{named_field}
use Rattle.reply_writer.proofs.ReadBackLaws.{plain_by_tests}

-- `_` stands for every other cause
status_has_three_digits : (cause : Cause) → (100 ≤ status_of cause) × (status_of cause ≤ 999)
status_has_three_digits BadHead = (omega arith, omega arith)
status_has_three_digits _ = (omega arith, omega arith)

phrase_in_passes : (reasons : List Reason) (code : ℕ) → list_all (λ r. list_all is_value_byte r.phrase) reasons ≡ true
    → list_all is_value_byte (phrase_in reasons code) ≡ true
phrase_in_passes [] code all = refl
phrase_in_passes (r ∷ reasons) code all =
    let both = and_parts (list_all is_value_byte r.phrase) (list_all (λ q. list_all is_value_byte q.phrase) reasons) all in
    elim (code == r.code) as (λ t. list_all is_value_byte (if t then r.phrase else phrase_in reasons code) ≡ true)
    [ true ↦ both.0 | false ↦ phrase_in_passes reasons code both.1 ]

pub phrases_are_plain : PhrasesArePlain
phrases_are_plain code = AllPass-from_list_all is_value_byte (phrase_of code) (phrase_in_passes phrases code refl)

abbrev text_fields : List Field
text_fields = named_field (codes "Content-Type") (codes "text/plain") ∷ []

text_is_plain : All IsPlainField text_fields
unfolding is_token_byte trim_ows
text_is_plain =
    All-cons IsPlainField _ [] (plain_by_tests (codes "Content-Type") (codes "text/plain") refl refl refl) (All-nil IsPlainField)

abbrev connection : Field
connection = named_field (codes "Connection") (codes "Upgrade")

abbrev version : Field
version = named_field (codes "Sec-WebSocket-Version") (codes "13")

upgrade_is_plain : (cause : Cause) → All IsPlainField (upgrade_fields cause)
unfolding is_token_byte trim_ows
upgrade_is_plain UpgradeNeeded =
    All-cons IsPlainField (named_field (codes "Upgrade") (codes "websocket")) (connection ∷ version ∷ [])
    (plain_by_tests (codes "Upgrade") (codes "websocket") refl refl refl)
    (All-cons IsPlainField connection (version ∷ [])
    (plain_by_tests (codes "Connection") (codes "Upgrade") refl refl refl)
    (All-cons IsPlainField version []
    (plain_by_tests (codes "Sec-WebSocket-Version") (codes "13") refl refl refl) (All-nil IsPlainField)))
upgrade_is_plain _ = All-nil IsPlainField

pub faults_are_plain : FaultsArePlain
faults_are_plain cause = record {
  least = (status_has_three_digits cause).0;
  greatest = (status_has_three_digits cause).1;
  phrase = phrases_are_plain (status_of cause);
  fields = All-append IsPlainField (upgrade_fields cause) text_fields (upgrade_is_plain cause) text_is_plain;
}

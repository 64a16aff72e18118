-- The turns go on item by item, and what is due is whole records.
use Rattle.std.proofs.Common.{ℕ, zero, suc, List, [], ◌∷◌, ◌++◌, length, take, drop, sym, ap, ◌∙◌, refl}
use Rattle.std.specs.List.{flat_map}
use Rattle.std.proofs.lemmas.List.{append-nil}
use Rattle.std.proofs.lemmas.Grind.{flat_map-append, fold-append}
use Rattle.fcgi_records.specs.declared.kinds.TheConstants.{END_REQUEST, STDOUT}
use Rattle.fcgi_records.specs.Records.{record_of, record_bytes}
use Rattle.fcgi_records.specs.RecordLaws.{text_of}
use Rattle.fcgi_turns.specs.Texts.{complete, end_content, end_record, stdout_by, answer_records}
use Rattle.fcgi_turns.specs.Due.{Due, answered, ended, given_up, refused, replied, due_bytes, all_bytes}
use Rattle.fcgi_turns.specs.Turns.{no_turns, next_turns, turns_of}
use Rattle.fcgi_turns.specs.TurnLaws.{AreRecords, TurnsGoOn, RecordsAreDue}

pub turns_go_on : TurnsGoOn
turns_go_on site c L x = fold-append (next_turns site c) no_turns L (x ∷ [])

-- ---- records one after another

none : AreRecords []
none = record { records = []; are = refl }

one : (kind id : ℕ) (content : List ℕ) → AreRecords (record_bytes kind id content)
one kind id content = record { records = record_of kind id content ∷ []; are = sym (append-nil (record_bytes kind id content)) }

both : (front back : List ℕ) → AreRecords front → AreRecords back → AreRecords (front ++ back)
both front back a b = record {
  records = a.records ++ b.records;
  are = ap (λ bytes. bytes ++ back) a.are ∙ ap (λ bytes. flat_map text_of a.records ++ bytes) b.are ∙ sym (flat_map-append text_of a.records b.records);
}

output_is : (most id : ℕ) (bytes : List ℕ) → AreRecords (stdout_by most id bytes)
output_is most id [] = none
output_is zero id (byte ∷ bytes) = none
output_is (suc most) id (byte ∷ bytes) =
    both (record_bytes STDOUT id (take 65535 (byte ∷ bytes))) (stdout_by most id (drop 65535 (byte ∷ bytes))) (one STDOUT id (take 65535 (byte ∷ bytes))) (output_is most id (drop 65535 (byte ∷ bytes)))

end_is : (id state : ℕ) → AreRecords (end_record id state)
end_is id state = one END_REQUEST id (end_content state)

answer_is : (id : ℕ) (bytes : List ℕ) → AreRecords (answer_records id bytes)
answer_is id bytes =
    both (stdout_by (length bytes) id bytes ++ record_bytes STDOUT id []) (end_record id complete)
    (both (stdout_by (length bytes) id bytes) (record_bytes STDOUT id []) (output_is (length bytes) id bytes) (one STDOUT id []))
    (end_is id complete)

due_is : (due : Due) → AreRecords (due_bytes due)
due_is (answered id bytes) = answer_is id bytes
due_is (ended id state) = end_is id state
due_is (given_up id) = none
due_is (refused id state) = end_is id state
due_is (replied kind content) = one kind 0 content

dues_are : (dues : List Due) → AreRecords (all_bytes dues)
dues_are [] = none
dues_are (due ∷ dues) = both (due_bytes due) (all_bytes dues) (due_is due) (dues_are dues)

pub records_are_due : RecordsAreDue
records_are_due site c L = dues_are (turns_of site c L).due

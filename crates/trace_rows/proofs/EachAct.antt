-- Each act of a good trace is needed, once, and in its order: each list with one act left out, with one twice, or with
-- two neighbouring ones exchanged breaks a rule.
use Rattle.std.proofs.Common.{◌≡◌, ℕ, Bool, true, false, List, [], ◌∷◌, refl}
use Rattle.std.specs.Prelude.{drop, filter, map, take}
use Rattle.host_base.specs.declared.site.Site.{Site}
use Rattle.host_trace.specs.declared.items.Item.{Item}
use Rattle.host_trace.specs.declared.items.Item.TheVariants.{In, Out}
use Rattle.trace_model.specs.Verdict.{broken_by}
use Rattle.trace_rows.proofs.OnLiterals.{on_literals}
use Rattle.trace_rows.proofs.OnDates.{on_dates}
use Rattle.trace_rows.proofs.OnTalks.{on_talks}
use Rattle.trace_rows.proofs.Site.{site}
use Rattle.trace_rows.proofs.RowsOfReplies as replies
use Rattle.trace_rows.proofs.RowsOfStreams as streams
use Rattle.trace_rows.proofs.RowsOfBodies as bodies
use Rattle.trace_rows.proofs.RowsOfMany as many
use Rattle.trace_rows.proofs.RowsOfTalks as talks

abbrev onto : Item → List Item → List Item
onto x items = x ∷ items

-- the lists with one act left out
abbrev left_out : List Item → List (List Item)
left_out [] = []
left_out (In event ∷ items) = map (onto (In event)) (left_out items)
left_out (Out act ∷ items) = items ∷ map (onto (Out act)) (left_out items)

-- .. with one act twice
abbrev doubled : List Item → List (List Item)
doubled [] = []
doubled (In event ∷ items) = map (onto (In event)) (doubled items)
doubled (Out act ∷ items) = (Out act ∷ Out act ∷ items) ∷ map (onto (Out act)) (doubled items)

-- .. with two neighbouring acts exchanged
abbrev exchanged : List Item → List (List Item)
exchanged [] = []
exchanged (In event ∷ items) = map (onto (In event)) (exchanged items)
exchanged (Out act ∷ []) = []
exchanged (Out act ∷ In event ∷ items) = map (onto (Out act)) (exchanged (In event ∷ items))
exchanged (Out act ∷ Out next ∷ items) = (Out next ∷ Out act ∷ items) ∷ map (onto (Out act)) (exchanged (Out next ∷ items))

abbrev is_nil : List (List ℕ) → Bool
is_nil [] = true
is_nil (x ∷ rest) = false

abbrev is_good : Site → List Item → Bool
is_good site items = is_nil (broken_by site items)

abbrev good_ones : Site → List (List Item) → List (List Item)
good_ones site lists = filter (is_good site) lists

first_row_left_out : good_ones site (left_out replies.first_row) ≡ []
unfolding on_literals
first_row_left_out = refl

first_row_doubled : good_ones site (doubled replies.first_row) ≡ []
unfolding on_literals
first_row_doubled = refl

first_row_exchanged : good_ones site (exchanged replies.first_row) ≡ []
unfolding on_literals
first_row_exchanged = refl

two_pipelined_left_out : good_ones site (left_out replies.two_pipelined) ≡ []
unfolding on_literals
two_pipelined_left_out = refl

two_pipelined_doubled : good_ones site (doubled replies.two_pipelined) ≡ []
unfolding on_literals
two_pipelined_doubled = refl

two_pipelined_exchanged : good_ones site (exchanged replies.two_pipelined) ≡ []
unfolding on_literals
two_pipelined_exchanged = refl

redirected_left_out : good_ones site (left_out replies.redirected) ≡ []
unfolding on_literals
redirected_left_out = refl

redirected_doubled : good_ones site (doubled replies.redirected) ≡ []
unfolding on_literals
redirected_doubled = refl

redirected_exchanged : good_ones site (exchanged replies.redirected) ≡ []
unfolding on_literals
redirected_exchanged = refl

streamed_and_broken_left_out : good_ones site (left_out streams.streamed_and_broken) ≡ []
unfolding on_dates
streamed_and_broken_left_out = refl

streamed_and_broken_doubled : good_ones site (doubled streams.streamed_and_broken) ≡ []
unfolding on_dates
streamed_and_broken_doubled = refl

streamed_and_broken_exchanged : good_ones site (exchanged streams.streamed_and_broken) ≡ []
unfolding on_dates
streamed_and_broken_exchanged = refl

continued_left_out : good_ones site (left_out bodies.continued) ≡ []
unfolding on_literals
continued_left_out = refl

continued_doubled : good_ones site (doubled bodies.continued) ≡ []
unfolding on_literals
continued_doubled = refl

continued_exchanged : good_ones site (exchanged bodies.continued) ≡ []
unfolding on_literals
continued_exchanged = refl

stop_ends_all_in_turn_left_out : good_ones site (left_out many.stop_ends_all_in_turn) ≡ []
unfolding on_literals
stop_ends_all_in_turn_left_out = refl

stop_ends_all_in_turn_doubled : good_ones site (doubled many.stop_ends_all_in_turn) ≡ []
unfolding on_literals
stop_ends_all_in_turn_doubled = refl

stop_ends_all_in_turn_exchanged : good_ones site (exchanged many.stop_ends_all_in_turn) ≡ []
unfolding on_literals
stop_ends_all_in_turn_exchanged = refl

talked_left_out : good_ones site (left_out talks.talked) ≡ []
unfolding on_talks
talked_left_out = refl

-- in two parts, as each computes for long
talked_doubled_first : good_ones site (take 7 (doubled talks.talked)) ≡ []
unfolding on_talks
talked_doubled_first = refl

talked_doubled_rest : good_ones site (drop 7 (doubled talks.talked)) ≡ []
unfolding on_talks
talked_doubled_rest = refl

talked_exchanged : good_ones site (exchanged talks.talked) ≡ []
unfolding on_talks
talked_exchanged = refl

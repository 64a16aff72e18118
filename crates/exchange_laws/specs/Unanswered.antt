-- An exchange of whose final answer nothing is written.
use Rattle.std.specs.Prelude.{ℕ, ◌≡◌, Bool, not, ◌&&◌, ◌||◌, List, [], None, if◌then◌else◌}
use Rattle.host_base.specs.declared.site.Site.{Site}
use Rattle.host_trace.specs.Projections.{shut}
use Rattle.request_reader.specs.Request.{Reading, Whole, More, Bad}
use Rattle.trace_model.specs.Exchange.{Exchange, continue_text, continues, reading, written}
use Rattle.trace_model.specs.Readings.{if_length, is_due}

-- it may be answered: no earlier answer closes the connection, which was not shut before
abbrev pub is_open : ℕ → Exchange → Bool
is_open c e = not e.closed && not (shut e.before c)

-- 100 Continue is to be written and isn't
abbrev pub is_awaited : Site → ℕ → Exchange → Bool
is_awaited site c e = is_open c e && is_due (reading site c e)

abbrev pub continued_text : Bool → List ℕ
continued_text continued = if continued then continue_text else []

-- Nothing is written but 100 Continue, where `continued` says so; and it was due before only if it is written.
pub record IsUnanswered (site : Site) (c : ℕ) (e : Exchange) (continued : Bool) : Type 0 where
  pub wrote_only : written c e ≡ continued_text continued
  pub continues_is : continues site c e ≡ (continued || is_awaited site c e)

-- all that was heard is a request for which no script may be started yet
abbrev pub IsUnready : Reading → Type 0
IsUnready (Whole request used due) = ⊥
IsUnready (More request due) = if_length request ≡ None
IsUnready (Bad cause bare) = ⊥

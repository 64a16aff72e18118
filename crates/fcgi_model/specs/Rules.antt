-- The rules on a step of a connection.
use Rattle.std.specs.Prelude.{ℕ, ◌-◌, Bool, true, not, ◌&&◌, ◌||◌, ◌==◌, nat_eq, List, [], ◌∷◌, length, find, option_map, unwrap_or, if◌then◌else◌, bytes_eq}
use Rattle.std.specs.List.{starts_with}
use Rattle.host_base.specs.declared.site.Site.{Site}
use Rattle.host_trace.specs.declared.items.Act.{Act}
use Rattle.host_trace.specs.declared.items.Act.TheVariants.{Start}
use Rattle.host_trace.specs.declared.items.Item.{Item}
use Rattle.host_trace.specs.declared.items.Why.TheVariants.{NoMemory}
use Rattle.host_trace.specs.Kinds.{is_want_client}
use Rattle.host_trace.specs.Projections.{client_out, client_wanted, shut, shut_for_memory, stopped}
use Rattle.host_trace.specs.Trace.{Step, end_of}
use Rattle.trace_child.specs.Run.{Run}
use Rattle.trace_child.specs.Words.{given, once}
use Rattle.trace_model.specs.Launches.{is_launch}
use Rattle.trace_model.specs.Shuts.{whys_given, whys_due, are_whys, is_turned_away}
use Rattle.trace_model.specs.Steps.{heard_of}
use Rattle.front_rules.specs.Acts.{each_act}
use Rattle.fcgi_turns.specs.Turns.{Begun, turns_of, out_of, run_with}
use Rattle.fcgi_model.specs.Demands.{launch_due, may_begin, must_begin, must_hear, why_due}

-- what is due stands; where memory was wanting, a front of it
abbrev pub replies : Site → ℕ → List Item → Bool
replies site c L =
    if shut_for_memory L c then starts_with nat_eq (out_of (turns_of site c L)) (client_out L c)
    else bytes_eq (client_out L c) (out_of (turns_of site c L))

-- for the active request, once it is whole, the earlier child is settled and there is room
abbrev pub is_right_start : Site → ℕ → List Item → Act → Bool
is_right_start site c L (Start k d j hop launch) =
    j == length (turns_of site c L).ids - 1 && hop == 0 && is_launch launch (launch_due site (turns_of site c L).active) && may_begin c L
    && not (stopped L)
is_right_start site c L _ = true

abbrev pub launches : Site → ℕ → Step → Bool
launches site c s = each_act (is_right_start site c) s

abbrev pub begins : Site → ℕ → List Item → Bool
begins site c L = not (must_begin site c L)

abbrev pub wants : ℕ → Step → Bool
wants c s = given (is_want_client c) s.acts == once (must_hear c (end_of s) && not (client_wanted (heard_of s) c))

abbrev pub shuts : Site → ℕ → Step → Bool
shuts site c s =
    let whys = whys_given c s.acts in
    if shut s.before c then are_whys whys []
    else are_whys whys (whys_due (why_due site c (end_of s))) || are_whys whys (NoMemory ∷ []) || is_turned_away s whys

-- ---- its children

abbrev pub is_of_child : ℕ → Begun → Bool
is_of_child k b = b.child == k

abbrev pub body_in : Begun → List ℕ
body_in b = b.body

-- the run of a child, with the body of the request for which it was started
abbrev pub run_of : Site → ℕ → List Item → ℕ → Run
run_of site c L k = run_with site c k (unwrap_or (option_map body_in (find (is_of_child k) (turns_of site c L).begun)) [])

-- the items as its run sees them
abbrev pub seen_of : Site → ℕ → List Item → List Item
seen_of site c L = (turns_of site c L).seen

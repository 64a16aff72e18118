-- The request of a connection, which speaks SCGI, and what is started for it. `L` are the items of the connection.
use Rattle.std.specs.Prelude.{ℕ, Bool, true, false, List, [], Option, Some, None, Result, Err}
use Rattle.host_base.specs.declared.cause.Cause.{Cause}
use Rattle.host_base.specs.declared.launch.Launch.{Launch}
use Rattle.host_base.specs.declared.site.ScriptKind.TheVariants.{Cgi}
use Rattle.host_base.specs.declared.site.Site.{Site}
use Rattle.host_trace.specs.declared.items.Item.{Item}
use Rattle.host_trace.specs.Projections.{client_in}
use Rattle.trace_child.specs.Run.{Run, Offer}
use Rattle.front_answers.specs.Answer.{is_some_byte}
use Rattle.meta_variables.specs.Gateway.{gateway_launch_of}
use Rattle.scgi_reader.specs.declared.reader.ScgiStep.{ScgiStep}
use Rattle.scgi_reader.specs.declared.reader.ScgiStep.TheVariants.{Whole, More, Bad}
use Rattle.scgi_reader.specs.Scgi.{scgi_of}

-- one request a connection: all that its client sent is read as one
abbrev pub reading : Site → ℕ → List Item → ScgiStep
reading site c L = scgi_of site.limits (client_in L c)

abbrev pub is_more : ScgiStep → Bool
is_more More = true
is_more (Whole request used) = false
is_more (Bad cause) = false

-- a byte of it was heard
abbrev pub is_begun : ℕ → List Item → Bool
is_begun c L = is_some_byte (client_in L c)

-- what is to be started for it, once it is whole, or the cause to refuse it; neither while more is to come
abbrev pub launch_of : Site → ScgiStep → Option (Result Launch Cause)
launch_of site More = None
launch_of site (Bad cause) = Some (Err cause)
launch_of site (Whole request used) = Some (gateway_launch_of site.hosts request.fields)

-- the body of the whole request is there for the child's input at once
abbrev pub body_of : ScgiStep → List ℕ
body_of More = []
body_of (Bad cause) = []
body_of (Whole request used) = request.body

abbrev pub offer_of : ScgiStep → Offer
offer_of step = record { body = body_of step; whole = true }

-- The run of its child, whose output is read as that of a plain script whatever the site says of it.
abbrev pub run_of : Site → ℕ → List Item → ℕ → Run
run_of site c L k = record { conn = c; child = k; kind = Cgi; limits = site.limits; offered = λ items. offer_of (reading site c L) }

use Rattle.talk_laws.proofs.HttpLaws.{acts_keep_http, events_keep_http, first_speaks_http, next_speaks_http}
use Rattle.talk_laws.proofs.laws.http_is_kept.Goals as goal

pub returns : goal.returns
returns c = record { first = first_speaks_http; events = events_keep_http; acts = acts_keep_http; next = next_speaks_http }

-- A reply is begun once more than 8,192 bytes of output were heard.
use Rattle.std.proofs.Common.{◌≡◌, ℕ, List, [], ◌∷◌, ◌++◌, refl}
use Rattle.std.specs.Prelude.{codes, replicate}
use Rattle.host_trace.specs.declared.items.Event.TheVariants.{Accepted, ClientBytes, Started, ChildBytes}
use Rattle.host_trace.specs.declared.items.Act.TheVariants.{WantClient, Write, Start, EndInput, WantChild}
use Rattle.host_trace.specs.declared.items.Item.{Item}
use Rattle.host_trace.specs.declared.items.Item.TheVariants.{In, Out}
use Rattle.trace_model.specs.Verdict.{broken_for}
use Rattle.trace_rows.proofs.OnLiterals.{on_literals}
use Rattle.trace_rows.proofs.Site.{site, peer, launch}

abbrev header : List ℕ
header = codes "Content-Type: text/plain\n\n"

abbrev before : List Item
before =
    In (Accepted peer) ∷ Out (WantClient 0)
    ∷ In (ClientBytes 0 (codes "GET /h HTTP/1.1\r\nHost: a\r\nConnection: close\r\n\r\n")) ∷ Out (Start 0 0 0 0 (launch (codes "/p") (codes "GET") (codes "/h")))
    ∷ In (Started 0) ∷ Out (EndInput 0) ∷ Out (WantChild 0) ∷ []

-- 26 bytes of header and 8,167 of body
abbrev long_output : List Item
long_output =
    before
    ++ In (ChildBytes 0 (header ++ replicate 8167 97))
    ∷ Out (Write 0 (codes "HTTP/1.1 200 OK\r\nContent-Type: text/plain\r\nTransfer-Encoding: chunked\r\nConnection: close\r\n\r\n1fe7\r\n" ++ replicate 8167 97 ++ codes "\r\n"))
    ∷ Out (WantChild 0) ∷ []

-- .. and 8,166
abbrev short_output : List Item
short_output = before ++ In (ChildBytes 0 (header ++ replicate 8166 97)) ∷ Out (WantChild 0) ∷ []

short_output_is_good : broken_for site 0 short_output ≡ []
unfolding on_literals
short_output_is_good = refl

long_output_is_good : broken_for site 0 long_output ≡ []
unfolding on_literals
long_output_is_good = refl

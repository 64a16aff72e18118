-- What the definitions say of small replies, by computation.
use Rattle.std.proofs.Common.{◌≡◌, ℕ, Bool, true, false, List, [], ◌∷◌, ◌++◌, Option, Some, None, refl, codes}
use Rattle.host_base.specs.declared.reply.Reply.{Reply}
use Rattle.host_base.specs.declared.request.Version.{Version}
use Rattle.host_base.specs.declared.request.Version.TheVariants.{V10, V11}
use Rattle.reply_writer.specs.Chunks.{chunk_text_of}
use Rattle.reply_writer.specs.CutReply.{cut_part}
use Rattle.reply_writer.specs.Dates.{date_text_of}
use Rattle.reply_writer.specs.Spelling.{named_field}
use Rattle.reply_writer.specs.WholeReply.{Way, is_spelling}
use Rattle.reply_writer.proofs.OnLiterals.{reply_writer_on_literals}

-- ---- dates (the second is the example of RFC 9110 5.6.7)

epoch : date_text_of 0 ≡ codes "Thu, 01 Jan 1970 00:00:00 GMT"
unfolding reply_writer_on_literals
epoch = refl

of_the_standard : date_text_of 784111777 ≡ codes "Sun, 06 Nov 1994 08:49:37 GMT"
unfolding reply_writer_on_literals
of_the_standard = refl

leap_day : date_text_of 951782400 ≡ codes "Tue, 29 Feb 2000 00:00:00 GMT"
unfolding reply_writer_on_literals
leap_day = refl

-- ---- whole replies and parts of them

abbrev said : ℕ → List ℕ → Reply
said status body = record {
  status = status;
  phrase = codes "OK";
  fields = named_field (codes "Content-Type") (codes "text/plain") ∷ [];
  body = body;
}

abbrev way : Version → Bool → Bool → Option ℕ → Bool → Way
way version head_only close stamp known =
    record { version = version; head_only = head_only; close = close; stamp = stamp; known = known }

abbrev head : List ℕ
head = codes "HTTP/1.1 200 OK\r\nContent-Type: text/plain\r\n"

by_length : is_spelling (head ++ codes "Content-Length: 3\r\n\r\nhi\n") (way V10 false false None true) (said 200 (codes "hi\n")) ≡ true
unfolding reply_writer_on_literals
by_length = refl

with_date : is_spelling (head ++ codes "Date: Sun, 06 Nov 1994 08:49:37 GMT\r\nContent-Length: 3\r\nConnection: close\r\n\r\nhi\n") (way V11 false true (Some 784111777) true) (said 200 (codes "hi\n")) ≡ true
unfolding reply_writer_on_literals
with_date = refl

in_two_chunks : is_spelling (head ++ codes "Transfer-Encoding: chunked\r\n\r\n2\r\nhi\r\n1\r\n\n\r\n0\r\n\r\n") (way V11 false false None false) (said 200 (codes "hi\n")) ≡ true
unfolding reply_writer_on_literals
in_two_chunks = refl

up_to_the_close : is_spelling (head ++ codes "Connection: close\r\n\r\nhi\n") (way V10 false true None false) (said 200 (codes "hi\n")) ≡ true
unfolding reply_writer_on_literals
up_to_the_close = refl

to_head : is_spelling (head ++ codes "\r\n") (way V11 true false None true) (said 200 (codes "hi\n")) ≡ true
unfolding reply_writer_on_literals
to_head = refl

without_end_mark : is_spelling (head ++ codes "Transfer-Encoding: chunked\r\n\r\n2\r\nhi\r\n1\r\n\n\r\n") (way V11 false false None false) (said 200 (codes "hi\n")) ≡ false
unfolding reply_writer_on_literals
without_end_mark = refl

chunks_for_old_version : is_spelling (head ++ codes "Transfer-Encoding: chunked\r\n\r\n0\r\n\r\n") (way V10 false false None false) (said 200 []) ≡ false
unfolding reply_writer_on_literals
chunks_for_old_version = refl

cut_in_chunks : cut_part (head ++ codes "Transfer-Encoding: chunked\r\n\r\n2\r\nhi\r\n") (way V11 false false None false) (said 200 (codes "hi\n")) ≡ Some (codes "hi")
unfolding reply_writer_on_literals
cut_in_chunks = refl

cut_in_a_chunk : cut_part (head ++ codes "Transfer-Encoding: chunked\r\n\r\n2\r\nhi\r") (way V11 false false None false) (said 200 (codes "hi\n")) ≡ None
unfolding reply_writer_on_literals
cut_in_a_chunk = refl

cut_after_the_end : cut_part (head ++ codes "Transfer-Encoding: chunked\r\n\r\n2\r\nhi\r\n0\r\n\r\n") (way V11 false false None false) (said 200 (codes "hi\n")) ≡ None
unfolding reply_writer_on_literals
cut_after_the_end = refl

sixteen : chunk_text_of (codes "0123456789abcdef") ≡ codes "10\r\n0123456789abcdef\r\n"
unfolding reply_writer_on_literals
sixteen = refl

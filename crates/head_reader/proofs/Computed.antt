-- Worked rows: what the definition of a head gives on literal bytes.
use Rattle.std.proofs.Common.{◌≡◌, ℕ, List, [], ◌∷◌, ◌++◌, codes, refl}
use Rattle.std.specs.Str.{is_utf8, chars}
use Rattle.httparse.proofs.OnLiterals.{httparse_on_literals}
use Rattle.host_base.specs.LimitRanges.{default_limits}
use Rattle.host_base.specs.declared.limits.Limits.{Limits}
use Rattle.host_base.specs.declared.request.Version.TheVariants.{V11}
use Rattle.host_base.specs.declared.cause.Cause.TheVariants.{TargetTooLong, BadHead, HeadTooLong}
use Rattle.head_reader.specs.declared.step.HeadStep.TheVariants.{Whole, More, Bad}
use Rattle.head_lines.specs.Lines.{front_of_parts}
use Rattle.head_reader.specs.RequestHead.{request_line_of_words, field_of, read_head}

abbrev limits : Limits
limits = record default_limits { head = 64; target = 8 }

line : List ℕ → List ℕ
line text = text ++ 13 ∷ 10 ∷ []

-- one CRLF before a head counts in the bytes that it took
whole : read_head limits (13 ∷ 10 ∷ [] ++ line (codes "GET /a HTTP/1.1") ++ (codes "Host:") ++ 10 ∷ [] ++ line (codes "X: b c ") ++ line [] ++ codes "body")
    ≡ Whole (record {
      method = codes "GET";
      target = codes "/a";
      version = V11;
      fields = record { name = codes "Host"; value = [] } ∷ record { name = codes "X"; value = codes "b c" } ∷ [];
    }) 36
unfolding read_head front_of_parts request_line_of_words field_of httparse_on_literals is_utf8 chars lib.Utf8.encode line
whole = refl

-- a second one is an empty line, which ends the head
blank : read_head limits (13 ∷ 10 ∷ 13 ∷ 10 ∷ codes "GET") ≡ Bad BadHead
unfolding read_head front_of_parts request_line_of_words field_of httparse_on_literals is_utf8 chars lib.Utf8.encode line
blank = refl

no_empty_line : read_head limits (line (codes "GET /a HTTP/1.1")) ≡ More
unfolding read_head front_of_parts request_line_of_words field_of httparse_on_literals is_utf8 chars lib.Utf8.encode line
no_empty_line = refl

long_target : read_head limits (line (codes "GET /12345678 HTTP/1.1") ++ line []) ≡ Bad TargetTooLong
unfolding read_head front_of_parts request_line_of_words field_of httparse_on_literals is_utf8 chars lib.Utf8.encode line
long_target = refl

old_version : read_head limits (line (codes "GET /a HTTP/0.9") ++ line []) ≡ Bad BadHead
unfolding read_head front_of_parts request_line_of_words field_of httparse_on_literals is_utf8 chars lib.Utf8.encode line
old_version = refl

-- the limit counts the empty line
long_head : read_head (record limits { head = 17 }) (line (codes "GET / HTTP/1.1") ++ line []) ≡ Bad HeadTooLong
unfolding read_head front_of_parts request_line_of_words field_of httparse_on_literals is_utf8 chars lib.Utf8.encode line
long_head = refl

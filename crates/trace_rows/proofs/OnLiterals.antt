-- What an answer unfolds to compute the definitions on a small trace.
use Rattle.std.specs.Prelude.{⊤}
use Rattle.std.specs.Str.{is_utf8, chars}
use Rattle.std.specs.Fmt.{digits}
use Rattle.httparse.proofs.OnLiterals.{httparse_on_literals}
use Rattle.percent_encoding.specs.Percent.{percent_decode}
use Rattle.head_lines.specs.Lines.{front_of_parts}
use Rattle.head_reader.specs.RequestHead.{request_line_of_words, field_of, read_head}
use Rattle.script_map.specs.Authority.{host_of_authority}
use Rattle.script_map.specs.DotSegments.{without_dot_segments}
use Rattle.script_map.specs.Targets.{host_named, place_of, asked_place, place_in}
use Rattle.script_map.specs.Mapping.{script_at, decoded_text}
use Rattle.script_map.specs.Hosts.{host_of_target}
use Rattle.body_framing.specs.Framing.{framing_of}
use Rattle.body_framing.specs.Chunked.{read_chunked, after}
use Rattle.request_reader.specs.Request.{read_request}
use Rattle.cgi_header.specs.ScriptHeader.{status_of, read_header}
use Rattle.reply_kinds.specs.Derived.{derived_of, is_header_whole, is_streamable}
use Rattle.ws_handshake.specs.Handshake.{is_key, accept_value, handshake}
use Rattle.line_messages.specs.Lines.{ended_lines, open_line, has_long_line}

unfoldable pub on_literals : ⊤
unfolding read_request read_head front_of_parts request_line_of_words field_of httparse_on_literals is_utf8 chars lib.Utf8.encode host_of_authority without_dot_segments host_named place_of asked_place place_in script_at decoded_text host_of_target framing_of read_chunked after status_of read_header derived_of is_header_whole is_streamable is_key accept_value handshake ended_lines open_line has_long_line digits percent_decode
on_literals = tt

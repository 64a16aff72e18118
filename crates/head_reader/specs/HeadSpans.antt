-- The field that the spans of a field line cover.
use Rattle.std.specs.Prelude.{ℕ, List}
use Rattle.httparse.specs.Spans.{span_bytes}
use Rattle.httparse.specs.declared.spans.HeaderSpan.{HeaderSpan}
use Rattle.host_base.specs.declared.fields.Field.{Field}

abbrev pub field_at : List ℕ → HeaderSpan → Field
field_at bytes span = record { name = span_bytes bytes span.name; value = span_bytes bytes span.value }

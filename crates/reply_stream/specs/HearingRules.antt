-- What holds of when a reply begins.
use Rattle.std.specs.Prelude.{◌≡◌, true, ◌↔◌, IsTrue, List, ◌∷◌, ◌++◌}
use Rattle.host_base.specs.declared.site.ScriptKind.{ScriptKind}
use Rattle.reply_kinds.specs.Derived.{is_header_whole}
use Rattle.reply_stream.specs.Hearing.{Told, tick, output_of, is_ticked, must_begin}

-- What had to begin still has to, whatever is told afterwards.
abbrev pub BeginningsStay : Type 0
BeginningsStay = (kind : ScriptKind) (told more : List Told) → must_begin kind told ≡ true → must_begin kind (told ++ more) ≡ true

-- a tick, and the header was whole before it
pub record HasTick (kind : ScriptKind) (told : List Told) : Type 0 where
  pub before : List Told
  pub after : List Told
  pub whole : told ≡ before ++ tick ∷ after
  pub header : IsTrue (is_header_whole kind (output_of before))

-- A tick counts exactly where the header was whole before it.
abbrev pub TicksCount : Type 0
TicksCount = (kind : ScriptKind) (told : List Told) → IsTrue (is_ticked kind told) ↔ HasTick kind told

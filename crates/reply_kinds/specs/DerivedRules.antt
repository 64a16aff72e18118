-- What a front of an output tells of the whole one.
use Rattle.std.specs.Prelude.{◌≡◌, ◌≢◌, ℕ, true, false, ◌==◌, if◌then◌else◌, List, [], ◌++◌}
use Rattle.host_base.specs.declared.reply.Reply.{Reply}
use Rattle.host_base.specs.declared.site.ScriptKind.{ScriptKind}
use Rattle.host_base.specs.declared.site.ScriptKind.TheVariants.{Cgi}
use Rattle.reply_kinds.specs.declared.derived.Derived.{Derived}
use Rattle.reply_kinds.specs.declared.derived.Derived.TheVariants as derived
use Rattle.cgi_header.specs.declared.header.HdrStep.TheVariants.{More}
use Rattle.cgi_header.specs.ScriptHeader.{read_header}
use Rattle.reply_writer.specs.ReadBack.{IsPlainReply}
use Rattle.reply_writer.specs.ReadEnd.{LeavesEnd}
use Rattle.reply_kinds.specs.Derived.{derived_of, is_header_whole, is_streamable}

-- a reply whose output went on, with its body so far
abbrev pub longer_reply : Reply → List ℕ → Reply
longer_reply reply more = record reply { body = if reply.status == 205 then [] else reply.body ++ more }

-- what is derived where the output of a reply that can begin goes on: nothing but the body grows
abbrev pub longer : Derived → List ℕ → Derived
longer (derived.Reply reply) more = derived.Reply (longer_reply reply more)
longer (derived.Raw bytes) more = derived.Raw (bytes ++ more)
longer (derived.Hop location) more = derived.Hop location
longer (derived.Bad cause) more = derived.Bad cause

-- it is a reply or raw bytes
abbrev pub IsBegun : Derived → Type 0
IsBegun (derived.Reply reply) = Unit {0}
IsBegun (derived.Raw bytes) = Unit {0}
IsBegun (derived.Hop location) = ⊥
IsBegun (derived.Bad cause) = ⊥

-- Where a reply can begin, the output so far derives it, and whatever follows it has the same status, phrase and
-- fields, and its body goes on from the body so far.
abbrev pub BegunGoesOn : Type 0
BegunGoesOn = (kind : ScriptKind) (output more : List ℕ) → is_streamable kind output ≡ true
    → IsBegun (derived_of kind output) × (derived_of kind (output ++ more) ≡ longer (derived_of kind output) more)
    × (is_streamable kind (output ++ more) ≡ true)

-- Where the header is whole or refused and no reply can begin, what is derived is known, and stays.
abbrev pub OthersStay : Type 0
OthersStay = (output more : List ℕ) → read_header output ≢ More → is_streamable Cgi output ≡ false
    → derived_of Cgi (output ++ more) ≡ derived_of Cgi output

-- A reply can begin only where the header is whole, and a header that is whole stays so.
abbrev pub HeadersComeFirst : Type 0
HeadersComeFirst = (kind : ScriptKind) (output more : List ℕ)
    → (is_streamable kind output ≡ true → is_header_whole kind output ≡ true)
    × (is_header_whole kind output ≡ true → is_header_whole kind (output ++ more) ≡ true)

-- A reply that an output derives has a status line and fields that a client reads back as they are (RFC 9112 4 and 5),
-- and leaves to the writer where it ends and whether the connection does (RFC 9112 6.3 and 9.6).
abbrev pub RepliesAreFit : Type 0
RepliesAreFit = (output : List ℕ) (reply : Reply) → derived_of Cgi output ≡ derived.Reply reply
    → IsPlainReply reply × LeavesEnd reply

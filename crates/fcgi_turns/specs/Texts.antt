-- What is written to a web server: records, each whole and with no padding.
use Rattle.std.specs.Prelude.{ℕ, zero, suc, List, [], ◌∷◌, ◌++◌, length, take, drop, codes, decimal, bytes_eq, Option, Some, None, if◌then◌else◌}
use Rattle.std.specs.List.{flat_map}
use Rattle.host_base.specs.declared.fields.Field.{Field}
use Rattle.host_base.specs.declared.limits.Limits.{Limits}
use Rattle.fcgi_records.specs.declared.kinds.TheConstants.{END_REQUEST, STDOUT}
use Rattle.fcgi_records.specs.Records.{record_bytes}

-- ---- END (FastCGI 1.0, 5.5)

-- the states of the protocol
abbrev pub complete : ℕ
complete = 0

abbrev pub cant_multiplex : ℕ
cant_multiplex = 1

abbrev pub overloaded : ℕ
overloaded = 2

abbrev pub unknown_role : ℕ
unknown_role = 3

-- the status of the application, which is 0, in four bytes; the state; and three bytes that are reserved
abbrev pub end_content : ℕ → List ℕ
end_content state = 0 ∷ 0 ∷ 0 ∷ 0 ∷ state ∷ 0 ∷ 0 ∷ 0 ∷ []

abbrev pub end_record : ℕ → ℕ → List ℕ
end_record id state = record_bytes END_REQUEST id (end_content state)

-- ---- an answer (FastCGI 1.0, 6.2)

-- bytes as records of STDOUT, each as long as may be, for at most so many
abbrev pub stdout_by : ℕ → ℕ → List ℕ → List ℕ
stdout_by most id [] = []
stdout_by zero id (byte ∷ bytes) = []
stdout_by (suc most) id (byte ∷ bytes) = record_bytes STDOUT id (take 65535 (byte ∷ bytes)) ++ stdout_by most id (drop 65535 (byte ∷ bytes))

-- the bytes, the end of STDOUT, and END
abbrev pub answer_records : ℕ → List ℕ → List ℕ
answer_records id bytes = stdout_by (length bytes) id bytes ++ record_bytes STDOUT id [] ++ end_record id complete

-- ---- what a web server may ask (FastCGI 1.0, 4)

-- a type that isn't served
abbrev pub unknown_content : ℕ → List ℕ
unknown_content kind = kind ∷ 0 ∷ 0 ∷ 0 ∷ 0 ∷ 0 ∷ 0 ∷ 0 ∷ []

-- a pair whose lengths are below 128
abbrev pub pair_bytes : List ℕ → List ℕ → List ℕ
pair_bytes name value = length name ∷ length value ∷ name ++ value

-- as many connections and requests as may be, and one request at a time on each
abbrev pub value_known : Limits → List ℕ → Option ℕ
value_known limits name =
    if bytes_eq name (codes "FCGI_MAX_CONNS") then Some limits.connections
    else (if bytes_eq name (codes "FCGI_MAX_REQS") then Some limits.connections
    else (if bytes_eq name (codes "FCGI_MPXS_CONNS") then Some 0 else None))

abbrev pub value_bytes : List ℕ → Option ℕ → List ℕ
value_bytes name None = []
value_bytes name (Some value) = pair_bytes name (decimal value)

-- a name that isn't known is left out
abbrev pub value_asked : Limits → Field → List ℕ
value_asked limits f = value_bytes f.name (value_known limits f.name)

abbrev pub values_content : Limits → List Field → List ℕ
values_content limits asked = flat_map (value_asked limits) asked

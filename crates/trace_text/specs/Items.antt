-- What the values of an item's type are: numbers of so many bits, bytes, and texts in UTF-8.
use Rattle.std.specs.Prelude.{ℕ, ◌<◌, ◌^◌, List, length, All}
use Rattle.std.specs.Str.{IsUtf8}
use Rattle.host_base.specs.declared.cause.Cause.{Cause}
use Rattle.host_base.specs.declared.cause.Cause.TheVariants as cause
use Rattle.host_base.specs.declared.launch.Launch.{Launch}
use Rattle.host_base.specs.declared.launch.Pair.{Pair}
use Rattle.host_trace.specs.declared.items.Event.{Event}
use Rattle.host_trace.specs.declared.items.Event.TheVariants as event
use Rattle.host_trace.specs.declared.items.Act.{Act}
use Rattle.host_trace.specs.declared.items.Act.TheVariants as act
use Rattle.host_trace.specs.declared.items.Item.{Item}
use Rattle.host_trace.specs.declared.items.Item.TheVariants.{In, Out}
use Rattle.host_trace.specs.declared.items.Why.{Why}
use Rattle.host_trace.specs.declared.items.Why.TheVariants as why

abbrev pub AreBytes : List ℕ → Type 0
AreBytes bytes = All (λ b. b < 256) bytes

pub record IsText (text : List ℕ) : Type 0 where
  pub bytes : AreBytes text
  pub utf8 : IsUtf8 text

pub record AreTexts (list : List (List ℕ)) : Type 0 where
  pub count : length list < 2 ^ 64
  pub each : All IsText list

pub record IsPair (pair : Pair) : Type 0 where
  pub name : IsText pair.name
  pub value : IsText pair.value

pub record ArePairs (list : List Pair) : Type 0 where
  pub count : length list < 2 ^ 64
  pub each : All IsPair list

pub record IsLaunch (launch : Launch) : Type 0 where
  pub program : IsText launch.program
  pub dir : IsText launch.dir
  pub args : AreTexts launch.args
  pub env : ArePairs launch.env

abbrev pub IsCause : Cause → Type 0
IsCause (cause.Full seen) = seen < 2 ^ 32
IsCause other = Unit {0}

abbrev pub IsWhy : Why → Type 0
IsWhy (why.Cut told) = IsCause told
IsWhy other = Unit {0}

abbrev pub IsEvent : Event → Type 0
IsEvent (event.Accepted peer) = IsText peer.0
IsEvent (event.ClientBytes c bytes) = (c < 2 ^ 64) × AreBytes bytes
IsEvent (event.ClientEof c) = (c < 2 ^ 64)
IsEvent (event.ClientGone c) = (c < 2 ^ 64)
IsEvent (event.Wrote c n) = (c < 2 ^ 64) × (n < 2 ^ 64)
IsEvent (event.Started k) = (k < 2 ^ 64)
IsEvent (event.StartFailed k) = (k < 2 ^ 64)
IsEvent (event.StartFull k seen) = (k < 2 ^ 64) × (seen < 2 ^ 32)
IsEvent (event.ChildBytes k bytes) = (k < 2 ^ 64) × AreBytes bytes
IsEvent (event.ChildEof k) = (k < 2 ^ 64)
IsEvent (event.ChildBroken k) = (k < 2 ^ 64)
IsEvent (event.Took k n) = (k < 2 ^ 64) × (n < 2 ^ 64)
IsEvent (event.InputGone k) = (k < 2 ^ 64)
IsEvent (event.Exited k) = (k < 2 ^ 64)
IsEvent (event.WsText c bytes) = (c < 2 ^ 64) × AreBytes bytes
IsEvent (event.WsBinary c) = (c < 2 ^ 64)
IsEvent (event.WsClosed c) = (c < 2 ^ 64)
IsEvent (event.WsBad c) = (c < 2 ^ 64)
IsEvent (event.NoRoom c) = (c < 2 ^ 64)
IsEvent (event.Tick secs) = (secs < 2 ^ 64)
IsEvent event.Stop = Unit {0}

abbrev pub IsAct : Act → Type 0
IsAct (act.WantClient c) = (c < 2 ^ 64)
IsAct (act.Write c bytes) = (c < 2 ^ 64) × AreBytes bytes
IsAct (act.Feed k bytes) = (k < 2 ^ 64) × AreBytes bytes
IsAct (act.EndInput k) = (k < 2 ^ 64)
IsAct (act.WantChild k) = (k < 2 ^ 64)
IsAct (act.Kill k) = (k < 2 ^ 64)
IsAct (act.Release k) = (k < 2 ^ 64)
IsAct (act.Upgrade c rest) = (c < 2 ^ 64) × AreBytes rest
IsAct (act.CloseWs c code) = (c < 2 ^ 64) × (code < 2 ^ 16)
IsAct (act.Shut c told) = (c < 2 ^ 64) × IsWhy told
IsAct (act.Start k c j hop launch) = (k < 2 ^ 64) × (c < 2 ^ 64) × (j < 2 ^ 128) × (hop < 2 ^ 32) × IsLaunch launch
IsAct (act.Says c list) = (c < 2 ^ 64) × AreTexts list

abbrev pub IsItem : Item → Type 0
IsItem (In e) = IsEvent e
IsItem (Out a) = IsAct a

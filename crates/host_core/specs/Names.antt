-- Whom an event names.
use Rattle.host_trace.specs.declared.items.Event.TheVariants.{ClientBytes, ClientEof, ClientGone, Wrote, Started, StartFailed, StartFull, ChildBytes, ChildEof, ChildBroken, Took, InputGone, Exited, WsText, WsBinary, WsClosed, WsBad, NoRoom}
use Rattle.host_trace.specs.declared.items.Item.{Item}
use Rattle.host_trace.specs.declared.items.Item.TheVariants.{In}
use Rattle.host_core.specs.declared.named.Named.{Named}
use Rattle.host_core.specs.declared.named.Named.TheVariants.{Connection, Child, Nobody}

abbrev pub named_by : Item → Named
named_by (In (ClientBytes d bytes)) = Connection d
named_by (In (ClientEof d)) = Connection d
named_by (In (ClientGone d)) = Connection d
named_by (In (Wrote d n)) = Connection d
named_by (In (WsText d bytes)) = Connection d
named_by (In (WsBinary d)) = Connection d
named_by (In (WsClosed d)) = Connection d
named_by (In (WsBad d)) = Connection d
named_by (In (NoRoom d)) = Connection d
named_by (In (Started d)) = Child d
named_by (In (StartFailed d)) = Child d
named_by (In (StartFull d seen)) = Child d
named_by (In (ChildBytes d bytes)) = Child d
named_by (In (ChildEof d)) = Child d
named_by (In (ChildBroken d)) = Child d
named_by (In (Took d n)) = Child d
named_by (In (InputGone d)) = Child d
named_by (In (Exited d)) = Child d
named_by _ = Nobody

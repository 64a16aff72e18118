-- What may cross threads.
use denote.Param.Send.{IsSend}
use Rattle.loop_bell.specs.contracts.bell.Bell as Bell
use Rattle.loop_bell.proofs.bell.Bell.TheSendSync as bell

pub bell_send : IsSend Bell.the_field.row
bell_send = bell.the_field_send

use Rattle.http_step_laws.proofs.ReadLaws.{reads_leave}
use Rattle.http_step_laws.proofs.laws.reads_leave.Goals as goal

pub returns : goal.returns
returns c = λ L ev acts turn e old new n moves s two apt free p form. reads_leave L ev acts turn e old n s two apt free moves new p form

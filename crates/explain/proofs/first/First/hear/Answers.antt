-- By what the input is.
use Rattle.explain.proofs.HearLaws.{accepted_knows, read_knows}
use Rattle.explain.proofs.first.First.hear.Goals as goal

pub returns-in-Accepted-clause-knows : goal.returns-in-Accepted-clause-knows
returns-in-Accepted-clause-knows c = λ limits known bytes k on.
    accepted_knows _ limits known bytes _ _ c.in-Accepted.is (c.accept.ensures.knows limits known bytes k)

pub returns-in-Accepted-clause-peer : goal.returns-in-Accepted-clause-peer
returns-in-Accepted-clause-peer c = λ off. let on = c.accept.ensures.goes in absurd (cc)

pub returns-in-Bytes-clause-heard : goal.returns-in-Bytes-clause-heard
returns-in-Bytes-clause-heard c = λ limits known bytes k found.
    let h = c.read.ensures.heard limits known bytes k found in
    rw c.in-Bytes.is (rw c.as_slice.ensures at h)

pub returns-in-Bytes-clause-knows : goal.returns-in-Bytes-clause-knows
returns-in-Bytes-clause-knows c = λ limits known bytes k on.
    let r = c.read.ensures.knows limits known bytes k (c.read.ensures.asks on) in
    read_knows _ limits known bytes _ _ c.in-Bytes.is (rw c.as_slice.ensures at r)

pub returns-in-Bytes-clause-peer : goal.returns-in-Bytes-clause-peer
returns-in-Bytes-clause-peer c = λ off. c.read.ensures.peer

pub returns-in-Eof-clause-heard : goal.returns-in-Eof-clause-heard
returns-in-Eof-clause-heard c = λ limits known bytes k found. rw c.in-Eof.is (c.end.ensures limits known bytes k)

use Rattle.std.proofs.Common.{refl, inr, arith}
use Rattle.socket_set.proofs.Sets.{quiet_self as set_self, counted_self as set_counts}
use Rattle.edge_loop.proofs.Causes.{full_child}
use Rattle.edge_loop.proofs.Quiet.{children_quiet}
use Rattle.edge_loop.proofs.outside.NetOutside.hear_child.Goals as goal

pub returns-in_err-event-clause-none : goal.returns-in_err-event-clause-none
returns-in_err-event-clause-none g c =
    λ _. rw (← c.self.view_is) (
      record {
        set = set_self _;
        rows = children_quiet g.S.Kid.Kid.tells _ _ (c.in_err-event.ensures.none refl);
        due = record { starts = refl; unstarted = refl; tried = c.poll.ensures.starts.1 };
        ending = refl;
      },
      record { limit = refl; room = c.poll.ensures.starts.0; set = set_counts _; children = c.poll.ensures.faults; full = omega (arith, c.poll.ensures.full_books) },
    )

pub returns-clause-some : goal.returns-clause-some
returns-clause-some g c =
    rw (← c.self.view_is) (
      record { says = c.in_ok-event.ensures.some; set = set_self _; due = record { starts = refl; unstarted = refl; tried = c.poll.ensures.starts.1 }; ending = refl },
      record {
        counts = record { limit = refl; room = c.poll.ensures.starts.0; set = set_counts _; children = c.poll.ensures.faults; full = omega (arith, c.poll.ensures.full_books) };
        failure = λ f. inr (c.in_ok-event.ensures.failure f);
        full_book = λ f. absurd (full_child g.S.Kid.Kid.tells c.in_ok-event.event _ _ c.in_ok-event.ensures.some f);
      },
    )

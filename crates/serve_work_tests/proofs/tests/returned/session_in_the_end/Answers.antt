use Rattle.serve_work.specs.Sessions.{unread}
use Rattle.serve_work_tests.proofs.tests.returned.session_in_the_end.Goals as goal

pub opened_again-one-requires : goal.opened_again-one-requires
opened_again-one-requires g c =
    let fresh = unread g.W.Sink.contents g.W.Sink.failures in
    let back = c.both-again.ensures (fresh c.args.one.1) (fresh c.args.other.1)
    (rw c.in-Err-Unbegun.field-0-is at c.in-Err-Unbegun.ensures) in
    record { unread = (c.args.one.1, back.0, c.requires.one.is_open) }

pub opened_again-other-requires : goal.opened_again-other-requires
opened_again-other-requires g c =
    let fresh = unread g.W.Sink.contents g.W.Sink.failures in
    let back = c.both-again.ensures (fresh c.args.one.1) (fresh c.args.other.1)
    (rw c.in-Err-Unbegun.field-0-is at c.in-Err-Unbegun.ensures) in
    record { unread = (c.args.other.1, back.1, c.requires.other.is_open) }

use Rattle.std.proofs.Common.{ap, rules}
use Rattle.serve_hub.specs.Books.{BookValue}
use Rattle.serve_hub.proofs.Opened.{is_opening}
use Rattle.serve_hub.proofs.hub.Hub.new.Goals as goal

pub into_hub-requires-clause-opening : goal.into_hub-requires-clause-opening
into_hub-requires-clause-opening g c =
    is_opening _ c.in-Ok.book.opening c.args.setup _ c.recall_limits.ensures
    (ap (λ (b : BookValue). b.opening) c.in-Ok.ensures.book) c.requires.opening c.workers-workers.ensures

pub returns-in_err-room-clause-bad_limit : goal.returns-in_err-room-clause-bad_limit
returns-in_err-room-clause-bad_limit c = search rules

pub rests_of-requires-clause-limits : goal.rests_of-requires-clause-limits
rests_of-requires-clause-limits c = search rules

pub returns-in_err-rests-clause-bad_limit : goal.returns-in_err-rests-clause-bad_limit
returns-in_err-rests-clause-bad_limit c = search rules

pub returns-in_default-clause-bad_limit : goal.returns-in_default-clause-bad_limit
returns-in_default-clause-bad_limit c = search rules

use Rattle.std.proofs.Common.{ℕ, ◌∙◌, ap, length, subst, sym}
use Rattle.serve_core.specs.Schedule.{ScheduleValue}
use Rattle.serve_hub.specs.Ends.{IsOpening}
use Rattle.serve_hub.proofs.room.Room.into_hub.Goals as goal

pub new-shared-requires-clause-opened : goal.new-shared-requires-clause-opened
new-shared-requires-clause-opened g c =
    let opened = c.requires.opening in
    let workers = ap (λ (x : ScheduleValue). length x.workers) (c.requires.unmoved ∙ opened.same) ∙ opened.each_worker in
    subst (λ (n : ℕ). IsOpening g.L.Epoch.opening c.args.book.opening n) (sym workers) opened

use Rattle.std.proofs.Common.{ℕ, ◌≡◌, length, replicate, refl, ◌∙◌, ap, subst}
use Rattle.serve_hub.specs.Books.{IsLimit}
use Rattle.serve_hub.proofs.Opened.{kept_opened}
use Rattle.serve_hub.proofs.book.Book.new.Goals as goal

pub invariant_of-result : goal.invariant_of-result
invariant_of-result c =
    let count : length c.streams-streams.result.now ≡ length c.args.setup.streams =
    ap length c.streams-streams.ensures in
    let limit : IsLimit (length c.args.setup.streams) c.args.limit =
    subst (λ (n : ℕ). IsLimit n c.args.limit) count (c.if-not-is_limit.ensures.0 refl) in
    let units : c.in_ok-units.units.items ≡ replicate c.args.setup.workers 0 =
    c.in_ok-units.ensures.items_if_clones_equal (λ y e. e) ∙ ap (λ (n : ℕ). replicate n 0) c.workers-workers.ensures
    in
    kept_opened _ c.args.setup c.recall_limits.ensures.0 limit c.of.ensures c.in_ok-desk.ensures.desk
    c.in_ok-journal.ensures.items units count c.in_ok-journal.ensures.capacity refl

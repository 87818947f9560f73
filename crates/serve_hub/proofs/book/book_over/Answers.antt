use Rattle.std.proofs.Common.{ℕ, ◌≡◌, length, replicate, refl, ◌∙◌, ap, arith}
use Rattle.serve_hub.proofs.Opened.{kept_over}
use Rattle.serve_hub.proofs.book.book_over.Goals as goal

pub invariant_of-result : goal.invariant_of-result
invariant_of-result c =
    let units : c.fill.new.self.items ≡ replicate (length c.args.desk.workers) 0 =
    c.fill.ensures.items (λ y e. e)
    ∙ ap (λ (n : ℕ). replicate n 0) (omega (arith, c.requires.units, c.args.units.ok.0)) in
    kept_over _ c.args.desk c.requires.sound c.requires.fits c.requires.most c.of.ensures refl c.requires.empty
    units c.requires.taken c.requires.capacity refl

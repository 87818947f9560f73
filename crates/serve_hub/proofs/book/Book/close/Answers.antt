use Rattle.std.proofs.Common.{◌++◌, ◌∷◌, [], refl, ◌∙◌, ap, arith}
use Rattle.std.proofs.lemmas.List.{length-reverse}
use Rattle.serve_hub.specs.declared.book.Book.TheInside.{Inside}
use Rattle.serve_hub.specs.declared.entry.Act.TheVariants.{Closed}
use Rattle.serve_hub.specs.declared.entry.Seat.TheVariants.{Stream}
use Rattle.serve_hub.specs.BookInside.{book}
use Rattle.serve_hub.proofs.Entered.{close_entered}
use Rattle.serve_hub.proofs.Inside.{IsPushed, appends, kept, no_more}
use Rattle.serve_hub.proofs.book.Book.close.Goals as goal

pub push_reserved-requires : goal.push_reserved-requires
push_reserved-requires c =
    let k = c.self.invariant in
    let h = close_entered (book c.self.inside) c.args.s c.close.new.self k.is_book c.in_ok-close.ensures.events
    c.in_ok-close.ensures.stream in
    omega (arith, h.is_book.fits, k.reserved, length-reverse c.self.inside.journal.items)

pub invariant_of-self-2 : goal.invariant_of-self-2
invariant_of-self-2 c =
    let h = close_entered (book c.self.inside) c.args.s c.close.new.self c.self.invariant.is_book
    c.in_ok-close.ensures.events c.in_ok-close.ensures.stream in
    kept c.self.inside _ (Stream c.args.s) Closed 0 c.self.invariant (record {
      opening = refl;
      limit = refl;
      items = c.push_reserved.ensures.items ∙ ap (λ e. c.self.inside.journal.items ++ e ∷ []) c.new.ensures;
      capacity = c.push_reserved.ensures.capacity;
      ending = refl;
    }) h (omega arith) (no_more c.self.inside.units.items)

pub returns-clause-entry : goal.returns-clause-entry
returns-clause-entry c =
    let h = close_entered (book c.self.inside) c.args.s c.close.new.self c.self.invariant.is_book
    c.in_ok-close.ensures.events c.in_ok-close.ensures.stream in
    let z : Inside = record {
      opening = c.self.inside.opening;
      desk = c.close.new.self;
      journal = c.push_reserved.new.self;
      limit = c.self.inside.limit;
      taken = c.self.inside.taken;
      units = c.self.inside.units;
      is_ending = c.self.inside.is_ending;
    } in
    let pushed : IsPushed c.self.inside z (Stream c.args.s) Closed = record {
      opening = refl;
      limit = refl;
      items = c.push_reserved.ensures.items ∙ ap (λ e. c.self.inside.journal.items ++ e ∷ []) c.new.ensures;
      capacity = c.push_reserved.ensures.capacity;
      ending = refl;
    } in
    appends c.self.inside z c.args.self.now (Stream c.args.s) Closed 0 c.self.view_is pushed h refl

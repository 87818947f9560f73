use Rattle.std.proofs.Common.{◌≤◌, ◌+◌, ◌++◌, ◌∷◌, [], None, slice_get, refl, sym, ◌∙◌, ap, subst, arith}
use Rattle.std.proofs.lemmas.List.{length-reverse}
use Rattle.serve_core.proofs.Items.Options.{and_some, some_and}
use Rattle.serve_hub.specs.declared.entry.Act.TheVariants.{Collected}
use Rattle.serve_hub.specs.declared.entry.Seat.TheVariants.{Stream}
use Rattle.serve_hub.specs.Answers.{DeskGives}
use Rattle.serve_hub.specs.BookInside.{book}
use Rattle.serve_hub.specs.Books.{BookValue, room, taken}
use Rattle.serve_hub.proofs.Entered.{collect_entered, collected_here}
use Rattle.serve_hub.proofs.Inside.{has_left, kept, no_more}
use Rattle.serve_hub.proofs.book.Book.collect.Goals as goal

pub push_reserved-requires : goal.push_reserved-requires
push_reserved-requires c =
    let b = book c.self.inside in
    let has_room : 1 ≤ room b =
    subst (λ (x : BookValue). 1 ≤ room x) (sym c.self.view_is) (omega (arith, c.if-room-lt1.false, c.room.ensures)) in
    let len = length-reverse c.self.inside.journal.items in
    omega (arith, has_left b 1 has_room, c.self.invariant.reserved, len)

pub invariant_of-self-2 : goal.invariant_of-self-2
invariant_of-self-2 c =
    let b = book c.self.inside in
    let n = c.in-Some.counts.collected in
    let a = some_and (slice_get c.self.inside.desk.streams c.args.s) _ c.in_ok-pair.ensures.pair in
    let number = collected_here c.self.inside.desk.streams c.args.s a.0 c.in-Some.counts a.1
    c.in-Some.ensures in
    let has_room : 1 ≤ room b =
    subst (λ (x : BookValue). 1 ≤ room x) (sym c.self.view_is) (omega (arith, c.if-room-lt1.false, c.room.ensures)) in
    let fits : taken b + 1 ≤ c.self.inside.limit = omega (arith, has_left b 1 has_room) in
    let h = collect_entered b c.args.s n a.0 c.collect.new.self c.self.invariant.is_book
    c.in_ok-pair.ensures.events a.1 number a.2.1 fits in
    kept c.self.inside _ (Stream c.args.s) (Collected n) 1 c.self.invariant (record {
      opening = refl;
      limit = refl;
      items = c.push_reserved.ensures.items ∙ ap (λ e. c.self.inside.journal.items ++ e ∷ []) c.new.ensures;
      capacity = c.push_reserved.ensures.capacity;
      ending = refl;
    }) h refl (no_more c.self.inside.units.items)

pub returns-clause-answer : goal.returns-clause-answer
returns-clause-answer c =
    let a = some_and (slice_get c.self.inside.desk.streams c.args.s) _ c.in_ok-pair.ensures.pair in
    let gives : DeskGives c.self.inside.desk c.args.s None =
    and_some (slice_get c.self.inside.desk.streams c.args.s) _ a.0 a.1 a.2.0.less in (
      subst (λ (b : BookValue). DeskGives b.desk c.args.s None) c.self.view_is gives,
      omega (arith, c.if-room-lt1.false, c.room.ensures),
    )

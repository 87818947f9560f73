use Rattle.std.proofs.Common.{◌≡◌, ◌≤◌, ◌+◌, ◌++◌, ◌∷◌, [], None, refl, sym, ◌∙◌, ap, subst, arith}
use Rattle.serve_hub.specs.declared.book.Book.TheInside.{Inside}
use Rattle.std.proofs.lemmas.List.{length-reverse}
use Rattle.serve_hub.specs.declared.entry.Act.{Act}
use Rattle.serve_hub.specs.declared.entry.Act.TheVariants.{Leased}
use Rattle.serve_hub.specs.declared.entry.Seat.TheVariants.{Worker}
use Rattle.serve_hub.specs.Answers.{DeskLends}
use Rattle.serve_hub.specs.BookInside.{book}
use Rattle.serve_hub.specs.Books.{BookValue, room, taken}
use Rattle.serve_hub.specs.Journal.{entry_of}
use Rattle.serve_hub.proofs.Entered.{IsEntered, given_out, lease_entered}
use Rattle.serve_hub.proofs.Inside.{IsPushed, appends, has_left, kept, no_more}
use Rattle.serve_hub.proofs.book.Book.lease.Goals as goal

pub push_reserved-requires : goal.push_reserved-requires
push_reserved-requires c =
    let b = book c.self.inside in
    let has_room : 2 ≤ room b =
    subst (λ (x : BookValue). 2 ≤ room x) (sym c.self.view_is) (omega (arith, c.if-room-lt2.false, c.room.ensures)) in
    let len = length-reverse c.self.inside.journal.items in
    omega (arith, has_left b 2 has_room, c.self.invariant.reserved, len)

abbrev act : goal.After-self-1 → Act
act c = Leased c.in_ok-lease.lease.stream c.in_ok-lease.lease.number c.in_ok-lease.lease.granted

-- the entry is the next of the journal
entered : (c : goal.After-self-1)
    → IsEntered (book c.self.inside) (Worker c.args.w) (act c) c.lease.new.self c.self.inside.units.items 2
entered c =
    let b = book c.self.inside in
    let has_room : 2 ≤ room b =
    subst (λ (x : BookValue). 2 ≤ room x) (sym c.self.view_is) (omega (arith, c.if-room-lt2.false, c.room.ensures)) in
    let fits : taken b + 2 ≤ c.self.inside.limit = omega (arith, has_left b 2 has_room) in
    lease_entered b c.args.w c.in_ok-lease.lease c.lease.new.self c.self.invariant.is_book c.in_ok-lease.ensures.free
    c.in_ok-lease.ensures.events c.in_ok-lease.ensures.job fits

abbrev lent_to : goal.After-self-1 → Inside
lent_to c = record {
  opening = c.self.inside.opening;
  desk = c.lease.new.self;
  journal = c.push_reserved.new.self;
  limit = c.self.inside.limit;
  taken = c.self.inside.taken + 2;
  units = c.self.inside.units;
  is_ending = c.self.inside.is_ending;
}

pushed : (c : goal.After-self-1) → IsPushed c.self.inside (lent_to c) (Worker c.args.w) (act c)
pushed c =
    let made : c.new.result ≡ entry_of (Worker c.args.w) (act c) =
    c.new.ensures ∙ rw (c.stream.ensures, c.number.ensures, c.granted.ensures.value) refl in
    record {
      opening = refl;
      limit = refl;
      items = c.push_reserved.ensures.items ∙ ap (λ e. c.self.inside.journal.items ++ e ∷ []) made;
      capacity = c.push_reserved.ensures.capacity;
      ending = refl;
    }

pub invariant_of-self-2 : goal.invariant_of-self-2
invariant_of-self-2 c =
    kept c.self.inside (lent_to c) (Worker c.args.w) (act c) 2 c.self.invariant (pushed c) (entered c) refl
    (no_more c.self.inside.units.items)

pub returns-clause-entry : goal.returns-clause-entry
returns-clause-entry c =
    appends c.self.inside (lent_to c) c.args.self.now (Worker c.args.w) (act c) 2 c.self.view_is (pushed c) (entered c) refl

pub returns-clause-recorded : goal.returns-clause-recorded
returns-clause-recorded c =
    let z : Inside = record {
      opening = c.self.inside.opening;
      desk = c.lease.new.self;
      journal = c.push_reserved.new.self;
      limit = c.self.inside.limit;
      taken = c.self.inside.taken + 2;
      units = c.self.inside.units;
      is_ending = c.self.inside.is_ending;
    } in
    given_out (book z) c.self.inside.desk c.args.w c.in_ok-lease.lease c.in_ok-lease.ensures.free c.in_ok-lease.ensures.job

pub returns-clause-answer : goal.returns-clause-answer
returns-clause-answer c =
    let lends : DeskLends c.self.inside.desk c.args.w None = (c.in_ok-lease.ensures.free, c.in_ok-lease.ensures.ready) in (
      subst (λ (b : BookValue). DeskLends b.desk c.args.w None) c.self.view_is lends,
      omega (arith, c.if-room-lt2.false, c.room.ensures),
    )

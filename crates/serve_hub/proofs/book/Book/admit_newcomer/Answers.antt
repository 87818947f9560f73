use Rattle.std.proofs.Common.{◌≤◌, ◌+◌, ◌++◌, ◌∷◌, [], inl, length, sym, ◌∙◌, ap, subst, refl, arith}
use Rattle.std.proofs.lemmas.List.{length-reverse}
use Rattle.serve_core.specs.Schedule as schedules
use Rattle.serve_core.specs.Setup.{StreamSpec}
use Rattle.serve_hub.specs.declared.book.Book.TheInside.{Inside}
use Rattle.serve_hub.specs.declared.entry.Act.TheVariants.{Admitted}
use Rattle.serve_hub.specs.declared.entry.Seat.TheVariants.{Stream}
use Rattle.serve_hub.specs.declared.refusal.Refusal.TheVariants.{Core}
use Rattle.serve_hub.specs.Answers.{RefusesAdmission, or_full}
use Rattle.serve_hub.specs.BookInside.{book}
use Rattle.serve_hub.specs.Books.{BookValue, room, taken}
use Rattle.serve_hub.proofs.Admitting.{refused_so}
use Rattle.serve_hub.proofs.Entered.{IsEntered, admit_entered}
use Rattle.serve_hub.proofs.Inside.{has_left, IsPushed, appends, kept, no_more}
use Rattle.serve_hub.proofs.Opened.{more_streams}
use Rattle.serve_hub.proofs.Refusing.{is_full}
use Rattle.serve_hub.proofs.book.Book.admit_newcomer.Goals as goal

pub push_reserved-requires : goal.push_reserved-requires
push_reserved-requires c =
    let b = book c.self.inside in
    let has_room : 2 ≤ room b =
    subst (λ (x : BookValue). 2 ≤ room x) (sym c.self.view_is) (omega (arith, c.if-room-lt2.false, c.room.ensures)) in
    let len = length-reverse c.self.inside.journal.items in
    omega (arith, has_left b 2 has_room, c.self.invariant.reserved, len)

-- the entry is the next of the journal
entered : (c : goal.After-self-1)
    → IsEntered (book c.self.inside) (Stream c.in-Ok.s) Admitted c.admit_newcomer.new.self c.self.inside.units.items 2
entered c =
    let b = book c.self.inside in
    let has_room : 2 ≤ room b =
    subst (λ (x : BookValue). 2 ≤ room x) (sym c.self.view_is) (omega (arith, c.if-room-lt2.false, c.room.ensures)) in
    let fits : taken b + 2 ≤ c.self.inside.limit = omega (arith, has_left b 2 has_room) in
    admit_entered b c.in-Ok.s c.args.newcomer c.admit_newcomer.new.self c.self.invariant.is_book c.in-Ok.ensures.events
    c.in-Ok.ensures.stream fits

abbrev opened_to : goal.After-self-1 → Inside
opened_to c = record {
  opening = c.self.inside.opening;
  desk = c.admit_newcomer.new.self;
  journal = c.push_reserved.new.self;
  limit = c.self.inside.limit;
  taken = c.self.inside.taken + 2;
  units = c.self.inside.units;
  is_ending = c.self.inside.is_ending;
}

pushed : (c : goal.After-self-1) → IsPushed c.self.inside (opened_to c) (Stream c.in-Ok.s) Admitted
pushed c = record {
  opening = refl;
  limit = refl;
  items = c.push_reserved.ensures.items ∙ ap (λ e. c.self.inside.journal.items ++ e ∷ []) c.new.ensures;
  capacity = c.push_reserved.ensures.capacity;
  ending = refl;
}

pub invariant_of-self : goal.invariant_of-self
invariant_of-self c =
    kept c.self.inside (opened_to c) (Stream c.in-Ok.s) Admitted 2 c.self.invariant (pushed c) (entered c) refl
    (no_more c.self.inside.units.items)

pub returns-in-Ok-clause-entry : goal.returns-in-Ok-clause-entry
returns-in-Ok-clause-entry c =
    appends c.self.inside (opened_to c) c.args.self.now (Stream c.in-Ok.s) Admitted 2 c.self.view_is (pushed c)
    (entered c) refl

pub returns-in-Ok-clause-behind : goal.returns-in-Ok-clause-behind
returns-in-Ok-clause-behind c =
    subst (λ (b : BookValue). length b.opening.streams ≤ c.in-Ok.s) c.self.view_is
    (omega (arith, more_streams (book c.self.inside) c.self.invariant.is_book, c.in-Ok.ensures.stream))

pub returns-then-room-lt2-clause-refused : goal.returns-then-room-lt2-clause-refused
returns-then-room-lt2-clause-refused c =
    let b = c.args.self.now in
    let spec = c.args.newcomer in
    let e = c.admit_refusal.result in
    let its = subst (λ (x : StreamSpec). schedules.IsAdmitAnswer c.self.inside.desk x e) c.spec.ensures.spec
    c.admit_refusal.ensures in
    let here = subst (λ (x : BookValue). schedules.IsAdmitAnswer x.desk spec e) c.self.view_is its in
    let told : RefusesAdmission b spec (or_full e) =
    inl (is_full 2 b (schedules.IsAdmitAnswer b.desk spec) e here (omega (arith, c.if-room-lt2.true, c.room.ensures))) in
    subst (RefusesAdmission b spec) (sym c.or_full.ensures) told

pub invariant_of-self-in-Err : goal.invariant_of-self-in-Err
invariant_of-self-in-Err c = rw c.in-Err.ensures.returns_newcomer.1 c.self.invariant

pub returns-in-Err-clause-refused : goal.returns-in-Err-clause-refused
returns-in-Err-clause-refused c =
    let has_room : 2 ≤ room (book c.self.inside) =
    subst (λ (x : BookValue). 2 ≤ room x) (sym c.self.view_is) (omega (arith, c.if-room-lt2.false, c.room.ensures)) in
    subst (λ (x : BookValue). RefusesAdmission x c.args.newcomer (Core c.in-Err.refusal)) c.self.view_is
    (refused_so (book c.self.inside) c.args.newcomer c.in-Err.refusal has_room c.in-Err.ensures.refused)

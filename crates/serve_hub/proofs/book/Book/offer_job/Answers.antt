use Rattle.std.proofs.Common.{ℕ, ◌≤◌, ◌+◌, ◌++◌, ◌∷◌, [], sym, ◌∙◌, ap, subst, refl, arith}
use Rattle.std.proofs.lemmas.List.{length-reverse}
use Rattle.serve_core.specs.Desk.{TakesJob, job_refusal}
use Rattle.serve_hub.specs.declared.book.Book.TheInside.{Inside}
use Rattle.serve_hub.specs.declared.entry.Act.{Act}
use Rattle.serve_hub.specs.declared.entry.Act.TheVariants.{Offered}
use Rattle.serve_hub.specs.declared.entry.Seat.TheVariants.{Stream}
use Rattle.serve_hub.specs.BookInside.{book}
use Rattle.serve_hub.specs.Books.{Appends, BookValue, room, taken}
use Rattle.serve_hub.specs.Journal.{entry_of, tick_of}
use Rattle.serve_hub.proofs.Entered.{IsEntered, offer_entered}
use Rattle.serve_hub.proofs.Inside.{has_left, IsPushed, appends, kept, no_more}
use Rattle.serve_hub.proofs.book.Book.offer_job.Goals as goal

pub push_reserved-requires : goal.push_reserved-requires
push_reserved-requires c =
    let b = book c.self.inside in
    let has_room : 1 ≤ room b =
    subst (λ (x : BookValue). 1 ≤ room x) (sym c.self.view_is) (omega (arith, c.if-room-lt1.false, c.room.ensures)) in
    let len = length-reverse c.self.inside.journal.items in
    omega (arith, has_left b 1 has_room, c.self.invariant.reserved, len)

abbrev act : goal.After-self-1 → Act
act c = Offered (tick_of c.self.inside.desk.clock c.args.at) c.in-Ok.number

-- the entry is the next of the journal
entered : (c : goal.After-self-1)
    → IsEntered (book c.self.inside) (Stream c.args.s) (act c) c.offer_job.new.self c.self.inside.units.items 1
entered c =
    let b = book c.self.inside in
    let has_room : 1 ≤ room b =
    subst (λ (x : BookValue). 1 ≤ room x) (sym c.self.view_is) (omega (arith, c.if-room-lt1.false, c.room.ensures)) in
    let fits : taken b + 1 ≤ c.self.inside.limit = omega (arith, has_left b 1 has_room) in
    offer_entered b c.args.s c.args.at c.in-Ok.number c.args.job c.offer_job.new.self c.self.invariant.is_book
    c.in-Ok.ensures.events c.in-Ok.ensures.job fits

abbrev offered_to : goal.After-self-1 → Inside
offered_to c = record {
  opening = c.self.inside.opening;
  desk = c.offer_job.new.self;
  journal = c.push_reserved.new.self;
  limit = c.self.inside.limit;
  taken = c.self.inside.taken + 1;
  units = c.self.inside.units;
  is_ending = c.self.inside.is_ending;
}

pushed : (c : goal.After-self-1) → IsPushed c.self.inside (offered_to c) (Stream c.args.s) (act c)
pushed c =
    let made = c.new.ensures ∙ ap (λ t. entry_of (Stream c.args.s) (Offered t c.in-Ok.number))
    (c.tick_of-tick.ensures ∙ ap (λ k. tick_of k c.args.at) c.clock.ensures) in
    record {
      opening = refl;
      limit = refl;
      items = c.push_reserved.ensures.items ∙ ap (λ e. c.self.inside.journal.items ++ e ∷ []) made;
      capacity = c.push_reserved.ensures.capacity;
      ending = refl;
    }

pub invariant_of-self : goal.invariant_of-self
invariant_of-self c =
    kept c.self.inside (offered_to c) (Stream c.args.s) (act c) 1 c.self.invariant (pushed c) (entered c) refl
    (no_more c.self.inside.units.items)

pub returns-in-Ok-clause-entry : goal.returns-in-Ok-clause-entry
returns-in-Ok-clause-entry c =
    let clock = ap (λ (x : BookValue). x.desk.clock) c.self.view_is in
    subst (λ (k : ℕ). Appends (Stream c.args.s) (Offered (tick_of k c.args.at) c.in-Ok.number) c.args.self.now
    (book (offered_to c))) clock
    (appends c.self.inside (offered_to c) c.args.self.now (Stream c.args.s) (act c) 1 c.self.view_is (pushed c) (entered c)
    refl)

pub returns-in-Ok-clause-job : goal.returns-in-Ok-clause-job
returns-in-Ok-clause-job c =
    subst (λ (b : BookValue). TakesJob c.args.s c.args.at c.args.job c.in-Ok.number b.desk c.offer_job.new.self)
    c.self.view_is c.in-Ok.ensures.job

pub returns-in-Ok-clause-answer : goal.returns-in-Ok-clause-answer
returns-in-Ok-clause-answer c = (
  ap (λ (b : BookValue). job_refusal b.desk c.args.s c.args.at) (sym c.self.view_is) ∙ c.in-Ok.ensures.answer,
  omega (arith, c.if-room-lt1.false, c.room.ensures),
)

pub returns-in-Err-clause-refused : goal.returns-in-Err-clause-refused
returns-in-Err-clause-refused c =
    ap (λ (b : BookValue). job_refusal b.desk c.args.s c.args.at) (sym c.self.view_is) ∙ c.in-Err.ensures.refused

use Rattle.std.proofs.Common.{ℕ, ◌≡◌, ◌≤◌, ◌<◌, ◌+◌, ◌^◌, ◌++◌, ◌∷◌, [], is_some, length, slice_get, slice_index_or, Some, IsSomeAnd}
use Rattle.std.proofs.Common.{slice_set, refl, sym, ◌∙◌, ap, subst, arith}
use Rattle.std.proofs.lemmas.List.{get_or_read, length-reverse}
use Rattle.std.proofs.lemmas.Option.{slice_get-get_or, slice_get_within}
use Rattle.std.specs.Vec.{with_item}
use Rattle.std.proofs.lemmas.Bool.{false≢true}
use Rattle.lease.specs.Lease.{LeaseValue, spent_of}
use Rattle.serve_core.specs.declared.held.Held.{Held}
use Rattle.serve_core.specs.Desk.{IsHeldBy, IsRecorded, RefusesSettle}
use Rattle.serve_core.specs.Schedule.{HasLease, HasStream, ScheduleValue}
use Rattle.serve_hub.specs.declared.book.Book.TheInside.{Inside}
use Rattle.serve_hub.specs.declared.entry.Act.TheVariants.{Settled}
use Rattle.serve_hub.specs.declared.entry.Seat.TheVariants.{Worker}
use Rattle.serve_hub.specs.Answers.{is_finished}
use Rattle.serve_hub.specs.BookInside.{book}
use Rattle.serve_hub.specs.Books.{Appends, BookValue, with_units}
use Rattle.serve_hub.specs.Journal.{entry_of}
use Rattle.serve_hub.proofs.Entered.{IsEntered}
use Rattle.serve_hub.proofs.Inside.{IsPushed, appends_spent, few_more, kept}
use Rattle.serve_hub.proofs.Settling.{desk_settled, finished_as, settle_entered}
use Rattle.serve_hub.proofs.book.Book.settle.Goals as goal

pub returns-in-Err-clause-refused : goal.returns-in-Err-clause-refused
returns-in-Err-clause-refused c =
    subst (λ (b : BookValue). RefusesSettle b.desk c.args.w c.in-Err.refusal) c.self.view_is c.in-Err.ensures.err

pub returns-then-not-is_recorded-clause-returns_lease : goal.returns-then-not-is_recorded-clause-returns_lease
returns-then-not-is_recorded-clause-returns_lease c = (refl, refl)

pub returns-then-not-is_recorded-clause-refused : goal.returns-then-not-is_recorded-clause-refused
returns-then-not-is_recorded-clause-refused c =
    let held = c.in-Ok.held in
    let has = subst (λ (b : BookValue). slice_get b.desk.workers c.args.w ≡ Some (Some held)) c.self.view_is c.in-Ok.ensures.ok in
    rw has (refl, λ out. false≢true (c.if-not-is_recorded.ensures.1 out))

-- the lease is what the desk has of it
is_held : (x : ScheduleValue) (w : ℕ) (lease : LeaseValue) (held : Held) → HasLease x w held
    → HasStream x held.stream (IsRecorded lease held) → IsHeldBy x w lease
is_held x w lease held here recorded other stream mine its =
    let same : held ≡ other = cc in
    let there = subst (λ (h : Held). HasStream x h.stream (IsRecorded lease h)) same recorded in
    subst (λ o. IsSomeAnd o (IsRecorded lease other)) its there

pub take_back-number-requires-clause-recorded : goal.take_back-number-requires-clause-recorded
take_back-number-requires-clause-recorded c =
    let held = c.in-Ok.held in
    let recorded = subst (λ (b : BookValue). HasStream b.desk held.stream (IsRecorded c.args.lease held)) (sym c.self.view_is)
    (c.if-not-is_recorded.ensures.0 refl) in
    is_held c.self.inside.desk c.args.w c.args.lease held c.in-Ok.ensures.ok recorded

pub take_back-number-requires-clause-holds : goal.take_back-number-requires-clause-holds
take_back-number-requires-clause-holds c = c.in-Ok.ensures.ok

pub push_reserved-requires : goal.push_reserved-requires
push_reserved-requires c =
    let k = c.self.invariant in
    let left = desk_settled c.self.inside.desk c.take_back-number.new.self c.args.w c.args.lease c.take_back-number.result
    c.in-Ok.held c.in-Ok.ensures.ok c.take_back-number.ensures.job in
    omega (arith, left.places, k.is_book.fits, k.reserved, length-reverse c.self.inside.journal.items)

pub index_mut-requires : goal.index_mut-requires
index_mut-requires c =
    omega (
      arith,
      slice_get_within c.self.inside.desk.workers c.args.w (Some c.in-Ok.held) c.in-Ok.ensures.ok,
      c.self.invariant.is_book.workers,
    )

inside : (c : goal.After-settlement_of) → c.args.w < length c.self.inside.units.items
inside c =
    omega (
      arith,
      slice_get_within c.self.inside.desk.workers c.args.w (Some c.in-Ok.held) c.in-Ok.ensures.ok,
      c.self.invariant.is_book.workers,
    )

pub overflow_add-index_mut : goal.overflow_add-index_mut
overflow_add-index_mut c =
    let k = c.self.invariant in
    let items = c.self.inside.units.items in
    let w = c.args.w in
    let within : w < length items =
    omega (
      arith,
      slice_get_within c.self.inside.desk.workers w (Some c.in-Ok.held) c.in-Ok.ensures.ok,
      k.is_book.workers,
    ) in
    let was : c.index_mut.result.now ≡ slice_index_or items w 0 =
    get_or_read items w c.index_mut.result.now within c.index_mut.ensures.value 0 in
    let few = k.few w (slice_index_or items w 0) (slice_get-get_or items w 0 within) in
    let fits = k.is_book.fits in
    omega (arith, was, few, fits, k.limit, length-reverse c.self.inside.journal.items)

entered : (c : goal.After-settlement_of) → IsEntered (book c.self.inside) (Worker c.args.w)
    (Settled c.args.lease.used (is_some c.take_back-number.result)) c.take_back-number.new.self
    (with_units c.args.w (spent_of c.args.lease) (book c.self.inside)).units 0
entered c =
    let recorded : HasStream c.self.inside.desk c.in-Ok.held.stream (IsRecorded c.args.lease c.in-Ok.held) =
    subst (λ (b : BookValue). HasStream b.desk c.in-Ok.held.stream (IsRecorded c.args.lease c.in-Ok.held))
    (sym c.self.view_is) (c.if-not-is_recorded.ensures.0 refl) in
    let within : c.args.lease.used ≤ c.args.lease.granted = omega arith in
    settle_entered (book c.self.inside) c.args.w c.args.lease c.take_back-number.result c.in-Ok.held c.take_back-number.new.self
    c.self.invariant.is_book c.in-Ok.ensures.ok recorded c.in-Ok.ensures.unused within
    c.take_back-number.ensures.events c.take_back-number.ensures.job

units : (c : goal.After-settlement_of)
    → slice_set c.self.inside.units.items c.args.w (c.index_mut.result.now + c.spent-units.result)
    ≡ (with_units c.args.w (spent_of c.args.lease) (book c.self.inside)).units
units c =
    let items = c.self.inside.units.items in
    ap (slice_set items c.args.w) (let was = get_or_read items c.args.w c.index_mut.result.now (inside c)
    c.index_mut.ensures.value 0 in omega (arith, was, c.spent-units.ensures))

made : (c : goal.After-settlement_of)
    → c.new.result ≡ entry_of (Worker c.args.w) (Settled c.args.lease.used (is_some c.take_back-number.result))
made c = c.new.ensures ∙ rw (c.used-bands.ensures.value, c.is_some.ensures) refl

pub invariant_of-self : goal.invariant_of-self
invariant_of-self c =
    let act = Settled c.args.lease.used (is_some c.take_back-number.result) in
    let few : c.spent-units.result ≤ 2 ^ 32 = omega arith in
    let more = few_more c.self.inside.units.items c.args.w (spent_of c.args.lease) (inside c)
    (rw (← c.spent-units.ensures) few) in
    kept c.self.inside _ (Worker c.args.w) act 0 c.self.invariant (record {
      opening = refl;
      limit = refl;
      items = c.push_reserved.ensures.items ∙ ap (λ e. c.self.inside.journal.items ++ e ∷ []) (made c);
      capacity = c.push_reserved.ensures.capacity;
      ending = refl;
    }) (rw (units c) (entered c)) (omega arith) (rw (units c) more)

pub returns-clause-entry : goal.returns-clause-entry
returns-clause-entry c =
    let act = Settled c.args.lease.used (is_some c.take_back-number.result) in
    let z : Inside = record {
      opening = c.self.inside.opening;
      desk = c.take_back-number.new.self;
      journal = c.push_reserved.new.self;
      limit = c.self.inside.limit;
      taken = c.self.inside.taken;
      units = with_item c.self.inside.units c.args.w (c.index_mut.result.now + c.spent-units.result);
      is_ending = c.self.inside.is_ending;
    } in
    let pushed : IsPushed c.self.inside z (Worker c.args.w) act = record {
      opening = refl;
      limit = refl;
      items = c.push_reserved.ensures.items ∙ ap (λ e. c.self.inside.journal.items ++ e ∷ []) (made c);
      capacity = c.push_reserved.ensures.capacity;
      ending = refl;
    } in
    let finished : is_some c.take_back-number.result ≡ is_finished c.settlement_of.result =
    finished_as c.take_back-number.result ∙ ap is_finished (sym c.settlement_of.ensures) in
    subst (λ f. Appends (Worker c.args.w) (Settled c.args.lease.used f)
    (with_units c.args.w (spent_of c.args.lease) c.args.self.now) (book z)) finished
    (appends_spent c.self.inside z c.args.self.now (Worker c.args.w) act c.args.w (spent_of c.args.lease) 0
    c.self.view_is pushed (rw (units c) (entered c)) (units c))

pub returns-clause-recorded : goal.returns-clause-recorded
returns-clause-recorded c =
    let held = c.in-Ok.held in
    let has = subst (λ (b : BookValue). slice_get b.desk.workers c.args.w ≡ Some (Some held)) c.self.view_is c.in-Ok.ensures.ok in
    rw has (c.if-not-is_recorded.ensures.0 refl)

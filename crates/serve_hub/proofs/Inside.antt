-- What a book keeps after an accepted call.
use Rattle.std.proofs.Common.{ℕ, ◌+◌, ◌^◌, ◌≡◌, ◌≤◌, List, [], ◌∷◌, ◌++◌, length, reverse, Some, slice_get}
use Rattle.std.proofs.Common.{◌<◌, Bool, true, false, if◌then◌else◌, inl, inr, slice_index_or, slice_set, refl, sym, ◌∙◌, ap, subst, arith}
use Rattle.std.proofs.lemmas.Option.{slice_get-get_or}
use Rattle.serve_core.proofs.Events.Streams.{same_or}
use Rattle.serve_core.proofs.Items.Lists.{slice_get_set_other, slice_get_set_same}
use Rattle.std.specs.Vec.{vec_capacity}
use Rattle.serve_core.specs.Schedule.{ScheduleValue}
use Rattle.serve_hub.specs.declared.book.Book.TheInside.{Inside}
use Rattle.serve_hub.specs.declared.entry.Act.{Act}
use Rattle.serve_hub.specs.declared.entry.Entry.{Entry}
use Rattle.serve_hub.specs.declared.entry.Seat.{Seat}
use Rattle.serve_hub.specs.BookInside.{IsKept, book}
use Rattle.serve_hub.specs.Books.{Appends, BookValue, IsBook, being_ended, entries_left, room, taken, with_units}
use Rattle.serve_hub.specs.Journal.{entry_of}
use Rattle.serve_hub.proofs.Entered.{IsEntered}
use Rattle.serve_hub.proofs.Kept.{grown, pushed}

length-push : (xs : List Entry) (e : Entry) → length (xs ++ e ∷ []) ≡ length xs + 1
length-push [] e = refl
length-push (x ∷ xs) e = let more = length-push xs e in omega (arith, more)

same_book : (o o' d : ScheduleValue) (p p' : List Entry) (l l' : ℕ) (u : List ℕ) (b b' : Bool) → o ≡ o' → p ≡ p' → l ≡ l'
    → b ≡ b'
    → let v : BookValue = record { opening = o; past = p; desk = d; limit = l; units = u; is_ending = b } in
    let w : BookValue = record { opening = o'; past = p'; desk = d; limit = l'; units = u; is_ending = b' } in v ≡ w
same_book o o' d p p' l l' u b b' e f g h = cc

-- z is a with one entry more at the end of its journal
pub record IsPushed (a z : Inside) (seat : Seat) (act : Act) : Type 0 where
  pub opening : z.opening.value ≡ a.opening.value
  pub limit : z.limit ≡ a.limit
  pub items : z.journal.items ≡ a.journal.items ++ entry_of seat act ∷ []
  pub capacity : vec_capacity z.journal ≡ vec_capacity a.journal
  pub ending : z.is_ending ≡ a.is_ending

pub book_grown : (a z : Inside) (seat : Seat) (act : Act) → IsPushed a z seat act
    → book z ≡ grown (book a) seat act z.desk z.units.items
book_grown a z seat act p =
    same_book z.opening.value a.opening.value z.desk (reverse z.journal.items)
    (entry_of seat act ∷ reverse a.journal.items) z.limit a.limit z.units.items z.is_ending a.is_ending p.opening
    (pushed a.journal.items z.journal.items (entry_of seat act) p.items) p.limit p.ending

-- no worker's units rise by more than 2^32
abbrev pub AreFewMore : List ℕ → List ℕ → Type 0
AreFewMore old new =
    (w n : ℕ) → slice_get new w ≡ Some n → (m : ℕ) × (slice_get old w ≡ Some m) × (n ≤ m + 2 ^ 32)

pub no_more : (units : List ℕ) → AreFewMore units units
no_more units w n e = (n, e, omega arith)

pub kept : (a z : Inside) (seat : Seat) (act : Act) (more : ℕ) → IsKept a → IsPushed a z seat act
    → IsEntered (book a) seat act z.desk z.units.items more → z.taken ≡ a.taken + more
    → AreFewMore a.units.items z.units.items → IsKept z
kept a z seat act more k p h count few =
    let grows = book_grown a z seat act p in
    let longer : length z.journal.items ≡ length a.journal.items + 1 =
    ap length p.items ∙ length-push a.journal.items (entry_of seat act) in
    record {
      is_book = subst IsBook (sym grows) h.is_book;
      counted = omega (arith, count, k.counted, h.count, ap taken grows);
      limit = omega (arith, p.limit, k.limit);
      reserved = omega (arith, p.limit, p.capacity, k.reserved);
      few = λ w n e.
          let f = few w n e in
          omega (arith, f.2, k.few w f.0 f.1, longer);
    }

-- a call that leaves the units appends its entry
pub appends : (a z : Inside) (old : BookValue) (seat : Seat) (act : Act) (more : ℕ) → book a ≡ old
    → IsPushed a z seat act → IsEntered (book a) seat act z.desk z.units.items more
    → z.units.items ≡ a.units.items → Appends seat act old (book z)
appends a z old seat act more is p h same =
    subst (λ (o : BookValue). Appends seat act o (book z)) is (record {
      book = book_grown a z seat act p ∙ ap (grown (book a) seat act z.desk) same;
      events = h.led;
      fits = subst (λ (x : BookValue). length x.past ≤ x.limit) (sym (book_grown a z seat act p))
          (omega (arith, h.is_book.fits));
    })

-- and a settlement appends its own, with the units that were spent
pub appends_spent : (a z : Inside) (old : BookValue) (seat : Seat) (act : Act) (w spent more : ℕ) → book a ≡ old
    → IsPushed a z seat act → IsEntered (book a) seat act z.desk z.units.items more
    → z.units.items ≡ (with_units w spent (book a)).units
    → Appends seat act (with_units w spent old) (book z)
appends_spent a z old seat act w spent more is p h same =
    subst (λ (o : BookValue). Appends seat act (with_units w spent o) (book z)) is (record {
      book = book_grown a z seat act p ∙ ap (grown (book a) seat act z.desk) same;
      events = h.led;
      fits = subst (λ (x : BookValue). length x.past ≤ x.limit) (sym (book_grown a z seat act p))
          (omega (arith, h.is_book.fits));
    })

-- one worker's units rise by what was spent
pub few_more : (units : List ℕ) (w spent : ℕ) → w < length units → spent ≤ 2 ^ 32
    → AreFewMore units (slice_set units w (slice_index_or units w 0 + spent))
few_more units w spent inside few v n e =
    elim (same_or w v) [
      | inl p ↦ (
          let was = slice_index_or units w 0 in
          let here : slice_get units v ≡ Some was =
          subst (λ (i : ℕ). slice_get units i ≡ Some was) p.0 (slice_get-get_or units w 0 inside) in
          let new : slice_get (slice_set units w (was + spent)) v ≡ Some (was + spent) =
          subst (λ (i : ℕ). slice_get (slice_set units w (was + spent)) i ≡ Some (was + spent)) p.0
          (slice_get_set_same units w (was + spent) inside) in
          let value : n ≡ was + spent = cc in
          (was, here, omega (arith, value, few)))
      | inr p ↦ (n, sym (slice_get_set_other units w v _ (λ q. p.0 (sym q))) ∙ e, omega arith)
    ]

-- where entries may be added, the journal has them left

room_left : (b : Bool) (n need : ℕ) → need ≤ (if b then 0 else n) → need ≤ n
room_left true n need has = omega (arith, has)
room_left false n need has = has

pub has_left : (b : BookValue) (need : ℕ) → need ≤ room b → need ≤ entries_left b
has_left b need has = room_left b.is_ending (entries_left b) need has

-- a book whose epoch is being ended is one still
pub still_book : (b : BookValue) → IsBook b → IsBook (being_ended b)
still_book b is = record {
  sound = is.sound;
  journal = is.journal;
  workers = is.workers;
  units = is.units;
  charges = is.charges;
  fits = is.fits;
}

-- Seats that agree with a book, or don't.
use Rattle.std.proofs.Common.{ℕ, zero, suc, ◌≡◌, ◌↔◌, ◌<◌, ◌≤◌, ◌∙◌, All, IsTrue, List, [], ◌∷◌, ◌++◌, Option, true, false, ap, drop, filter, length}
use Rattle.std.proofs.Common.{map, reverse, slice_index_or, subst, sym, take, arith}
use Rattle.std.proofs.lemmas.List.{map-append, reverse-reverse, take-append-drop}
use Rattle.std.proofs.lemmas.List.Elements.{filter-append}
use Rattle.std.proofs.Math.Seq.{drop-cons}
use Rattle.serve_hub.specs.declared.ended.Fault.{Fault}
use Rattle.serve_hub.specs.declared.entry.Act.{Act}
use Rattle.serve_hub.specs.declared.entry.Entry.{Entry}
use Rattle.serve_hub.specs.declared.entry.Seat.{Seat}
use Rattle.serve_hub.specs.Books.{BookValue}
use Rattle.serve_hub.specs.Ends.{Agree, AreStreamCalls, AreWorkCalls, IsFault, acts_of, is_same_seat}
use Rattle.serve_hub.specs.Seats.{StreamSeatValue, WorkSeatValue}
use Rattle.serve_hub.proofs.Retiring.{filter_in}

-- by the journal with the oldest entry first
pub streams_by : (journal past : List Entry) (seats : List StreamSeatValue) → reverse journal ≡ past
    → AreStreamCalls journal seats → AreStreamCalls (reverse past) seats
streams_by journal past seats e calls =
    subst (λ (xs : List Entry). AreStreamCalls xs seats) (sym (reverse-reverse journal) ∙ ap reverse e) calls

pub workers_by : (journal past : List Entry) (seats : List WorkSeatValue) → reverse journal ≡ past
    → AreWorkCalls journal seats → AreWorkCalls (reverse past) seats
workers_by journal past seats e calls =
    subst (λ (xs : List Entry). AreWorkCalls xs seats) (sym (reverse-reverse journal) ∙ ap reverse e) calls

-- the same, by other names of the numbers and of the book
pub agree_at : (a b w v l m : ℕ) (x y : BookValue) (streams : List StreamSeatValue) (workers : List WorkSeatValue)
    → a ≡ b → w ≡ v → l ≡ m → x ≡ y → Agree a w l x streams workers → Agree b v m y streams workers
agree_at a b w v l m x y streams workers e f g h agree =
    subst (λ (n : ℕ). Agree n v m y streams workers) e
    (subst (λ (n : ℕ). Agree a n m y streams workers) f
    (subst (λ (n : ℕ). Agree a w n y streams workers) g
    (subst (λ (z : BookValue). Agree a w l z streams workers) h agree)))

pub fault_at : (fault : Option Fault) (a b w v l m : ℕ) (x y : BookValue) (streams : List StreamSeatValue)
    (workers : List WorkSeatValue) → a ≡ b → w ≡ v → l ≡ m → x ≡ y → IsFault fault a w l x streams workers
    → IsFault fault b v m y streams workers
fault_at fault a b w v l m x y streams workers e f g h is =
    subst (λ (n : ℕ). IsFault fault n v m y streams workers) e
    (subst (λ (n : ℕ). IsFault fault a n m y streams workers) f
    (subst (λ (n : ℕ). IsFault fault a w n y streams workers) g
    (subst (λ (z : BookValue). IsFault fault a w l z streams workers) h is)))

-- where one hasn't what all should have
pub not_here : {X : Type 0} (P : X → Type 0) (xs : List X) (i : ℕ) (x : X) → i < length xs → x ≡ slice_index_or xs i x
    → (IsTrue false ↔ P x) → (IsTrue false ↔ All P xs)
not_here P xs i x less here lacks = (λ yes. absurd (cc), λ all. lacks.1 (subst P (sym here) (all i x less)))

acts_joined : (seat : Seat) (xs ys : List Entry) → acts_of seat (xs ++ ys) ≡ acts_of seat xs ++ acts_of seat ys
acts_joined seat xs ys =
    let own = λ (e : Entry). is_same_seat seat e.seat in
    ap (map (λ (e : Entry). e.act)) (filter-append own xs ys) ∙ map-append (λ (e : Entry). e.act) (filter own xs) (filter own ys)

-- the act of an entry of the seat is among the seat's, behind those before it
acts_at : (seat : Seat) (journal : List Entry) (i : ℕ) (d : Entry) → i < length journal
    → let e = slice_index_or journal i d in is_same_seat seat e.seat ≡ true
    → acts_of seat journal ≡ acts_of seat (take i journal) ++ e.act ∷ acts_of seat (drop (suc i) journal)
acts_at seat journal i d less own =
    let e = slice_index_or journal i d in
    let rest = drop (suc i) journal in
    ap (acts_of seat) (sym (take-append-drop i journal) ∙ ap (λ (xs : List Entry). take i journal ++ xs) (drop-cons journal i d less))
    ∙ acts_joined seat (take i journal) (e ∷ rest)
    ∙ ap (λ (xs : List Entry). acts_of seat (take i journal) ++ map (λ (x : Entry). x.act) xs)
    (filter_in (λ (x : Entry). is_same_seat seat x.seat) e rest own)

-- what is behind the first calls is the next
next_is : (next : ℕ) (calls rest : List Act) (act : Act) → next ≤ length calls → take next calls ++ act ∷ rest ≡ calls
    → (next < length calls) × ((d : Act) → slice_index_or calls next d ≡ act)
next_is zero [] rest act l e = absurd (cc)
next_is zero (call ∷ calls) rest act l e = (omega arith, λ d. (cc))
next_is (suc n) [] rest act l e = absurd (omega (arith, l))
next_is (suc n) (call ∷ calls) rest act l e =
    let tail : take n calls ++ act ∷ rest ≡ calls = cc in
    let it = next_is n calls rest act (omega (arith, l)) tail in
    (omega (arith, it.0), it.1)

-- where the calls are what the journal has of the seat, so is the next of them
pub next_call : (seat : Seat) (journal : List Entry) (calls : List Act) (i next : ℕ) (d : Entry) → i < length journal
    → next ≤ length calls → acts_of seat (take i journal) ≡ take next calls
    → let e = slice_index_or journal i d in is_same_seat seat e.seat ≡ true → acts_of seat journal ≡ calls
    → (next < length calls) × ((c : Act) → slice_index_or calls next c ≡ e.act)
next_call seat journal calls i next d less within so_far own all =
    let e = slice_index_or journal i d in
    let rest = acts_of seat (drop (suc i) journal) in
    next_is next calls rest e.act within
    (ap (λ (xs : List Act). xs ++ e.act ∷ rest) (sym so_far) ∙ sym (acts_at seat journal i d less own) ∙ all)

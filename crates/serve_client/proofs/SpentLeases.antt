-- Leases that were settled with their whole grants.
use Rattle.std.proofs.Common.{ℕ, ◌≡◌, ◌<◌, ◌+◌, All, Bool, List, [], ◌∷◌, ◌++◌, Option, None, Some, get_or, length, reverse, take}
use Rattle.std.proofs.Common.{◌∙◌, ap, append_assoc, refl, sym, subst}
use Rattle.std.proofs.lemmas.List.{take_more}
use Rattle.serve_hub.specs.declared.entry.Act.{Act}
use Rattle.serve_hub.specs.declared.entry.Act.TheVariants.{Leased, Settled}
use Rattle.serve_hub.specs.declared.entry.Entry.{Entry}
use Rattle.serve_hub.specs.declared.entry.Seat.TheVariants.{Worker}
use Rattle.serve_hub.specs.Ends.{AreWorkCalls, HaveWorkers, acts_of}
use Rattle.serve_hub.specs.Seats.{WorkSeatValue}
use Rattle.serve_client.specs.Workers.{AreSpent, HasLast, HaveSpent}
use Rattle.serve_client.proofs.Working.{spent_then}

-- calls up to here: the latest is a lease with this grant, if one is given
abbrev pub StandSpent : Option ℕ → List Act → Type 0
StandSpent None calls = AreSpent calls
StandSpent (Some grant) calls = (last : HasLast calls) × (last.grant ≡ grant)

module _ (calls : List Act) (i : ℕ) (d : Act) (before after : Option ℕ) (less : i < length calls)
    (stand : StandSpent before (take i calls)) where
  one_more : (act : Act) → get_or calls i d ≡ act → take (i + 1) calls ≡ take i calls ++ act ∷ []
  one_more act is = take_more calls i d less ∙ ap (λ (next : Act). take i calls ++ next ∷ []) is

  -- a lease comes
  pub then_leased : (stream number grant : ℕ) → before ≡ None → get_or calls i d ≡ Leased stream number grant
      → after ≡ Some grant → StandSpent after (take (i + 1) calls)
  then_leased stream number grant none is after_is =
      subst (λ (o : Option ℕ). StandSpent o (take (i + 1) calls)) (sym after_is) (
        record {
          spent = take i calls;
          stream = stream;
          number = number;
          grant = grant;
          are_spent = subst (λ (o : Option ℕ). StandSpent o (take i calls)) none stand;
          last = one_more (Leased stream number grant) is;
        },
        refl,
      )

  -- and its settlement
  pub then_settled : (grant bands : ℕ) (finished : Bool) → before ≡ Some grant → get_or calls i d ≡ Settled bands finished
      → bands ≡ grant → after ≡ None → StandSpent after (take (i + 1) calls)
  then_settled grant bands finished some is same after_is =
      let held : StandSpent (Some grant) (take i calls) = subst (λ (o : Option ℕ). StandSpent o (take i calls)) some stand in
      let last = held.0 in
      let settled : List Act → List Act = λ front. front ++ Settled bands finished ∷ [] in
      let all : take (i + 1) calls ≡ last.spent ++ Leased last.stream last.number last.grant ∷ Settled bands finished ∷ [] =
      one_more (Settled bands finished) is ∙ ap settled last.last
      ∙ append_assoc last.spent (Leased last.stream last.number last.grant ∷ []) (Settled bands finished ∷ []) in
      subst (λ (o : Option ℕ). StandSpent o (take (i + 1) calls)) (sym after_is) (subst AreSpent (sym all)
      (spent_then last.spent last.stream last.number last.grant bands finished last.are_spent (same ∙ sym held.1)))

-- where each worker's seat keeps such calls, the journal has no others of them
pub seats_have_spent : (workers : ℕ) (journal : List Entry) (seats : List WorkSeatValue) → AreWorkCalls (reverse journal) seats
    → HaveWorkers workers seats → All (λ s. AreSpent s.calls.list) seats → HaveSpent workers journal
seats_have_spent workers journal seats calls have spent = λ n less.
    let found = have n less in
    let k = found.0 in
    let seat = found.1 in
    let here = found.3 in
    let own : acts_of (Worker seat.number) (reverse journal) ≡ seat.calls.list =
    subst (λ (s : WorkSeatValue). acts_of (Worker s.number) (reverse journal) ≡ s.calls.list) here (calls k seat found.2) in
    let whole : AreSpent seat.calls.list = subst (λ (s : WorkSeatValue). AreSpent s.calls.list) here (spent k seat found.2) in
    subst (λ (n : ℕ). AreSpent (acts_of (Worker n) (reverse journal))) found.4 (subst AreSpent (sym own) whole)

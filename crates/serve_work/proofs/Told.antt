-- How a session's epochs are told.
use Rattle.std.specs.Prelude.{All, reverse}
use Rattle.std.specs.List.{AllByRecursion}
use Rattle.std.proofs.Common.{◌≡◌, ◌≢◌, ℕ, zero, suc, ◌<◌, ◌+◌, List, [], ◌∷◌, ◌++◌, length, map, inl, inr, refl, sym, ap, ◌∙◌, subst, arith}
use Rattle.serve_core.specs.Desk.{desk_state}
use Rattle.serve_core.specs.Schedule.{ScheduleValue, opened_schedule}
use Rattle.serve_core.specs.Setup.{IsSetup, Setup, StreamSpec}
use Rattle.serve_hub.specs.Books.{specs_of}
use Rattle.serve_hub.specs.Ends.{AreStreamCalls, ClocksReached, EndedValue, IsEndOf}
use Rattle.serve_hub.specs.Seats.{HubValue, StreamSeatValue, WorkSeatValue}
use Rattle.serve_client.specs.Workers.{AreSpent, HaveSpent}
use Rattle.serve_client.proofs.SpentLeases.{seats_have_spent}
use Rattle.serve_work.specs.declared.session.interval.Interval.{Interval}
use Rattle.serve_work.specs.Entries.{AreTimed}
use Rattle.serve_work.specs.History.{EpochValue, HasEnded, IsAtTimes, IsEpochBy, IsHistory, IsLeftAt, IsTimed, OpensBehind, OpensHub, Terms}
use Rattle.serve_work.specs.History.{epoch_of, journal_of, terms_with}
use Rattle.serve_work.specs.Intervals.{AreFrom, AreTold, Beginning, HasNoCalls, IsBeginning, IsBetween, IsByTerms, LeadsTo}
use Rattle.serve_work.specs.Live.{Waiting}
use Rattle.serve_work.specs.Sessions.{AllTimed, IsJustEnded, OpensInTurn}
use Rattle.serve_work.specs.SessionInside.{AllBegin, AllGoOn, BeginsAgain, HeldValue}
use Rattle.serve_client.specs.Clients.{ClientStart}
use Rattle.serve_work.proofs.Intervals.{leads_on}
use Rattle.serve_work.proofs.Living.{is_epoch, reached_at}
use Rattle.serve_work.proofs.SessionTurns.{all_timed, all_went, each_timed, none_yet, same_length, zip_length}
use Rattle.serve_work.proofs.Times.{timed_too}

no_epoch : (epoch : EpochValue) (before : List EpochValue) → epoch ∷ before ≡ [] → ⊥
no_epoch epoch before e = absurd (omega (arith, ap length e))

-- a history by a clock is one by times that it may give
module _ (terms : Terms) (Gives times : ℕ → Type 0) (given : (at : ℕ) → Gives at → times at) where
  left_too : (epoch : EpochValue) → IsLeftAt terms Gives epoch → IsLeftAt terms times epoch
  left_too epoch (inl on) = inl (on.0, given on.0 on.1, on.2)
  left_too epoch (inr stays) = inr stays

  times_too : (epoch : EpochValue) → IsAtTimes Gives epoch → IsAtTimes times epoch
  times_too epoch each s less =
      timed_too Gives times given s (specs_of epoch.last) (desk_state epoch.opening) epoch.journal (each s less)

  all_too : (es : List EpochValue) → AllByRecursion (IsTimed terms Gives) es → AllByRecursion (IsTimed terms times) es
  all_too [] p = tt
  all_too (epoch ∷ es) p =
      (record { each = times_too epoch p.0.each; goes_on = left_too epoch p.0.goes_on }, all_too es p.1)

  history_too : (es : List EpochValue) → IsHistory terms Gives es → IsHistory terms times es
  history_too es h = record { epochs_are = h.epochs_are; timed = all_too es h.timed }

-- what opens in turn opens behind epochs that were told where they ended
pub opens_behind : (terms : Terms) (b : Beginning) (es : List EpochValue) (from : ScheduleValue) → IsByTerms terms b
    → AllByRecursion IsJustEnded es → OpensInTurn b.limit b.schedule from es → OpensBehind terms es from
opens_behind terms b [] from by ended opens = inl (subst (OpensHub terms []) (sym opens) by.opens)
opens_behind terms b (epoch ∷ es) from by ended opens = inr (ended.0.goes_on, inl (opens.0 ∙ sym ended.0.stays))

-- what holds of the number of each stream
at_number : (P : ℕ → Type 0) (first : ℕ) (starts : List ClientStart) → AreFrom first starts
    → AllByRecursion (λ start. P start.seat.number) starts → (k n : ℕ) → n ≡ first + k → k < length starts → P n
at_number P first [] from all k n same less = absurd (omega (arith, less))
at_number P first (start ∷ starts) from all zero n same less = subst P (from.0 ∙ (omega (arith, same))) all.0
at_number P first (start ∷ starts) from all (suc k) n same less =
    at_number P (suc first) starts from.1 all.1 k n (omega (arith, same)) (omega (arith, less))

-- an epoch that ended, behind these
module _ (Gives : ℕ → Type 0) (terms : Terms) (b : Beginning) (es : List EpochValue) (from : ScheduleValue) (hub : HubValue)
    (helds after : List HeldValue) (seats : List StreamSeatValue) (work : List WorkSeatValue) (ended : EndedValue)
    (end : IsEndOf from hub seats work ended) (own : seats ≡ map (λ held. held.seat) after) (went : AllGoOn Gives helds after)
    (spent : All (λ s. AreSpent s.calls.list) work) (begun : IsBeginning b) (past : LeadsTo b.schedule (journal_of es) from)
    (stand : AllBegin (journal_of es) b.starts helds) (none : AllByRecursion (λ held. HasNoCalls held.seat) helds)
    (of_limit : hub.limit ≡ b.limit) (by : IsByTerms terms b) where
  as_many : length ended.book.desk.streams ≡ length b.schedule.streams
  as_many = omega (
    arith,
    end.agree.there.0,
    ap length own,
    same_length (λ (held : HeldValue). held.seat) after,
    all_went Gives helds after went,
    zip_length (BeginsAgain (journal_of es)) b.starts helds stand,
    begun.each,
  )

  pub calls_are : AreStreamCalls (reverse ended.book.past) (map (λ held. held.seat) after)
  calls_are = subst (AreStreamCalls (reverse ended.book.past)) own end.agree.of_streams

  pub led : LeadsTo b.schedule (ended.book.past ++ journal_of es) ended.book.desk
  led = leads_on b.schedule from (journal_of es) ended.book past end.is_book end.history.same as_many

  -- its frames were offered at moments of the clock
  frames_timed : AllByRecursion
      (λ start. AreTimed Gives start.seat.number (specs_of ended.book.desk) (desk_state ended.book.opening) ended.book.past) b.starts
  frames_timed =
      each_timed Gives (journal_of es) ended.book.past (specs_of ended.book.desk) (desk_state ended.book.opening) b.starts helds after
      end.is_book.journal.entries stand went calls_are (subst (ClocksReached ended.book) own end.agree.clock_reached) none

  at_times : IsAtTimes Gives (epoch_of ended [])
  at_times s less =
      at_number (λ n. AreTimed Gives n (specs_of ended.book.desk) (desk_state ended.book.opening) ended.book.past) 0 b.starts
      begun.numbers frames_timed s s (omega arith) (omega (arith, less, as_many, begun.each))

  pub moments_on : AllTimed Gives b.schedule (journal_of es) b.starts
      → AllTimed Gives b.schedule (ended.book.past ++ journal_of es) b.starts
  moments_on before =
      all_timed Gives (journal_of es) ended.book.past b.schedule from b.starts past.is_journal.leads.1 before
      (subst (λ (x : ScheduleValue). AllByRecursion
      (λ start. AreTimed Gives start.seat.number (specs_of b.schedule) (desk_state x) ended.book.past) b.starts) end.history.same
      (subst (λ (specs : List StreamSpec). AllByRecursion
      (λ start. AreTimed Gives start.seat.number specs (desk_state ended.book.opening) ended.book.past) b.starts) led.specs
      frames_timed))

  epoch_is : IsEpochBy terms (epoch_of ended [])
  epoch_is =
      is_epoch terms Gives es from ended.book end.is_book (reached_at from ended.book end.history) end.history.same
      (end.agree.limit ∙ of_limit ∙ by.limit) end.agree.free
      (subst (λ (n : ℕ). HaveSpent n ended.book.past) (sym end.all_workers)
      (seats_have_spent hub.workers ended.book.past work end.agree.of_workers end.agree.each_worker spent))
      ended.streams [] ended.book.desk (inl refl)

  opens : AllByRecursion IsJustEnded es → OpensInTurn b.limit b.schedule from es → OpensBehind terms es ended.book.opening
  opens just opens_in =
      subst (OpensBehind terms es) (sym end.history.same) (opens_behind terms b es from by just opens_in)

  pub opened_in_turn : OpensInTurn b.limit b.schedule from es → OpensInTurn b.limit b.schedule ended.book.opening es
  opened_in_turn = subst (λ (x : ScheduleValue). OpensInTurn b.limit b.schedule x es) (sym end.history.same)

  -- a chronicle may be told of it
  pub may_tell : (stands : List EpochValue → List Waiting → Type 0) (times : ℕ → Type 0) → ((at : ℕ) → Gives at → times at)
      → AreTold stands terms Gives b es → OpensInTurn b.limit b.schedule from es → HasEnded terms times es (epoch_of ended [])
  may_tell stands times given t opens_in = record {
    before = history_too terms Gives times given es t.history;
    opens = opens t.at_end opens_in;
    is_epoch = epoch_is;
    timed = times_too terms Gives times given (epoch_of ended []) at_times;
  }

  -- and then it was
  pub one_told : (stood stands : List EpochValue → List Waiting → Type 0) → AreTold stood terms Gives b es
      → OpensInTurn b.limit b.schedule from es → stands (epoch_of ended [] ∷ es) [] → AreTold stands terms Gives b (epoch_of ended [] ∷ es)
  one_told stood stands t opens_in told = record {
    told = told;
    by_terms = by;
    at_end = (record { stays = refl; goes_on = refl }, t.at_end);
    history = record {
      epochs_are = (epoch_is, opens t.at_end opens_in, t.history.epochs_are);
      timed = (record { each = at_times; goes_on = inr (by.together, refl) }, t.history.timed);
    };
    moments = moments_on t.moments;
  }

-- where a session begins nothing was told
pub told_first : (Gives : ℕ → Type 0) (terms : Terms) (stands : List EpochValue → List Waiting → Type 0) (setup : Setup) (limit : ℕ)
    (starts : List ClientStart) → terms_with setup limit ≡ terms → IsSetup setup → stands [] []
    → AreTold stands terms Gives (record { schedule = opened_schedule setup; starts = starts; limit = limit }) []
told_first Gives terms stands setup limit starts same good none =
    let b : Beginning = record { schedule = opened_schedule setup; starts = starts; limit = limit } in
    let by : IsByTerms (terms_with setup limit) b = record {
      limit = refl;
      together = refl;
      opens = (setup.streams, record { is_setup = good; opened = refl }, (refl, refl));
    } in
    record {
      told = none;
      by_terms = subst (λ (t : Terms). IsByTerms t b) same by;
      at_end = tt;
      history = record { epochs_are = tt; timed = tt };
      moments = none_yet Gives (opened_schedule setup) starts;
    }

-- where a session stands between two epochs there was one
pub behind_latest : {R W : Type 0} (b : Beginning) (es : List EpochValue) (now : Interval R W) → IsBetween b es now → es ≢ []
behind_latest b es now at none = no_epoch (epoch_of now.ended []) at.before (sym at.latest ∙ none)

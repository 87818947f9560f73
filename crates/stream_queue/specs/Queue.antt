use Rattle.std.specs.Prelude.{◌≡◌, ℕ, ◌+◌, ◌-◌, ◌<◌, ◌≤◌, Bool, true, false, if◌then◌else◌, List, [], ◌∷◌}
use Rattle.std.specs.Prelude.{◌++◌, length, drop, slice_get, Option, None, refl}
use Rattle.std.specs.Coded.{Coded, code_by, coded×, coded_list, coded_ℕ, coded_bool}

-- a numbered list of items with at most one of them out
pub record Queue (X : Type 0) : Type 0 where
  -- the items that wait, the next one first
  pub waiting : List X
  -- whether the item before them is out
  pub is_out : Bool
  -- how many items were accepted, and how many of these have finished
  pub accepted : ℕ
  pub finished : ℕ
  -- whether no more is accepted
  pub is_closed : Bool
  -- how many items may be unfinished at once
  pub capacity : ℕ

module _ {X : Type 0} where
  -- nothing was offered yet
  abbrev pub opened : ℕ → Queue X
  opened capacity = record {
    waiting = [];
    is_out = false;
    accepted = 0;
    finished = 0;
    is_closed = false;
    capacity = capacity;
  }

  abbrev pub out_count : Queue X → ℕ
  out_count q = if q.is_out then 1 else 0

  -- the item that is out and those that wait are those accepted and not finished, and each has a place
  pub record IsQueue (q : Queue X) : Type 0 where
    pub unfinished : q.finished + out_count q + length q.waiting ≡ q.accepted
    pub within : q.accepted ≤ q.finished + q.capacity

  -- each unfinished item has a place, the one that is out too
  abbrev pub HasRoom : Queue X → Type 0
  HasRoom q = q.accepted - q.finished < q.capacity

  abbrev pub IsFull : Queue X → Type 0
  IsFull q = q.accepted - q.finished ≡ q.capacity

  -- the item that goes out next: none while one is out
  abbrev pub front : Queue X → Option X
  front q = if q.is_out then None else slice_get q.waiting 0

  -- a new item waits behind all others
  abbrev pub with_last : X → Queue X → Queue X
  with_last item q = record q { waiting = q.waiting ++ item ∷ []; accepted = q.accepted + 1 }

  -- the front item is out
  abbrev pub with_front_out : Queue X → Queue X
  with_front_out q = record q { waiting = drop 1 q.waiting; is_out = true }

  -- the item that was out is at the front again
  abbrev pub with_front : X → Queue X → Queue X
  with_front item q = record q { waiting = item ∷ q.waiting; is_out = false }

  -- the item that was out has finished
  abbrev pub with_one_finished : Queue X → Queue X
  with_one_finished q = record q { is_out = false; finished = q.finished + 1 }

  abbrev pub queue_code : Coded X → Coded (Queue X)
  queue_code c =
      let counts = coded× coded_ℕ (coded× coded_ℕ (coded× coded_bool coded_ℕ)) in
      code_by _ (coded× (coded_list c) (coded× coded_bool counts))
      (λ q. (q.waiting, (q.is_out, (q.accepted, (q.finished, (q.is_closed, q.capacity))))))
      (λ p. record {
        waiting = p.0;
        is_out = p.1.0;
        accepted = p.1.1.0;
        finished = p.1.1.1.0;
        is_closed = p.1.1.1.1.0;
        capacity = p.1.1.1.1.1;
      })
      (λ _. refl)

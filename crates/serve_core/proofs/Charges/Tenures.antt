-- The time for which a stream holds its share, until it is released: it covers what the stream was charged.
use Rattle.std.proofs.Common.{ℕ, zero, suc, ◌+◌, ◌-◌, ◌*◌, ◌≡◌, ◌≤◌, ◌⊎◌, min, Bool, true, false}
use Rattle.std.proofs.Common.{nat_le, if◌then◌else◌, refl, ap, arith, List, [], ◌∷◌, map, sum_by}
use Rattle.std.proofs.Common.{Option, Some, slice_get, le_refl, le_trans, mul-le-mul_left}
use Rattle.std.proofs.lemmas.List.Sums.{sum_by-cons}
use Rattle.cbs_account.specs.Admission.{share}
use Rattle.serve_core.specs.Counts.{Deed}
use Rattle.serve_core.specs.Laws.{demand}
use Rattle.serve_core.specs.Released.{held_share, is_released}
use Rattle.serve_core.specs.Setup.{StreamSpec}
use Rattle.serve_core.specs.Sound.{IsSound}
use Rattle.serve_core.specs.States.{StreamState, did_any}
use Rattle.serve_core.proofs.Charges.Demands.{demand_one, tested_le}
use Rattle.serve_core.proofs.Charges.Since.{IsStreamPaid, charged_since, did_since, spread}
use Rattle.serve_core.proofs.Events.Releases.{released_did, released_due, released_facts, same_spec}
use Rattle.serve_core.proofs.Events.Streams.{CanAny}

-- the time up to d for which a share was held
tenure_by : (b c : Bool) (n k d e f a : ℕ) → n ≡ k → (b ≡ true → (c ≡ true) × (f ≡ e))
    → n * ((if c then min d f else d) - a) ≤ k * ((if b then min d e else d) - a)
tenure_by true c n k d e f a same h =
    let is = h refl in
    let one : c ≡ true = is.0 in
    rw (one, is.1, same) (le_refl (k * (min d e - a)))
tenure_by false true n k d e f a same h =
    let less : min d f - a ≤ d - a = omega arith in
    rw same (mul-le-mul_left k less)
tenure_by false false n k d e f a same h = rw same (le_refl (k * (d - a)))

split_product : (n p q : ℕ) → n * (p + q) ≤ n * p + q * n
split_product n p q = omega arith

-- up to a later moment, by what is held now
tenure_on : (b : Bool) (n t d e a : ℕ) → t ≤ d → a ≤ t → (b ≡ true → e ≤ t)
    → n * ((if b then min d e else d) - a)
    ≤ n * ((if b then min t e else t) - a) + (d - t) * (if b then 0 else n)
tenure_on true n t d e a l k h =
    let due : e ≤ t = h refl in
    let same : min d e - a ≡ min t e - a = omega (arith, due, l) in
    rw same (omega arith)
tenure_on false n t d e a l k h =
    let parts : d - a ≡ (t - a) + (d - t) = omega (arith, l, k) in
    rw parts (split_product n (t - a) (d - t))

tenure_none : (b : Bool) (n e a : ℕ) → n * ((if b then min 0 e else 0) - a) ≤ 0
tenure_none true n e a = let none : min 0 e - a ≡ 0 = omega arith in rw none (omega arith)
tenure_none false n e a = let none : 0 - a ≡ 0 = omega arith in rw none (omega arith)

-- one share more fits behind the present moment
pub tenure_more : (t d b h n w all : ℕ) → t ≤ d → all ≤ b + (d - t) * h → b ≤ t * w → h + n ≤ w
    → all + n * (d - t) ≤ d * w
tenure_more t d b h n w all l p q fits =
    let later : (d - t) * (h + n) ≤ (d - t) * w = mul-le-mul_left (d - t) fits in
    let parts : (d - t) + t ≡ d = omega (arith, l) in
    let whole : (d - t) * w + t * w ≡ d * w = spread (d - t) t d w parts in
    omega (arith, p, q, later, whole)

pub tenure_behind : (t d n w all : ℕ) → d ≤ t → all ≤ d * w → all + n * (d - t) ≤ d * w
tenure_behind t d n w all l p =
    let none : d - t ≡ 0 = omega (arith, l) in
    rw none (omega (arith, p))

pub le_or : (a b : ℕ) → (a ≤ b) ⊎ (b ≤ a)
le_or a b = grind arith

charged_by : (b : Bool) (c n d e a : ℕ) → c ≤ (e - a) * n → e ≤ d
    → c ≤ n * ((if b then min d e else d) - a)
charged_by true c n d e a l k =
    let same : min d e ≡ e = omega (arith, k) in
    let turned : (e - a) * n ≡ n * (e - a) = omega arith in
    rw same (le_trans l (omega (arith, turned)))
charged_by false c n d e a l k =
    let less : e - a ≤ d - a = omega (arith, k) in
    let more : n * (e - a) ≤ n * (d - a) = mul-le-mul_left n less in
    omega (arith, l, more)

-- a stream, and the moment since which it holds its share
pub record Tenant (F : Type 0) : Type 0 where
  pub stream : StreamState F
  pub since : ℕ

module _ {F : Type 0} where
  abbrev pub stream_in : Tenant F → StreamState F
  stream_in y = y.stream

  abbrev pub tenant_did : Tenant F → Option (Deed F) → Tenant F
  tenant_did y o = record { stream = did_any y.stream o; since = y.since }

  -- at the moment t it has come, and what it was charged since then is within its bandwidth
  pub record IsTenant (t : ℕ) (y : Tenant F) : Type 0 where
    pub came : y.since ≤ t
    pub paid : IsStreamPaid y.since y.stream

  pub tenant_on : (t u : ℕ) (y : Tenant F) (o : Option (Deed F)) → t ≤ u → IsSound t y.stream
      → CanAny t y.stream o → IsTenant t y → IsTenant u (tenant_did y o)
  tenant_on t u y o l h c i =
      record { came = le_trans i.came l; paid = did_since y.since t y.stream o i.came h c i.paid }

  -- its share of the time up to d, by what is known at the moment t
  abbrev pub tenure : (t d : ℕ) → Tenant F → ℕ
  tenure t d y =
      share y.stream.spec.maximum y.stream.spec.period
      * ((if is_released t y.stream then min d y.stream.account.deadline else d) - y.since)

  pub tenure_less : (t u d : ℕ) (y : Tenant F) (o : Option (Deed F)) → t ≤ u → IsSound t y.stream
      → CanAny t y.stream o → tenure u d (tenant_did y o) ≤ tenure t d y
  tenure_less t u d y o l h c =
      let x = y.stream in
      tenure_by (is_released t x) (is_released u (did_any x o))
      (share (did_any x o).spec.maximum (did_any x o).spec.period) (share x.spec.maximum x.spec.period)
      d x.account.deadline (did_any x o).account.deadline y.since
      (ap (λ (spec : StreamSpec). share spec.maximum spec.period) (same_spec x o))
      (λ r. (released_did t u x o l h c r, released_due t x o h c r))

  pub tenure_later : (t d : ℕ) (y : Tenant F) → t ≤ d → y.since ≤ t
      → tenure t d y ≤ tenure t t y + (d - t) * held_share t y.stream
  tenure_later t d y l k =
      let x = y.stream in
      tenure_on (is_released t x) (share x.spec.maximum x.spec.period) t d x.account.deadline y.since l k
      (λ r. (released_facts t x r).3)

  -- that of one that is released is over
  pub tenure_over : (t d e : ℕ) (y : Tenant F) → t ≤ d → is_released t y.stream ≡ true
      → tenure t e y ≤ tenure t d y
  tenure_over t d e y l r =
      let x = y.stream in
      let due : x.account.deadline ≤ t = (released_facts t x r).3 in
      let less : min e x.account.deadline - y.since ≤ min d x.account.deadline - y.since =
      omega (arith, due, l) in
      rw r (mul-le-mul_left (share x.spec.maximum x.spec.period) less)

  pub tenure_opened : (y : Tenant F) → tenure 0 0 y ≤ 0
  tenure_opened y =
      tenure_none (is_released 0 y.stream) (share y.stream.spec.maximum y.stream.spec.period)
      y.stream.account.deadline y.since

  demand_step : (d m n : ℕ) (x : StreamState F) (xs : List (StreamState F)) (b : Bool)
      → nat_le x.account.deadline d ≡ b → (b ≡ true → x.charged * 1000000 ≤ m) → demand d xs * 1000000 ≤ n
      → demand d (x ∷ xs) * 1000000 ≤ m + n
  demand_step d m n x xs true e c r =
      let here = c refl in rw (demand_one d true x xs e) (omega (arith, here, r))
  demand_step d m n x xs false e c r = rw (demand_one d false x xs e) (omega (arith, r))

  -- the tenures cover what was charged and is due
  pub demand_covered : (t d : ℕ) (ys : List (Tenant F))
      → ((s : ℕ) (y : Tenant F) → slice_get ys s ≡ Some y → IsSound t y.stream × IsTenant t y)
      → demand d (map stream_in ys) * 1000000 ≤ sum_by (tenure t d) ys
  demand_covered t d [] h = omega arith
  demand_covered t d (y ∷ ys) h =
      let x = y.stream in
      let here = h zero y refl in
      let rest = demand_covered t d ys (λ s z e. h (suc s) z e) in
      rw (sum_by-cons (tenure t d) y ys)
      (demand_step d (tenure t d y) (sum_by (tenure t d) ys) x (map stream_in ys)
      (nat_le x.account.deadline d) refl
      (λ e. charged_by (is_released t x) (x.charged * 1000000) (share x.spec.maximum x.spec.period) d
      x.account.deadline y.since (charged_since y.since t x here.0 here.1.paid)
      (tested_le x.account.deadline d e)) rest)

-- Shares that fit are time that the workers have.
use Rattle.std.proofs.Common.{ℕ, zero, suc, ◌*◌, ◌/◌, ◌%◌, ◌≡◌, ◌≤◌, All, List, [], ◌∷◌, sum_by, arith, mul-le-mul_left, mul-le-mul_right}
use Rattle.std.proofs.Math.Nat.{div-zero}
use Rattle.std.proofs.lemmas.Grind.{div_ceil_times}
use Rattle.std.proofs.lemmas.List.Elements.{All-head, All-tail}
use Rattle.std.proofs.lemmas.List.Sums.{sum_by-cons}
use Rattle.std.proofs.lemmas.Nat.{div-add-mod'}
use Rattle.cbs_account.specs.declared.limits.TheConstants.{WHOLE}
use Rattle.cbs_account.specs.Admission.{Reservation, share, share_of}
use Rattle.cbs_account.specs.Laws.{TotalBandwidth}

-- a share is no less than the bandwidth
share_covers : (q t : ℕ) → q * WHOLE ≤ share q (suc t) * suc t
share_covers q t = (div_ceil_times (q * WHOLE) (suc t) (omega arith)).0

scaled : (q s k t m : ℕ) → k * t ≡ m → q * WHOLE * k ≤ s * t * k → q * k * WHOLE ≤ m * s
scaled q s k t m rounds covered = rw (← rounds) (omega (arith, covered))

-- the units of a time that a period divides are no more than the share of that time
use_covered : (q t m : ℕ) → m % t ≡ 0 → q * (m / t) * WHOLE ≤ m * share q t
use_covered q zero m whole = rw div-zero (omega arith)
use_covered q (suc t) m whole =
    let rounds : m / suc t * suc t ≡ m = omega (arith, div-add-mod' m (suc t), whole) in
    let covered = mul-le-mul_right (m / suc t) (share_covers q t) in
    scaled q (share q (suc t)) (m / suc t) (suc t) m rounds covered

abbrev divides : ℕ → Reservation → Type 0
divides m server = m % server.period ≡ 0

abbrev use_in : ℕ → Reservation → ℕ
use_in m server = server.maximum * (m / server.period)

uses_covered : (m : ℕ) (servers : List Reservation) → All (divides m) servers
    → sum_by (use_in m) servers * WHOLE ≤ m * sum_by share_of servers
uses_covered m [] whole = omega arith
uses_covered m (server ∷ servers) whole =
    let here = use_covered server.maximum server.period m (All-head (divides m) server servers whole) in
    let rest = uses_covered m servers (All-tail (divides m) server servers whole) in
    rw (sum_by-cons (use_in m) server servers, sum_by-cons share_of server servers) (omega (arith, here, rest))

pub total_bandwidth_proof : TotalBandwidth
total_bandwidth_proof workers m servers fits whole =
    let used = uses_covered m servers whole in
    let shared = mul-le-mul_left m fits in
    omega (arith, used, shared)

use Rattle.std.specs.Prelude.{ℕ, ◌+◌, ◌*◌, ◌≤◌, List, sum_by}
use Rattle.std.specs.Int.{div_ceil}
use Rattle.cbs_account.specs.declared.limits.TheConstants.{WHOLE}

-- what a server has reserved: a maximum budget Q in every period T
pub record Reservation : Type 0 where
  pub maximum : ℕ
  pub period : ℕ

-- the part of one worker that q units in every t are, in millionths, rounded up
abbrev pub share : ℕ → ℕ → ℕ
share q t = div_ceil (q * WHOLE) t

abbrev pub share_of : Reservation → ℕ
share_of server = share server.maximum server.period

-- some workers, and the sum of the shares that are held of them
pub record Load : Type 0 where
  pub workers : ℕ
  pub shares : ℕ

-- the share of q units in every t comes to a load
abbrev pub with_share : ℕ → ℕ → Load → Load
with_share q t load = record { workers = load.workers; shares = load.shares + share q t }

-- the servers with these reservations, on so many workers
abbrev pub load_of : ℕ → List Reservation → Load
load_of workers servers = record { workers = workers; shares = sum_by share_of servers }

-- the shares are at most the whole of the workers
abbrev pub Fits : Load → Type 0
Fits load = load.shares ≤ WHOLE * load.workers

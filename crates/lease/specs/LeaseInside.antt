-- What a lease keeps, and what it stands for.
use Rattle.std.specs.Prelude.{◌≡◌, ◌*◌, ◌≤◌}
use Rattle.lease.specs.declared.lease.Lease.TheInside.{Inside}
use Rattle.lease.specs.Lease.{LeaseValue, IsLease, spent_of}

abbrev pub lease_of : Inside → LeaseValue
lease_of a = record { job = a.job; stream = a.stream; number = a.number; granted = a.granted; used = a.used }

-- the units are counted, at most 9 for each step
pub record IsCounted (a : Inside) : Type 0 where
  pub lease : IsLease (lease_of a)
  pub spent : a.spent ≡ spent_of (lease_of a)
  pub cheap : a.spent ≤ 9 * a.used

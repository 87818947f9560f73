-- What a fault tells of the failures of a device.
use Rattle.std.proofs.Common.{◌≡◌, ◌≢◌, ℕ, ◌+◌, ◌-◌, ◌<◌, ◌^◌, arith, refl, Result, Ok, Err, IfErr}
use Rattle.y4m_stream.specs.declared.fault.ReadFault.TheVariants.{Device, LineTooLong, Header, NotFrame, Truncated, NoMemory, Failed}
use Rattle.y4m_stream.specs.declared.fault.WriteFault.TheVariants.{Device as NotWritten, Failed as FailedBefore}
use Rattle.y4m_stream.specs.declared.fault.FilterFault.{FilterFault}
use Rattle.y4m_stream.specs.declared.fault.FilterFault.TheVariants.{Read}
use Rattle.y4m_stream.specs.Failures.{one_more}
use Rattle.y4m_stream.specs.Filtered.{filter_reads_at, filter_reads_told}
use Rattle.y4m_stream.specs.Laws.{DeviceIsToldExactly, WriteFaultIsToldExactly}

one_more-below : (n : ℕ) → n < 2 ^ 64 - 1 → one_more n ≡ n + 1
one_more-below n h = omega (arith, h)

pub device_told : DeviceIsToldExactly
device_told Device n h = (λ e. one_more-below n h, λ e. absurd (e refl))
device_told LineTooLong n h = (λ e. absurd cc, λ e. refl)
device_told (Header e) n h = (λ e. absurd cc, λ e. refl)
device_told NotFrame n h = (λ e. absurd cc, λ e. refl)
device_told Truncated n h = (λ e. absurd cc, λ e. refl)
device_told NoMemory n h = (λ e. absurd cc, λ e. refl)
device_told Failed n h = (λ e. absurd cc, λ e. refl)

pub write_fault_told : WriteFaultIsToldExactly
write_fault_told (NotWritten k) n h = (λ e. absurd cc, λ e. one_more-below n h)
write_fault_told FailedBefore n h = (λ e. refl, λ e. absurd (e refl))

-- where no read ever fails, no fault is of the device
pub no_device : {T : Type 0} (result : Result T FilterFault) → 0 ≡ filter_reads_told result 0 → IfErr result (λ fault. fault ≢ Read Device)
no_device (Ok x) h = tt
no_device (Err fault) h = λ e. let bad : 0 ≡ filter_reads_at (Read Device) 0 = rw e at h in omega (arith, bad)

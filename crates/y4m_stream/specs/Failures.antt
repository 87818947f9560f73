-- How the calls on a device are counted that failed.
use Rattle.std.specs.Prelude.{ℕ, zero, suc, ◌+◌, ◌-◌, ◌^◌, ◌≤◌, List, [], ◌∷◌, min, length, take, Bool}
use Rattle.std.specs.Prelude.{Option, Some, None, Result, Ok, Err}
use Rattle.std.specs.Io.KnownBytes.{Appends, Keeps}

-- one failure more: a number of 64 bits, which stays at its last value
abbrev pub one_more : ℕ → ℕ
one_more n = min (n + 1) (2 ^ 64 - 1)

-- one more where the call answered an error
abbrev pub failures_after : {T E : Type 0} → Result T E → ℕ → ℕ
failures_after (Ok x) n = n
failures_after (Err e) n = one_more n

-- one more where the write answered an error, or took no byte of some
abbrev pub failures_after_write : {E : Type 0} → Result ℕ E → List ℕ → ℕ → ℕ
failures_after_write (Ok zero) [] n = n
failures_after_write (Ok zero) (byte ∷ bytes) n = one_more n
failures_after_write (Ok (suc taken)) bytes n = n
failures_after_write (Err e) bytes n = one_more n

-- the same of a write that may answer that nothing is known yet of its bytes
abbrev pub failures_after_try : {E : Type 0} → Result (Option ℕ) E → List ℕ → ℕ → ℕ
failures_after_try (Ok None) bytes n = n
failures_after_try (Ok (Some zero)) [] n = n
failures_after_try (Ok (Some zero)) (byte ∷ bytes) n = one_more n
failures_after_try (Ok (Some (suc taken))) bytes n = n
failures_after_try (Err e) bytes n = one_more n

-- a reader, and how many of its reads failed
pub record CountedReader (R : Type 0) : Type 0 where
  pub reader : R
  pub failures : ℕ

-- a writer, how many of its writes and flushes failed, and whether all that it took was flushed
pub record CountedWriter (W : Type 0) : Type 0 where
  pub writer : W
  pub failures : ℕ
  pub is_flushed : Bool

-- a write appended the bytes that it is told to have taken, none where nothing is known of them yet
abbrev pub TriesToAppend : {E : Type 0} → Option (List ℕ) → Option (List ℕ) → Result (Option ℕ) E → List ℕ
    → Type 0
TriesToAppend old new (Ok None) buf = Keeps old new
TriesToAppend old new (Ok (Some n)) buf = (n ≤ length buf) × Appends old new (take n buf)
TriesToAppend old new (Err e) buf = Keeps old new

-- Lines of a session script that are appended piece by piece.
use Rattle.std.proofs.Common.{◌≡◌, ℕ, List, ◌++◌, length, take}
use Rattle.std.proofs.Math.Seq.{take-append_seam}

-- what stood there before stands at the front
pub front_kept : (n : ℕ) (old text : List ℕ) → n ≡ length old → take n (old ++ text) ≡ old
front_kept n old text e = rw e (take-append_seam old text)

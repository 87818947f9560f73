-- What stays known where bytes are read ahead, and then taken.
use Rattle.std.proofs.Common.{◌≡◌, ℕ, ◌+◌, ◌<◌, ◌≤◌, List, ◌++◌, length, take, drop, None, Some, Option, Result, Ok, Err}
use Rattle.std.proofs.Common.{sym, ap, subst, ◌∙◌, append_assoc, arith, ◌-◌}
use Rattle.std.proofs.lemmas.List.{length-drop, length-take, take-append-drop, take-append-le, take-take}
use Rattle.std.proofs.lemmas.Slice.{between_is, take-put_mid_below}
use Rattle.std.specs.Io.{ReadsAtMost}
use Rattle.std.specs.Io.KnownBytes.{Consumes, ReadConsumes, prepend_known}
use borrow.Rule.Slice.PartMut.{put_mid}
use Rattle.y4m_stream.proofs.Known.{take-put_mid_more}
use Rattle.serve_files.specs.ReadAhead.{FillsSlice}

-- bytes that are held are taken off the front
pub taken_off : (a : Option (List ℕ)) (held : List ℕ) (n : ℕ)
    → Consumes (prepend_known held a) (prepend_known (drop n held) a) (take n held)
taken_off None held n = tt
taken_off (Some xs) held n = ap (λ l. l ++ xs) (sym (take-append-drop n held)) ∙ append_assoc (take n held) (drop n held) xs

-- the first bytes of a slice that is written back to the memory that it was lent from
pub front_written : (slice rest : List ℕ) (len n : ℕ) → n ≤ length slice → n ≤ len → take n (take len (slice ++ rest)) ≡ take n slice
front_written slice rest len n h k = take-take n len (slice ++ rest) k ∙ take-append-le n slice rest h

-- as many bytes are held as lie between two places
pub held_length : (items : List ℕ) (from to : ℕ) → from ≤ to → to ≤ length items → length (drop from (take to items)) ≡ to - from
held_length items from to h k = omega (arith, length-drop from (take to items), length-take to items)

-- the bytes between two places, copied to the front of other memory
pub widened : (items slice rest : List ℕ) (from to len : ℕ) → from ≤ to → to ≤ length items → to - from ≤ len → to - from ≤ length slice
    → take (length (take (to - from) (drop from items))) slice ≡ take (to - from) (drop from items)
    → take (to - from) (take len (slice ++ rest)) ≡ drop from (take to items)
widened items slice rest from to len h k l m p =
    let n : length (take (to - from) (drop from items)) ≡ to - from = omega (
      arith,
      length-take (to - from) (drop from items),
      length-drop from items,
    ) in
    front_written slice rest len (to - from) m l ∙ subst (λ (j : ℕ). take j slice ≡ take (to - from) (drop from items)) n p
    ∙ between_is items from to

-- a read behind the bytes at the front of a slice
pub slice_filled : {E : Type 0} (a b : Option (List ℕ)) (answer : Result ℕ E) (old slice read : List ℕ) (n room : ℕ) → n ≡ length old
    → take n slice ≡ old → n ≤ length slice → 0 < length read → ReadsAtMost answer read → ReadConsumes a b answer read
    → FillsSlice a b answer old (put_mid n room slice read)
slice_filled a b (Ok m) old slice read n room is front within some bound bytes = (
  take m read,
  bytes.0,
  subst (λ (k : ℕ). take (k + m) (put_mid n room slice read) ≡ old ++ take m read) is
      (take-put_mid_more slice read n room m within bound.0 ∙ ap (λ l. l ++ take m read) front),
  omega (arith, length-take m read, bound.0),
  λ none. bytes.1 none some,
)
slice_filled a b (Err e) old slice read n room is front within some bound bytes = (
  bytes,
  subst (λ (k : ℕ). take k (put_mid n room slice read) ≡ old) is (take-put_mid_below n room slice read n (omega arith) within ∙ front),
)

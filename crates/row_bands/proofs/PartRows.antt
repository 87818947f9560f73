-- The parts of a band in the planes of a frame.
use Rattle.std.proofs.Common.{ℕ, ◌≡◌, ◌+◌, ◌-◌, ◌*◌, ◌<◌, ◌≤◌, ◌⊎◌, inl, inr, zero, suc, List, ◌++◌, length}
use Rattle.std.proofs.Common.{take, drop, arith, ap, refl, sym, ◌∙◌, subst, Bool, true, false, nat_lt}
use Rattle.std.proofs.Common.{if◌then◌else◌}
use Rattle.std.proofs.Math.Nat.{mul-le-mul_right}
use Rattle.std.proofs.lemmas.Bool.Decides.{nat_tests}
use Rattle.std.proofs.lemmas.List.{take_at, drop_at}
use Rattle.y4m_header.specs.declared.limits.TheConstants.{LARGEST_DATA}
use Rattle.y4m_header.specs.Chroma.{plane_count}
use Rattle.frame_view.specs.declared.geometry.Geometry.{Geometry}
use Rattle.frame_view.specs.LentTogether.{lent_columns, lent_len, of_plane}
use Rattle.frame_view.specs.Places.{plane_width, plane_height}
use Rattle.frame_view.proofs.Gaps.{gap}
use Rattle.frame_view.proofs.LentTogether.{lent_size}
use Rattle.frame_view.proofs.Places.{next_plane, planes_ordered, planes_fill, counts}
use Rattle.row_bands.specs.Bands.{rows_above}
use Rattle.row_bands.specs.Halves.{HasPart}
use Rattle.row_bands.specs.HalvesInside.{HasPlanesOfPart, part_len}
use Rattle.row_bands.proofs.Bands.{inside, rows_above-le}

times_columns : (b : Bool) (w h : ℕ) → (if b then w * h else 0) ≡ h * (if b then w else 0)
times_columns true w h = grind arith
times_columns false w h = omega arith

lent_area : (g : Geometry) (p : ℕ) → lent_len g p ≡ plane_height g p * lent_columns g p
lent_area g p = times_columns (nat_lt p (plane_count g.chroma)) (plane_width g p) (plane_height g p)

-- the rows of a part are inside their plane
pub part_inside : (g : Geometry) (p n : ℕ) → n ≤ g.height → rows_above g p n * lent_columns g p ≤ lent_len g p
part_inside g p n h =
    omega (arith, lent_area g p, mul-le-mul_right {m = rows_above g p n} {n = plane_height g p} (lent_columns g p) (inside g p n h))

either_side : (a b : ℕ) → (a < b) ⊎ (b ≤ a)
either_side a b = grind arith

not_there : (n p a : ℕ) → n ≤ p → (if nat_lt p n then a else 0) ≡ 0
not_there n p a h = grind (arith, nat_tests)

pub small_plane : (g : Geometry) (p : ℕ) → lent_len g p ≤ LARGEST_DATA
small_plane g p = elim (either_side p (plane_count g.chroma)) [
  | inl l ↦ omega
      (arith, lent_size g p l, next_plane g p, planes_ordered g (p + 1) (plane_count g.chroma) (omega arith), planes_fill g, g.small)
  | inr r ↦ omega (arith, not_there (plane_count g.chroma) p (plane_width g p * plane_height g p) r)
]

pub part_end : (g : Geometry) (p from to : ℕ) → from ≤ to
    → rows_above g p to * lent_columns g p ≡ rows_above g p from * lent_columns g p + part_len g p from to
part_end g p from to h = gap (rows_above g p from) (rows_above g p to) (lent_columns g p) (rows_above-le g p from to h)

between_rows : (a b c w : ℕ) → a ≤ b → b ≤ c → (c - a) * w ≡ (b - a) * w + (c - b) * w
between_rows a b c w h k = gap (b - a) (c - a) w (omega arith)
    ∙ ap (λ z. (b - a) * w + z * w) (let e : (c - a) - (b - a) ≡ c - b = omega arith in e)

-- two parts that meet
pub parts_meet : (g : Geometry) (p from row to : ℕ) → from ≤ row → row ≤ to
    → part_len g p from to ≡ part_len g p from row + part_len g p row to
parts_meet g p from row to h k = between_rows (rows_above g p from) (rows_above g p row) (rows_above g p to)
    (lent_columns g p) (rows_above-le g p from row h) (rows_above-le g p row to k)

-- how many samples a part has that goes with these luma rows
pub same_len : (g h : Geometry) (p a b from to : ℕ) → (g ≡ h) × (a ≡ from) × (b ≡ to) → part_len g p a b ≡ part_len h p from to
same_len g h p a b from to is = rw (is.0, is.1, is.2) refl

-- what holds of each of four planes, where the frame has it
pub each_plane : (n : ℕ) → (n ≡ 1) ⊎ ((n ≡ 3) ⊎ (n ≡ 4)) → (Q : ℕ → List ℕ → Type 0) (luma cb cr alpha : List ℕ)
    → (0 < n → Q 0 luma) → (1 < n → Q 1 cb) → (2 < n → Q 2 cr) → (3 < n → Q 3 alpha) → (p : ℕ) → p < n → Q p (of_plane p luma cb cr alpha)
each_plane n c Q luma cb cr alpha l b r a zero h = l h
each_plane n c Q luma cb cr alpha l b r a (suc zero) h = b h
each_plane n c Q luma cb cr alpha l b r a (suc (suc zero)) h = r h
each_plane n c Q luma cb cr alpha l b r a (suc (suc (suc zero))) h = a h
each_plane n (inl e) Q luma cb cr alpha l b r a (suc (suc (suc (suc p)))) h = absurd (omega arith)
each_plane n (inr (inl e)) Q luma cb cr alpha l b r a (suc (suc (suc (suc p)))) h = absurd (omega arith)
each_plane n (inr (inr e)) Q luma cb cr alpha l b r a (suc (suc (suc (suc p)))) h = absurd (omega arith)

each_cut : (n : ℕ) → (n ≡ 1) ⊎ ((n ≡ 3) ⊎ (n ≡ 4)) → (Q : ℕ → List ℕ → Type 0) (part : ℕ → List ℕ → List ℕ) (l b r a l' b' r' a' : List ℕ)
    → part 0 l ≡ l' → part 1 b ≡ b' → part 2 r ≡ r' → part 3 a ≡ a' → ((p : ℕ) → p < n → Q p (of_plane p l' b' r' a'))
    → (p : ℕ) → p < n → Q p (part p (of_plane p l b r a))
each_cut n c Q part l b r a l' b' r' a' el eb er ea q = each_plane n c (λ p z. Q p (part p z)) l b r a
    (λ h. subst (Q 0) (sym el) (q 0 h)) (λ h. subst (Q 1) (sym eb) (q 1 h)) (λ h. subst (Q 2) (sym er) (q 2 h))
    (λ h. subst (Q 3) (sym ea) (q 3 h))

-- planes cut in two: what holds of the upper parts
pub upper_parts : (gives : ℕ → ℕ → ℕ → List ℕ → Type 0) (from row : ℕ) (g : Geometry) (l l' b b' r r' a a' : List ℕ)
    → length l ≡ part_len g 0 from row → length b ≡ part_len g 1 from row → length r ≡ part_len g 2 from row
    → length a ≡ part_len g 3 from row
    → HasPlanesOfPart gives from row g l b r a
    → HasPart gives from row g (λ p. take (part_len g p from row) (of_plane p (l ++ l') (b ++ b') (r ++ r') (a ++ a')))
upper_parts gives from row g l l' b b' r r' a a' el eb er ea h =
    let cut = λ (p : ℕ). part_len g p from row in
    each_cut (plane_count g.chroma) (counts g.chroma) (λ p. gives p (rows_above g p from) (rows_above g p row))
    (λ p. take (cut p)) (l ++ l') (b ++ b') (r ++ r') (a ++ a') l b r a
    (take_at l l' (cut 0) el) (take_at b b' (cut 1) eb) (take_at r r' (cut 2) er) (take_at a a' (cut 3) ea) h.rows

-- and of the lower ones
pub lower_parts : (gives : ℕ → ℕ → ℕ → List ℕ → Type 0) (from row to : ℕ) (g : Geometry) (l l' b b' r r' a a' : List ℕ)
    → length l ≡ part_len g 0 from row → length b ≡ part_len g 1 from row → length r ≡ part_len g 2 from row
    → length a ≡ part_len g 3 from row
    → HasPlanesOfPart gives row to g l' b' r' a'
    → HasPart gives row to g (λ p. drop (part_len g p from row) (of_plane p (l ++ l') (b ++ b') (r ++ r') (a ++ a')))
lower_parts gives from row to g l l' b b' r r' a a' el eb er ea h =
    let cut = λ (p : ℕ). part_len g p from row in
    each_cut (plane_count g.chroma) (counts g.chroma) (λ p. gives p (rows_above g p row) (rows_above g p to))
    (λ p. drop (cut p)) (l ++ l') (b ++ b') (r ++ r') (a ++ a') l' b' r' a'
    (drop_at l l' (cut 0) el) (drop_at b b' (cut 1) eb) (drop_at r r' (cut 2) er) (drop_at a a' (cut 3) ea) h.rows

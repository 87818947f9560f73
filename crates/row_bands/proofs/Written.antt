-- Bands that were written, one after another.
use Rattle.std.proofs.Common.{ℕ, ◌≡◌, ◌+◌, ◌<◌, ◌≤◌, List, arith, ap, sym, ◌∙◌, ◌⊎◌, inl, inr, refl, subst}
use Rattle.y4m_header.specs.Chroma.{plane_count}
use Rattle.frame_view.specs.declared.geometry.Geometry.{Geometry}
use Rattle.frame_view.specs.declared.frame.Frame.{Frame}
use Rattle.frame_view.specs.Frame.{line_of, samples_of}
use Rattle.frame_view.specs.Places.{plane_width, plane_height, row_start}
use Rattle.frame_view.specs.Rows.{sample}
use Rattle.frame_view.specs.Written.{IsRows, HasRows}
use Rattle.frame_view.specs.Lending.{with_samples}
use Rattle.frame_view.proofs.Written.{lent_rows}
use Rattle.frame_view.proofs.Places.{next_row, planes_ordered, row_in_plane, rows_ordered}
use Rattle.row_bands.specs.Bands.{rows_above}
use Rattle.row_bands.specs.Written.{HasBand}
use Rattle.row_bands.specs.declared.band.Band.{Band}
use Rattle.row_bands.specs.Band.{band_frame, band_geometry}
use Rattle.row_bands.proofs.Bands.{rows_above-le, rows_above-height, inside}

-- a band of the planes below n alone: the other planes are as before
pub record HasPlanes (picture : ℕ → ℕ → ℕ → ℕ) (from to n : ℕ) (old new : Frame) : Type 0 where
  pub geometry : new.geometry ≡ old.geometry
  pub line : line_of new ≡ line_of old
  pub rows : (p y x : ℕ) → p < n → rows_above old.geometry p from ≤ y → y < rows_above old.geometry p to → x < plane_width old.geometry p
      → sample old.geometry (samples_of new) p y x ≡ picture p y x
  pub others : (p y x : ℕ) → p < plane_count old.geometry.chroma → y < plane_height old.geometry p → x < plane_width old.geometry p
      → (n ≤ p) ⊎ ((y < rows_above old.geometry p from) ⊎ (rows_above old.geometry p to ≤ y))
      → sample old.geometry (samples_of new) p y x ≡ sample old.geometry (samples_of old) p y x

pub all_planes : (picture : ℕ → ℕ → ℕ → ℕ) (from to : ℕ) (old new : Frame)
    → HasPlanes picture from to (plane_count old.geometry.chroma) old new → HasBand picture from to old new
all_planes picture from to old new h =
    record { geometry = h.geometry; line = h.line; rows = h.rows; others = λ p y x a b d c. h.others p y x a b d (inr c) }

-- the rows that go with the luma rows above row n are the picture's
abbrev pub HasRowsAbove : (ℕ → ℕ → ℕ → ℕ) → ℕ → Frame → Type 0
HasRowsAbove picture n frame = (p y x : ℕ) → p < plane_count frame.geometry.chroma → y < rows_above frame.geometry p n
    → x < plane_width frame.geometry p → sample frame.geometry (samples_of frame) p y x ≡ picture p y x

-- a place in another plane stands before or after the rows of plane p
other_plane : (g : Geometry) (p q from to y x i : ℕ) → i ≡ row_start g q y + x → to ≤ plane_height g p
    → y < plane_height g q → x < plane_width g q
    → (q < p) ⊎ (p < q) → (i < row_start g p from) ⊎ (row_start g p to ≤ i)
other_plane g p q from to y x i e ht hy hx (inl l) =
    inl (omega (arith, next_row g q y, row_in_plane g q (y + 1) (omega arith), planes_ordered g (q + 1) p (omega arith)))
other_plane g p q from to y x i e ht hy hx (inr l) = inr (omega (arith, row_in_plane g p to ht, planes_ordered g (p + 1) q (omega arith)))

-- what the rows of plane p leave alone: the other planes, and its own rows outside
kept : (picture : ℕ → ℕ → ℕ → ℕ) (p from to : ℕ) (mid new : Frame) → HasRows picture p from to mid new → to ≤ plane_height mid.geometry p
    → (q y x : ℕ) → y < plane_height mid.geometry q → x < plane_width mid.geometry q
    → ((q < p) ⊎ (p < q)) ⊎ ((q ≡ p) × ((y < from) ⊎ (to ≤ y)))
    → sample mid.geometry (samples_of new) q y x ≡ sample mid.geometry (samples_of mid) q y x
kept picture p from to mid new r ht q y x hy hx (inl c) =
    let g = mid.geometry in
    elim (other_plane g p q from to y x (row_start g q y + x) refl ht hy hx c)
    [ inl l ↦ r.before (row_start g q y + x) l | inr l ↦ r.after (row_start g q y + x) l ]
kept picture p from to mid new r ht q y x hy hx (inr (e, inl l)) =
    let g = mid.geometry in
    r.before (row_start g q y + x) (rw e (omega (arith, next_row g p y, rows_ordered g p (y + 1) from (omega arith), ap (plane_width g) e)))
kept picture p from to mid new r ht q y x hy hx (inr (e, inr l)) =
    let g = mid.geometry in
    r.after (row_start g q y + x) (rw e (omega (arith, rows_ordered g p to y (omega arith))))

three : (q p : ℕ) → (q < p) ⊎ ((q ≡ p) ⊎ (p < q))
three q p = grind arith

-- a band of the planes below p, and then that of plane p; over is the geometry that places are counted by
record HasPlanesOver (picture : ℕ → ℕ → ℕ → ℕ) (from to n : ℕ) (g : Geometry) (old new : Frame) : Type 0 where
  rows : (p y x : ℕ) → p < n → rows_above g p from ≤ y → y < rows_above g p to → x < plane_width g p
      → sample g (samples_of new) p y x ≡ picture p y x
  others : (p y x : ℕ) → p < plane_count g.chroma → y < plane_height g p → x < plane_width g p
      → (n ≤ p) ⊎ ((y < rows_above g p from) ⊎ (rows_above g p to ≤ y)) → sample g (samples_of new) p y x ≡ sample g (samples_of old) p y x

one_more : (picture : ℕ → ℕ → ℕ → ℕ) (first end p : ℕ) (old mid new : Frame)
    → ((q : ℕ) → rows_above mid.geometry q end ≤ plane_height mid.geometry q)
    → HasPlanesOver picture first end p mid.geometry old mid
    → HasRows picture p (rows_above mid.geometry p first) (rows_above mid.geometry p end) mid new
    → HasPlanesOver picture first end (p + 1) mid.geometry old new
one_more picture first end p old mid new inside h r =
    let g = mid.geometry in
    let keeps = kept picture p (rows_above g p first) (rows_above g p end) mid new r (inside p) in
    record {
      rows = λ q y x a b d w. elim (three q p) [
        | inl l ↦ keeps q y x (omega (arith, inside q)) w (inl (inl l)) ∙ h.rows q y x l b d w
        | inr (inl e) ↦ (let P : ℕ → Type 0 = λ z. rows_above g z first ≤ y → y < rows_above g z end
            → x < plane_width g z → sample g (samples_of new) z y x ≡ picture z y x in
            subst P (sym e) (λ b d w. r.rows y x b d w) b d w)
        | inr (inr l) ↦ absurd (omega arith)
      ];
      others = λ q y x a b w c. elim (three q p) [
        | inl l ↦ keeps q y x b w (inl (inl l)) ∙ h.others q y x a b w (elim c [ inl z ↦ absurd (omega arith) | inr z ↦ inr z ])
        | inr (inl e) ↦ keeps q y x b w
            (inr (
              e,
              elim c [
                | inl z ↦ absurd (omega arith)
                | inr z ↦ (let P : ℕ
                    → Type 0 = λ k. (y < rows_above g k first) ⊎ (rows_above g k end ≤ y) in subst P e z)
              ],
            ))
            ∙ h.others q y x a b w (inl (omega arith))
        | inr (inr l) ↦ keeps q y x b w (inl (inr l)) ∙ h.others q y x a b w (inl (omega arith))
      ];
    }

to_over : (picture : ℕ → ℕ → ℕ → ℕ) (from to n : ℕ) (old new : Frame) → HasPlanes picture from to n old new
    → HasPlanesOver picture from to n old.geometry old new
to_over picture from to n old new h = record { rows = h.rows; others = h.others }

pub one_more_plane : (picture : ℕ → ℕ → ℕ → ℕ) (first end p : ℕ) (old mid new : Frame)
    → ((q : ℕ) → rows_above mid.geometry q end ≤ plane_height mid.geometry q)
    → HasPlanes picture first end p old mid → HasRows picture p (rows_above mid.geometry p first) (rows_above mid.geometry p end) mid new
    → HasPlanes picture first end (p + 1) old new
one_more_plane picture first end p old mid new inside h r =
    let P : Geometry → Type 0 = λ z. HasPlanesOver picture first end p z old mid in
    let Q : Geometry → Type 0 = λ z. HasPlanesOver picture first end (p + 1) z old new in
    let o = subst Q h.geometry
    (one_more picture first end p old mid new inside (subst P (sym h.geometry) (to_over picture first end p old mid h)) r) in
    record { geometry = r.geometry ∙ h.geometry; line = r.line ∙ h.line; rows = o.rows; others = o.others }

either_side : (y f : ℕ) → (y < f) ⊎ (f ≤ y)
either_side y f = grind arith

abbrev HasAboveOver : (ℕ → ℕ → ℕ → ℕ) → ℕ → Geometry → Frame → Type 0
HasAboveOver picture n g frame = (p y x : ℕ) → p < plane_count g.chroma → y < rows_above g p n → x < plane_width g p
    → sample g (samples_of frame) p y x ≡ picture p y x

-- a band that follows the rows that are the picture's already
pub band_joins : (picture : ℕ → ℕ → ℕ → ℕ) (from to : ℕ) (old new : Frame)
    → to ≤ old.geometry.height → HasRowsAbove picture from old → HasBand picture from to old new → HasRowsAbove picture to new
band_joins picture from to old new ht h b =
    let g = old.geometry in
    let P : Geometry → Type 0 = λ z. HasAboveOver picture to z new in
    subst P (sym b.geometry) (λ p y x hp hy hx.
    elim (either_side y (rows_above g p from)) [
      | inl l ↦ b.others p y x hp (omega (arith, rows_above-le g p to g.height ht, rows_above-height g p)) hx (inl l) ∙ h p y x hp l hx
      | inr l ↦ b.rows p y x hp l hy hx
    ])

-- before any plane
pub no_plane : (picture : ℕ → ℕ → ℕ → ℕ) (from to : ℕ) (frame : Frame) → HasPlanes picture from to 0 frame frame
no_plane picture from to frame =
    record { geometry = refl; line = refl; rows = λ p y x h a b d. absurd (omega arith); others = λ p y x a b d c. refl }

-- the rows of one plane of a band, lent and come back as the picture's
pub lent_plane : (picture : ℕ → ℕ → ℕ → ℕ) (band : Band) (p : ℕ) (ws : List ℕ) → p < plane_count (band_geometry band).chroma
    → IsRows picture (band_geometry band) p (rows_above (band_geometry band) p band.from) (rows_above (band_geometry band) p band.to) ws
    → HasRows picture p (rows_above (band_geometry band) p band.from) (rows_above (band_geometry band) p band.to) (band_frame band)
    (with_samples (band_frame band) (row_start (band_geometry band) p (rows_above (band_geometry band) p band.from)) ws)
lent_plane picture band p ws hp h =
    let g = band_geometry band in
    lent_rows picture p (rows_above g p band.from) (rows_above g p band.to) (band_frame band) ws hp
    (rows_above-le g p band.from band.to band.ordered) (inside g p band.to band.inside) h

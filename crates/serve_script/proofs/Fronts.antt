-- Text that goes out piece by piece, and is cut short in one of the pieces.
use Rattle.std.proofs.Common.{◌≡◌, ℕ, suc, ◌+◌, ◌<◌, ◌≤◌, List, ◌++◌, length, take, drop, get_or, Option}
use Rattle.std.proofs.Common.{Result, Ok, Err, IsErr, sym, ap, ◌∙◌, arith, length-append, drop-cons}
use Rattle.std.proofs.Math.Seq.{take-append-add}
use Rattle.std.proofs.lemmas.List.{take-append-drop, take-append-le, take_all}
use Rattle.std.proofs.lemmas.List.Concat.{flat_map-cons}
use Rattle.std.proofs.lemmas.Grind.{flat_map-append}
use Rattle.std.proofs.KnownBytes.{Appends-trans}
use Rattle.std.specs.Io.KnownBytes.{Appends}
use Rattle.std.specs.List.{flat_map}
use Rattle.serve_script.specs.Writing.{AppendsFront, Writes}

-- all of it went out
pub all_front : (a b : Option (List ℕ)) (text : List ℕ) → Appends a b text → AppendsFront a b text
all_front a b text p = record { n = length text; within = omega arith; front = rw (take_all (length text) text (omega arith)) p }

-- the first piece was cut short
pub first_cut : (a b : Option (List ℕ)) (text more : List ℕ) → AppendsFront a b text → AppendsFront a b (text ++ more)
first_cut a b text more p =
    let within : p.n ≤ length text = p.within in
    record {
      n = p.n;
      within = rw length-append (omega (arith, within));
      front = rw take-append-le p.front;
    }

-- a piece behind one that went out was cut short
pub later_cut : (a b c : Option (List ℕ)) (text more : List ℕ) → Appends a b text → AppendsFront b c more → AppendsFront a c (text ++ more)
later_cut a b c text more p q = record {
  n = length text + q.n;
  within = rw length-append (omega (arith, q.within));
  front = rw take-append-add (Appends-trans a b c text (take q.n more) p q.front);
}

-- the pieces before one piece went out, and it was cut short
pub pieces_cut : {X : Type 0} (f : X → List ℕ) (pieces : List X) (i : ℕ) (d : X) (a b c : Option (List ℕ)) → i < length pieces
    → Appends a b (flat_map f (take i pieces)) → AppendsFront b c (f (get_or pieces i d)) → AppendsFront a c (flat_map f pieces)
pieces_cut {X = X} f pieces i d a b c within before cut =
    let piece = get_or pieces i d in
    let rest = drop (suc i) pieces in
    let split = flat_map-append f (take i pieces) (drop i pieces) in
    let next : flat_map f (drop i pieces) ≡ f piece ++ flat_map f rest = ap (flat_map f) (drop-cons pieces i d within)
    ∙ flat_map-cons f piece rest in
    let whole : flat_map f pieces ≡ flat_map f (take i pieces) ++ (f piece ++ flat_map f rest) =
    ap (flat_map f) (sym (take-append-drop i pieces)) ∙ split ∙ ap (λ (text : List ℕ). flat_map f (take i pieces) ++ text) next in
    rw whole (later_cut a b c (flat_map f (take i pieces)) (f piece ++ flat_map f rest) before
    (first_cut b c (f piece) (flat_map f rest) cut))

-- what was cut short was not written
pub not_written : {T E : Type 0} (a b : Option (List ℕ)) (text : List ℕ) (result : Result T E) → IsErr result
    → AppendsFront a b text → Writes a b text result
not_written a b text (Ok value) failed cut = absurd cc
not_written a b text (Err error) failed cut = cut

-- what went out is written, or a front of it
pub all_written : {T E : Type 0} (a b : Option (List ℕ)) (text : List ℕ) (result : Result T E) → Appends a b text → Writes a b text result
all_written a b text (Ok value) out = out
all_written a b text (Err error) out = all_front a b text out

-- a piece behind one that went out is written
pub later_written : {T E : Type 0} (a b c : Option (List ℕ)) (text more : List ℕ) (result : Result T E)
    → Appends a b text → Writes b c more result
    → Writes a c (text ++ more) result
later_written a b c text more (Ok value) out wrote = Appends-trans a b c text more out wrote
later_written a b c text more (Err error) out wrote = later_cut a b c text more out wrote

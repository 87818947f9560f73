-- A header line with a smaller size is a header line.
use Rattle.std.proofs.Common.{◌≡◌, ℕ, ◌/◌, ◌≤◌, ◌⊎◌, inl, inr, false, eqb, List, [], ◌∷◌, ◌++◌, length}
use Rattle.std.proofs.Common.{map, drop, All, None, decimal, refl, sym, ap, ◌∙◌, subst, arith}
use Rattle.std.proofs.Common.{length-append}
use Rattle.std.specs.Char.{IsAsciiDigit}
use Rattle.std.specs.List.{join_with_byte, filter_map, onto_first, position_or_len, AllByRecursion}
use Rattle.std.proofs.lemmas.Bool.{cases_Bool, eqb-true, cases_lt}
use Rattle.std.proofs.lemmas.Bool.Decides.{nat_tests}
use Rattle.std.proofs.lemmas.List.{take_all}
use Rattle.std.proofs.lemmas.List.Elements.{All-nil, All-cons, All-head, All-tail, All-append}
use Rattle.std.proofs.lemmas.List.Splits.{slice_split-cons_yes, slice_split-cons_no, slice_split_none}
use Rattle.std.proofs.lemmas.List.Splits.{slice_split_at, slice_split_first, join_with_byte-slice_split}
use Rattle.std.proofs.Math.Nat.{mul-le-mul}
use Rattle.y4m_header.specs.declared.chroma.Chroma.{Chroma}
use Rattle.y4m_header.specs.declared.chroma.Chroma.TheVariants.{S420, S422, S411, S444, S444Alpha, Mono}
use Rattle.y4m_header.specs.declared.limits.TheConstants.{LONGEST_LINE, LONGEST_SIDE}
use Rattle.y4m_header.specs.Chroma.{data_len}
use Rattle.y4m_header.specs.Line.{space, pieces, word, tag_value, values}
use Rattle.y4m_header.specs.HeaderLine.{width_letter, height_letter, chroma_letter, widths, heights}
use Rattle.y4m_header.specs.HeaderLine.{IsSize, StatesSize, StatesChroma, IsDivided, IsHeaderLine}
use Rattle.y4m_header.specs.Resized.{resized_piece, resized_pieces, resized_line}
use Rattle.y4m_header.proofs.Cuts.{split_all}
use Rattle.y4m_header.proofs.StreamLaws.{IsNoFeed}
use Rattle.y4m_header.proofs.Joined.{spaced, join-cons}
use Rattle.y4m_header.proofs.Sizes.{decimal_is_size, digits_value_decimal, decimal_shorter, size_digits}

-- a piece that is no tag W and no tag H
record Other (piece : List ℕ) : Type 0 where
  pub no_width : tag_value width_letter piece ≡ None
  pub no_height : tag_value height_letter piece ≡ None
  pub stays : (w h : ℕ) → resized_piece w h piece ≡ piece

other_letter : (c : ℕ) (value : List ℕ) → eqb c width_letter ≡ false → eqb c height_letter ≡ false
    → Other (c ∷ value)
other_letter c value no_w no_h = record {
  no_width = rw no_w refl;
  no_height = rw no_h refl;
  stays = λ w h. rw (no_w, no_h) refl;
}

-- a tag with this letter
abbrev IsTag : ℕ → List ℕ → Type 0
IsTag letter piece = (value : List ℕ) × (piece ≡ letter ∷ value)

kind : (piece : List ℕ) → IsTag width_letter piece ⊎ IsTag height_letter piece ⊎ Other piece
kind [] = inr (inr (record { no_width = refl; no_height = refl; stays = λ w h. refl }))
kind (c ∷ value) = elim (cases_Bool (eqb c width_letter)) [
  | inl is_w ↦ inl (value, ap (λ (d : ℕ). d ∷ value) (eqb-true c width_letter is_w))
  | inr no_w ↦ (elim (cases_Bool (eqb c height_letter)) [
    | inl is_h ↦ inr (inl (value, ap (λ (d : ℕ). d ∷ value) (eqb-true c height_letter is_h)))
    | inr no_h ↦ inr (inr (other_letter c value no_w no_h))
  ])
]

spaced_step : (p q : List ℕ) (ps qs : List (List ℕ)) → length p ≤ length q
    → length (spaced ps) ≤ length (spaced qs) → length (spaced (p ∷ ps)) ≤ length (spaced (q ∷ qs))
spaced_step p q ps qs first rest =
    omega (arith, length-append p (spaced ps), length-append q (spaced qs), first, rest)

-- the values of the tags with this letter
abbrev given : ℕ → List (List ℕ) → List (List ℕ)
given letter tags = filter_map (tag_value letter) tags

-- no value is shorter than the decimals of n
abbrev NoneShorter : ℕ → List (List ℕ) → Type 0
NoneShorter n given = AllByRecursion (λ (v : List ℕ). length (decimal n) ≤ length v) given

module _ (w h : ℕ) where
  abbrev resized : List (List ℕ) → List (List ℕ)
  resized tags = map (resized_piece w h) tags

  widths_resized : (tags : List (List ℕ))
      → given width_letter (resized tags) ≡ map (λ (v : List ℕ). decimal w) (given width_letter tags)
  widths_resized [] = refl
  widths_resized (tag ∷ tags) = elim (kind tag) [
    | inl wide ↦ rw wide.1 (ap (λ (t : List (List ℕ)). decimal w ∷ t) (widths_resized tags))
    | inr rest ↦ (elim rest [
      | inl high ↦ rw high.1 (widths_resized tags)
      | inr other ↦ rw (other.stays w h, other.no_width) (widths_resized tags)
    ])
  ]

  heights_resized : (tags : List (List ℕ))
      → given height_letter (resized tags) ≡ map (λ (v : List ℕ). decimal h) (given height_letter tags)
  heights_resized [] = refl
  heights_resized (tag ∷ tags) = elim (kind tag) [
    | inl wide ↦ rw wide.1 (heights_resized tags)
    | inr rest ↦ (elim rest [
      | inl high ↦ rw high.1 (ap (λ (t : List (List ℕ)). decimal h ∷ t) (heights_resized tags))
      | inr other ↦ rw (other.stays w h, other.no_height) (heights_resized tags)
    ])
  ]

  chromas_resized : (tags : List (List ℕ)) → given chroma_letter (resized tags) ≡ given chroma_letter tags
  chromas_resized [] = refl
  chromas_resized (tag ∷ tags) = elim (kind tag) [
    | inl wide ↦ rw wide.1 (chromas_resized tags)
    | inr rest ↦ (elim rest [
      | inl high ↦ rw high.1 (chromas_resized tags)
      | inr other ↦ rw (other.stays w h, chromas_resized tags) refl
    ])
  ]

  -- no new value is longer than the one before it
  shorter : (tags : List (List ℕ)) → NoneShorter w (given width_letter tags)
      → NoneShorter h (given height_letter tags) → length (spaced (resized tags)) ≤ length (spaced tags)
  shorter [] wide high = omega arith
  shorter (tag ∷ tags) wide high = elim (kind tag) [
    | inl is ↦
        let own = rw is.1 at wide in
        let others = rw is.1 at high in
        let tail = shorter tags own.1 others in
        spaced_step (resized_piece w h tag) tag (resized tags) tags (rw is.1 (omega (arith, own.0))) tail
    | inr rest ↦ (elim rest [
      | inl is ↦
          let others = rw is.1 at wide in
          let own = rw is.1 at high in
          let tail = shorter tags others own.1 in
          spaced_step (resized_piece w h tag) tag (resized tags) tags (rw is.1 (omega (arith, own.0))) tail
      | inr other ↦
          let ws = rw other.no_width at wide in
          let hs = rw other.no_height at high in
          let tail = shorter tags ws hs in
          let own : length (resized_piece w h tag) ≤ length tag = rw (other.stays w h) (omega arith) in
          spaced_step (resized_piece w h tag) tag (resized tags) tags own tail
    ])
  ]

All-parts : {X : Type 0} (P : X → Type 0) (xs ys : List X) → All P (xs ++ ys) → All P xs × All P ys
All-parts P [] ys all = (All-nil P, all)
All-parts P (x ∷ xs) ys all =
    let rest = All-parts P xs ys (All-tail P x (xs ++ ys) all) in
    (All-cons P x xs (All-head P x (xs ++ ys) all) rest.0, rest.1)

no_feed_digits : (ds : List ℕ) → All IsAsciiDigit ds → All IsNoFeed ds
no_feed_digits ds digits k d h e = let digit = digits k d h in absurd (omega (arith, digit.0, e))

abbrev IsNoSpace : ℕ → Type 0
IsNoSpace byte = eqb byte 32 ≡ false

abbrev IsSolid : List ℕ → Type 0
IsSolid piece = All IsNoSpace piece

solid_digits : (ds : List ℕ) → All IsAsciiDigit ds → IsSolid ds
solid_digits ds digits k d h = let digit = digits k d h in grind (arith, nat_tests)

-- every piece of a line is free of spaces
solid_onto : (c : ℕ) (parts : List (List ℕ)) → IsNoSpace c → AllByRecursion IsSolid parts
    → AllByRecursion IsSolid (onto_first c parts)
solid_onto c [] other parts = (All-cons IsNoSpace c [] other (All-nil IsNoSpace), tt)
solid_onto c (part ∷ more) other parts = (All-cons IsNoSpace c part other parts.0, parts.1)

solid_pieces : (line : List ℕ) → AllByRecursion IsSolid (pieces line)
solid_pieces [] = (All-nil IsNoSpace, tt)
solid_pieces (c ∷ line) = elim (cases_Bool (eqb c 32)) [
  | inl is ↦ rw (slice_split-cons_yes (λ byte. eqb byte 32) c line is) (All-nil IsNoSpace, solid_pieces line)
  | inr other ↦
      let more = solid_onto c (pieces line) other (solid_pieces line) in
      rw (slice_split-cons_no (λ byte. eqb byte 32) c line other) more
]

-- pieces that are free of spaces are those of their line
pieces-join : (first : List ℕ) (more : List (List ℕ)) → IsSolid first → AllByRecursion IsSolid more
    → pieces (join_with_byte space (first ∷ more)) ≡ first ∷ more
pieces-join first [] solid others = slice_split_none (λ byte. eqb byte 32) first solid
pieces-join first (second ∷ more) solid others =
    slice_split_at (λ byte. eqb byte 32) first 32 (join_with_byte 32 (second ∷ more)) solid refl
    ∙ ap (λ (t : List (List ℕ)). first ∷ t) (pieces-join second more others.0 others.1)

-- the word is the first piece
word_first : (line first : List ℕ) (more : List (List ℕ)) → pieces line ≡ first ∷ more → first ≡ word line
    → pieces line ≡ word line ∷ drop 1 (pieces line)
word_first line first more split is = rw (split, is) refl

pub pieces_at_word : (line : List ℕ) → pieces line ≡ word line ∷ drop 1 (pieces line)
pieces_at_word line = elim (cases_lt (position_or_len (λ byte. eqb byte 32) line) (length line)) [
  | inl more ↦ word_first line (word line) _ (slice_split_first (λ byte. eqb byte 32) line 0 more) refl
  | inr none ↦
      let all : word line ≡ line = take_all (position_or_len (λ byte. eqb byte 32) line) line none in
      word_first line line [] (split_all (λ byte. eqb byte 32) line none) (sym all)
]

module _ (w h : ℕ) (wide : IsSize (decimal w)) (high : IsSize (decimal h)) where
  solid_resized : (tags : List (List ℕ)) → AllByRecursion IsSolid tags
      → AllByRecursion IsSolid (resized w h tags)
  solid_resized [] solid = tt
  solid_resized (tag ∷ tags) solid =
      let rest = solid_resized tags solid.1 in
      elim (kind tag) [
        | inl is ↦
            let digits = solid_digits (decimal w) (size_digits wide) in
            rw is.1 (All-cons IsNoSpace width_letter (decimal w) refl digits, rest)
        | inr more ↦ (elim more [
          | inl is ↦
              let digits = solid_digits (decimal h) (size_digits high) in
              rw is.1 (All-cons IsNoSpace height_letter (decimal h) refl digits, rest)
          | inr other ↦ rw (other.stays w h) (solid.0, rest)
        ])
      ]

  no_feed_piece : (tag : List ℕ) → All IsNoFeed tag → All IsNoFeed (resized_piece w h tag)
  no_feed_piece tag all = elim (kind tag) [
    | inl is ↦
        let digits = no_feed_digits (decimal w) (size_digits wide) in
        rw is.1 (All-cons IsNoFeed width_letter (decimal w) (λ e. absurd (omega (arith, e))) digits)
    | inr more ↦ (elim more [
      | inl is ↦
          let digits = no_feed_digits (decimal h) (size_digits high) in
          rw is.1 (All-cons IsNoFeed height_letter (decimal h) (λ e. absurd (omega (arith, e))) digits)
      | inr other ↦ rw (other.stays w h) all
    ])
  ]

  no_feed_resized : (tags : List (List ℕ)) → All IsNoFeed (spaced tags)
      → All IsNoFeed (spaced (resized w h tags))
  no_feed_resized [] all = all
  no_feed_resized (tag ∷ tags) all =
      let parts = All-parts IsNoFeed (32 ∷ tag) (spaced tags) all in
      let rest = no_feed_resized tags parts.1 in
      let own = no_feed_piece tag (All-tail IsNoFeed 32 tag parts.0) in
      let spaced_own = All-cons IsNoFeed 32 (resized_piece w h tag) (λ e. absurd (omega (arith, e))) own in
      All-append IsNoFeed (32 ∷ resized_piece w h tag) (spaced (resized w h tags)) spaced_own rest

-- the one value that states n
only_shorter : (line_values : List (List ℕ)) (n m : ℕ) → m ≤ n → n ≤ LONGEST_SIDE → StatesSize line_values n
    → NoneShorter m line_values
only_shorter line_values n m less few states =
    rw states.1 (decimal_shorter m n states.0 less few states.2 states.3, tt)

half : (n m : ℕ) → m ≤ n → m / 2 ≤ n / 2
half n m less = omega arith

quarter : (n m : ℕ) → m ≤ n → m / 4 ≤ n / 4
quarter n m less = omega arith

-- a smaller format has no more data
data_less : (w h w' h' : ℕ) (chroma : Chroma) → w' ≤ w → h' ≤ h → data_len w' h' chroma ≤ data_len w h chroma
data_less w h w' h' S420 wide high =
    omega (arith, mul-le-mul wide high, mul-le-mul (half w w' wide) (half h h' high))
data_less w h w' h' S422 wide high = omega (arith, mul-le-mul wide high)
data_less w h w' h' S411 wide high = omega (arith, mul-le-mul wide high, mul-le-mul (quarter w w' wide) high)
data_less w h w' h' S444 wide high = omega (arith, mul-le-mul wide high)
data_less w h w' h' S444Alpha wide high = omega (arith, mul-le-mul wide high)
data_less w h w' h' Mono wide high = mul-le-mul wide high

-- a line in its parts, and the same line resized
pub record Resizes (line : List ℕ) (w h : ℕ) : Type 0 where
  pub pieces_are : pieces (resized_line line w h) ≡ word line ∷ resized w h (drop 1 (pieces line))
  pub same_word : word (resized_line line w h) ≡ word line
  pub text : resized_line line w h ≡ word line ++ spaced (resized w h (drop 1 (pieces line)))
  pub old_text : line ≡ word line ++ spaced (drop 1 (pieces line))

resizes : (line : List ℕ) (w h : ℕ) → IsSize (decimal w) → IsSize (decimal h) → Resizes line w h
resizes line w h wide high =
    let tags = drop 1 (pieces line) in
    let new = resized w h tags in
    let old = pieces_at_word line in
    let joined : List (List ℕ) → List ℕ = λ ps. join_with_byte 32 ps in
    let solid = subst (AllByRecursion IsSolid) old (solid_pieces line) in
    let line_is : resized_line line w h ≡ joined (word line ∷ new) =
    ap (λ (ps : List (List ℕ)). joined (resized_pieces w h ps)) old in
    let all_solid = solid_resized w h wide high tags solid.1 in
    let pieces_are : pieces (resized_line line w h) ≡ word line ∷ new =
    ap (λ (t : List ℕ). pieces t) line_is ∙ pieces-join (word line) new solid.0 all_solid in
    let again = pieces_at_word (resized_line line w h) in
    let both : word (resized_line line w h) ∷ drop 1 (pieces (resized_line line w h)) ≡ word line ∷ new =
    sym again ∙ pieces_are in
    record {
      pieces_are = pieces_are;
      same_word = cc;
      text = line_is ∙ join-cons (word line) new;
      old_text = sym (join_with_byte-slice_split 32 line) ∙ ap joined old ∙ join-cons (word line) tags;
    }

values_resized : (line : List ℕ) (w h letter : ℕ) → Resizes line w h
    → values letter (resized_line line w h) ≡ given letter (resized w h (drop 1 (pieces line)))
values_resized line w h letter is =
    ap (λ (ps : List (List ℕ)). given letter (drop 1 ps)) is.pieces_are

-- a resized line is no longer
pub resized_shorter : (line : List ℕ) (w h w' h' : ℕ) (chroma : Chroma) → IsHeaderLine line w h chroma
    → w' ≤ w → h' ≤ h → Resizes line w' h' → length (resized_line line w' h') ≤ length line
resized_shorter line w h w' h' chroma is wide high parts =
    let tags = drop 1 (pieces line) in
    let new = resized w' h' tags in
    let ws = only_shorter (widths line) w w' wide is.limits.width is.stated.width in
    let hs = only_shorter (heights line) h h' high is.limits.height is.stated.height in
    let tail = shorter w' h' tags ws hs in
    let own = length-append (word line) (spaced tags) in
    let others = length-append (word line) (spaced new) in
    omega (arith, ap length parts.text, ap length parts.old_text, own, others, tail)

pub resizes_header : (line : List ℕ) (w h w' h' : ℕ) (chroma : Chroma) → IsHeaderLine line w h chroma
    → 1 ≤ w' → w' ≤ w → 1 ≤ h' → h' ≤ h → Resizes line w' h'
resizes_header line w h w' h' chroma is some_w wide some_h high =
    let size_w = decimal_is_size w' some_w (omega (arith, is.limits.width)) in
    let size_h = decimal_is_size h' some_h (omega (arith, is.limits.height)) in
    resizes line w' h' size_w size_h

-- one value, put in the place of one
states_new : (old new : List (List ℕ)) (size size' : ℕ) → new ≡ map (λ (v : List ℕ). decimal size') old
    → StatesSize old size → 1 ≤ size' → size' ≤ LONGEST_SIDE → StatesSize new size'
states_new old new size size' is states some few =
    let one = is ∙ ap (λ (vs : List (List ℕ)). map (λ (v : List ℕ). decimal size') vs) states.1 in
    (decimal size', one, decimal_is_size size' some few, digits_value_decimal size' few)

-- and is a header line of the new size
pub resized_is_header : (line : List ℕ) (w h w' h' : ℕ) (chroma : Chroma) → IsHeaderLine line w h chroma
    → 1 ≤ w' → w' ≤ w → 1 ≤ h' → h' ≤ h → IsDivided w' h' chroma
    → IsHeaderLine (resized_line line w' h') w' h' chroma
resized_is_header line w h w' h' chroma is some_w wide some_h high divided =
    let few_w : w' ≤ LONGEST_SIDE = omega (arith, is.limits.width) in
    let few_h : h' ≤ LONGEST_SIDE = omega (arith, is.limits.height) in
    let size_w = decimal_is_size w' some_w few_w in
    let size_h = decimal_is_size h' some_h few_h in
    let parts = resizes line w' h' size_w size_h in
    let tags = drop 1 (pieces line) in
    let new_line = resized_line line w' h' in
    let ws = values_resized line w' h' width_letter parts ∙ widths_resized w' h' tags in
    let hs = values_resized line w' h' height_letter parts ∙ heights_resized w' h' tags in
    let cs = values_resized line w' h' chroma_letter parts ∙ chromas_resized w' h' tags in
    let old_feeds = rw parts.old_text at is.stated.is_y4m.is_line.no_feed in
    let feeds = All-parts IsNoFeed (word line) (spaced tags) old_feeds in
    let new_feeds = no_feed_resized w' h' size_w size_h tags feeds.1 in
    let no_feed : All IsNoFeed new_line =
    rw parts.text (All-append IsNoFeed (word line) (spaced (resized w' h' tags)) feeds.0 new_feeds) in
    let no_longer = resized_shorter line w h w' h' chroma is wide high parts in
    let short : length new_line ≤ LONGEST_LINE = omega (arith, no_longer, is.stated.is_y4m.is_line.short) in
    record {
      stated = record {
        is_y4m = record {
          is_line = record { no_feed = no_feed; short = short };
          is_word = parts.same_word ∙ is.stated.is_y4m.is_word;
        };
        width = states_new (widths line) (widths new_line) w w' ws is.stated.width some_w few_w;
        height = states_new (heights line) (heights new_line) h h' hs is.stated.height some_h few_h;
        form = subst (λ (vs : List (List ℕ)). StatesChroma vs chroma) (sym cs) is.stated.form;
      };
      divided = divided;
      limits = record {
        width = few_w;
        height = few_h;
        bytes = omega (arith, data_less w h w' h' chroma wide high, is.limits.bytes);
      };
    }

-- How much of a frame is to be awaited.
use Rattle.std.proofs.Common.{◌≡◌, ◌≢◌, ℕ, ◌+◌, ◌-◌, ◌<◌, ◌≤◌, inl, inr, List, [], ◌∷◌, ◌++◌, length, take, drop, get_or}
use Rattle.std.proofs.Common.{refl, Option, Some, None}
use Rattle.std.proofs.Common.{sym, ap, subst, ◌∙◌, append_assoc, append-nil, arith, length-append, eqb}
use Rattle.std.specs.List.{position_or_len}
use Rattle.std.specs.Prelude.{IfNone}
use Rattle.std.proofs.lemmas.Bool.{cases_lt}
use Rattle.std.proofs.lemmas.List.{length-drop, length-take, length-take-le, take-append-drop, take_all}
use Rattle.std.proofs.lemmas.List.Elements.{All-append, All-head, All-tail}
use Rattle.y4m_header.specs.FrameLine.{IsFrameLine}
use Rattle.y4m_header.specs.Line.{IsLine}
use Rattle.y4m_stream.specs.Front.{HasNoLineFeed}
use Rattle.y4m_stream.specs.Inside.{BeginsWithLine}
use Rattle.y4m_stream.specs.Wanted.{EndsFrame, IsEnough, IsLacking, IsLeast}
use Rattle.y4m_stream.proofs.Fronts.{Front, Cut, Long, Whole, line_front}

abbrev IsNoFeed : ℕ → Type 0
IsNoFeed byte = byte ≢ 10

-- bytes with no line feed, in front of a line and its line feed, are of the line
within_line : (clean line more rest : List ℕ) → HasNoLineFeed clean → clean ++ more ≡ line ++ 10 ∷ rest → length clean ≤ length line
within_line [] line more rest none is = omega arith
within_line (byte ∷ clean) [] more rest none is =
    absurd (All-head IsNoFeed byte clean none (ap (λ l. get_or l 0 0) is))
within_line (byte ∷ clean) (other ∷ line) more rest none is =
    omega (arith, within_line clean line more rest (All-tail IsNoFeed byte clean none) (ap (drop 1) is))

abbrev line_in : Front → List ℕ
line_in (Cut bytes) = []
line_in Long = []
line_in (Whole line more) = line

same_line : (line more other rest : List ℕ) → IsLine line → IsLine other → line ++ 10 ∷ more ≡ other ++ 10 ∷ rest → line ≡ other
same_line line more other rest is is' e =
    sym (ap line_in (line_front (line ++ 10 ∷ more) line more is refl)) ∙ ap line_in (line_front (line ++ 10 ∷ more) other rest is' e)

-- a frame line is no shorter than its word
word_within : (line : List ℕ) → IsFrameLine line → 5 ≤ length line
word_within line is =
    let long = sym (length-take (position_or_len (λ byte. eqb byte 32) line) line) ∙ ap length is.is_word in
    omega (arith, long)

ended_length : (most behind : ℕ) (bytes : List ℕ) (e : EndsFrame most behind bytes)
    → length e.frame.line + 1 + behind ≡ length e.before + length bytes
ended_length most behind bytes e = omega (
  arith,
  length-append e.frame.line (10 ∷ e.frame.samples),
  ap length e.text,
  length-append e.before bytes,
  e.is_frame.whole,
)

-- no frame ends before the shortest does
shortest : (most behind : ℕ) (bytes : List ℕ) → EndsFrame most behind bytes → 6 + behind ≤ 1024 - most + length bytes
shortest most behind bytes e =
    omega (arith, ended_length most behind bytes e, word_within e.frame.line e.is_frame.is_line, e.lacking)

-- no frame ends before a line feed and its data behind bytes of its line
ends_behind : (most behind : ℕ) (clean rest : List ℕ) → HasNoLineFeed clean → EndsFrame most behind (clean ++ rest)
    → length clean + 1 + behind ≤ length (clean ++ rest)
ends_behind most behind clean rest none e =
    let none' = All-append IsNoFeed e.before clean e.in_line none in
    let within = within_line (e.before ++ clean) e.frame.line rest e.frame.samples none'
    (append_assoc e.before clean rest ∙ sym e.text) in
    omega (arith, within, ended_length most behind (clean ++ rest) e, length-append e.before clean)

-- what is enough, where a line stands at the front
at_line : (most behind : ℕ) (line more : List ℕ) → IsLine line → length line < most → (most ≡ 1024 → IsFrameLine line)
    → IsEnough most behind (line ++ 10 ∷ more) → length line + 1 + behind ≤ length (line ++ 10 ∷ more)
at_line most behind line more is short frame (inl r) =
    let within = within_line line r.rest (10 ∷ more) r.more is.no_feed r.whole in
    omega (arith, within, ap length r.whole, length-append r.rest (10 ∷ r.more), r.enough)
at_line most behind line more is short frame (inr (inl l)) =
    let bytes = line ++ 10 ∷ more in
    let within = within_line (take most bytes) line (drop most bytes) more l.no_feed (take-append-drop most bytes) in
    absurd (omega (arith, short, length-take-le most bytes l.long, within))
at_line most behind line more is short frame (inr (inr o)) =
    absurd (o.1.is_other (subst IsFrameLine (same_line line more o.1.line o.1.more is o.1.is_line o.1.whole) (frame o.0)))

-- what is enough, where the front has no line feed and may still get one: nothing is
in_line : (most behind : ℕ) (bytes : List ℕ) → HasNoLineFeed bytes → length bytes < most → IsEnough most behind bytes → ⊥
in_line most behind bytes none short (inl r) =
    let within = within_line bytes r.rest [] r.more none (append-nil bytes ∙ r.whole) in
    omega (arith, within, ap length r.whole, length-append r.rest (10 ∷ r.more))
in_line most behind bytes none short (inr (inl l)) = omega (arith, short, l.long)
in_line most behind bytes none short (inr (inr o)) =
    let within = within_line bytes o.1.line [] o.1.more none (append-nil bytes ∙ o.1.whole) in
    omega (arith, within, ap length o.1.whole, length-append o.1.line (10 ∷ o.1.more))

-- a line stands at the front, and its data are to be awaited
line_ahead : (most behind : ℕ) (line more : List ℕ) → IsLine line → length line < most → (most ≡ 1024 → IsFrameLine line)
    → IsLeast most behind (line ++ 10 ∷ more) (length line + 1 + behind)
line_ahead most behind line more is short frame =
    let bytes = line ++ 10 ∷ more in
    record {
      enough = (
        λ h. inl (record {
          rest = line;
          more = more;
          no_feed = is.no_feed;
          short = short;
          enough = omega (arith, h, length-append line (10 ∷ more));
          whole = refl;
        }),
        at_line most behind line more is short frame,
      );
      within = λ after e.
          let e' = subst (EndsFrame most behind) (append_assoc line (10 ∷ more) after) e in
          let ends = ends_behind most behind line (10 ∷ (more ++ after)) is.no_feed e' in
          omega (arith, ends, ap length (append_assoc line (10 ∷ more) after));
    }

-- another line stands at the front: nothing behind it is awaited
other_ahead : (behind : ℕ) (line more : List ℕ) → IsLine line → ¬ IsFrameLine line
    → IsLeast 1024 behind (line ++ 10 ∷ more) (length line + 1)
other_ahead behind line more is other =
    let long : length line + 1 ≤ length (line ++ 10 ∷ more) = omega (arith, length-append line (10 ∷ more)) in
    record {
      enough = (
        λ h. inr (inr (refl, record { line = line; more = more; is_line = is; is_other = other; whole = refl })),
        λ e. long,
      );
      within = λ after e. omega (arith, long, length-append (line ++ 10 ∷ more) after);
    }

-- no line feed is in as much of the front as the rest of a line may have
long_ahead : (most behind : ℕ) (bytes : List ℕ) → most ≤ length bytes → HasNoLineFeed (take most bytes) → IsLeast most behind bytes most
long_ahead most behind bytes long none = record {
  enough = (λ h. inr (inl (record { long = long; no_feed = none })), λ e. long);
  within = λ after e. omega (arith, long, length-append bytes after);
}

-- more of the line is to come, at least so many bytes in all
part_ahead : (most behind n : ℕ) (bytes : List ℕ) → length bytes < most → HasNoLineFeed bytes → length bytes < n
    → ((m : ℕ) → length bytes + 1 + behind ≤ m → 6 + behind ≤ 1024 - most + m → n ≤ m) → IsLeast most behind bytes n
part_ahead most behind n bytes short none more least = record {
  enough = (λ h. absurd (omega (arith, h, more)), λ e. absurd (in_line most behind bytes none short e));
  within = λ after e.
      least (length (bytes ++ after)) (ends_behind most behind bytes after none e) (shortest most behind (bytes ++ after) e);
}

-- where the first n of some bytes are a line
split_line : (bytes beyond : List ℕ) (n : ℕ) → BeginsWithLine bytes n
    → take n bytes ++ 10 ∷ (drop (n + 1) bytes ++ beyond) ≡ bytes ++ beyond
split_line bytes beyond n b =
    sym (ap (λ l. l ++ beyond) b.feed ∙ append_assoc (take n bytes) (10 ∷ drop (n + 1) bytes) beyond)

-- the same, by the place of the first line feed in the first k bytes
pub line_found : (most behind n k : ℕ) (front : List ℕ) → k ≤ most → BeginsWithLine (take k front) n
    → (most ≡ 1024 → IsFrameLine (take n (take k front))) → IsLeast most behind front (n + 1 + behind)
line_found most behind n k front few b frame =
    let bytes = take k front in
    let whole = split_line bytes (drop k front) n b ∙ take-append-drop k front in
    let at : length (take n bytes) ≡ n = length-take-le n bytes (omega (arith, b.within)) in
    let short : length (take n bytes) < most = omega (arith, at, b.within, length-take k front, few) in
    subst (λ (j : ℕ). IsLeast most behind front (j + 1 + behind)) at (
    subst (λ (l : List ℕ). IsLeast most behind l (length (take n bytes) + 1 + behind)) whole
    (line_ahead most behind (take n bytes) (drop (n + 1) bytes ++ drop k front) b.is_line short frame)
    )

pub other_found : (behind n k : ℕ) (front : List ℕ) → BeginsWithLine (take k front) n → ¬ IsFrameLine (take n (take k front))
    → IsLeast 1024 behind front (n + 1)
other_found behind n k front b other =
    let bytes = take k front in
    let whole = split_line bytes (drop k front) n b ∙ take-append-drop k front in
    let at : length (take n bytes) ≡ n = length-take-le n bytes (omega (arith, b.within)) in
    subst (λ (j : ℕ). IsLeast 1024 behind front (j + 1)) at (
    subst (λ (l : List ℕ). IsLeast 1024 behind l (length (take n bytes) + 1)) whole
    (other_ahead behind (take n bytes) (drop (n + 1) bytes ++ drop k front) b.is_line other)
    )

-- no line feed is in as many of the first bytes as are looked at, which are all that may be of the line
pub none_found : (most behind n k : ℕ) (front : List ℕ) → k ≤ most → (k < most → k ≡ length front) → k ≤ length front
    → HasNoLineFeed (take k front) → (most ≤ k → n ≡ most) → (k < most → k < n)
    → ((m : ℕ) → k < most → k + 1 + behind ≤ m → 6 + behind ≤ 1024 - most + m → n ≤ m) → IsLeast most behind front n
none_found most behind n k front few all within none long more least = elim (cases_lt k most) [
  | inl h ↦
      let len : length front ≡ k = sym (all h) in
      part_ahead most behind n front (omega (arith, len, h)) (subst HasNoLineFeed (take_all k front (omega (arith, len))) none)
      (omega (arith, more h, len)) (λ m p q. least m h (omega (arith, len, p)) q)
  | inr h ↦
      let is : k ≡ most = omega (arith, h, few) in
      subst (λ (j : ℕ). IsLeast most behind front j) (sym (long h))
      (long_ahead most behind front (omega (arith, is, within)) (subst (λ (j : ℕ). HasNoLineFeed (take j front)) is none))
]

-- what is enough, and what is lacking, of a frame whose line is held
pub held_line : (len n : ℕ) (held : List ℕ) → BeginsWithLine held n → IsFrameLine (take n held) → len ≤ length held - n - 1
    → IsEnough 1024 len held
held_line len n held b frame enough = inl (record {
  rest = take n held;
  more = drop (n + 1) held;
  no_feed = b.is_line.no_feed;
  short = omega (arith, b.is_line.short);
  enough = omega (arith, enough, length-drop (n + 1) held);
  whole = b.feed;
})

pub lacking_data : (len n behind : ℕ) (held : List ℕ) → BeginsWithLine held n → IsFrameLine (take n held)
    → length held - n - 1 + behind ≡ len → IsLacking len held 0 behind
lacking_data len n behind held b frame lacking = inr (
  refl,
  (
    record { line = take n held; more = drop (n + 1) held; is_line = frame; whole = b.feed },
    omega (arith, lacking, length-drop (n + 1) held),
  ),
)

pub none_then : {A P Q : Type 0} (r : Option A) → IfNone r P → (P → Q) → IfNone r Q
none_then None p f = f p
none_then (Some x) p f = tt

-- The lines of a control, one after the other.
use Rattle.std.proofs.Common.{◌≡◌, ◌∙◌, ℕ, ◌+◌, ◌-◌, ◌<◌, ◌≤◌, ap, append-nil, arith, refl, subst, sym}
use Rattle.std.proofs.Common.{Bool, cond, false, true, List, [], ◌∷◌, ◌++◌, drop, length, length-append, take}
use Rattle.std.proofs.Common.{Option, Some, None, codes, suc}
use Rattle.std.specs.Prelude.{◌==◌, IfSome, nat_le, nat_lt, not, position, unwrap_or}
use Rattle.std.specs.Str.{bytes_eq}
use Rattle.std.specs.Io.KnownBytes.{IsAtEnd, Keeps, prepend_known}
use Rattle.std.specs.List.{before_first, copy_within, position_or_len}
use Rattle.std.specs.Option.{option_map, option_map_or}
use Rattle.std.proofs.lemmas.Bool.Decides.{nat_tests}
use Rattle.std.proofs.lemmas.List.{drop-append-le, drop-drop, drop-take, get_or_append_left, length-take, take-append-le}
use Rattle.std.proofs.lemmas.List.{take-take}
use Rattle.std.proofs.lemmas.List.Quantifiers.{position-Some}
use Rattle.std.proofs.lemmas.List.Sums.{position_or_len_is}
use borrow.Rule.Slice.PartMut.{put_mid}
use Rattle.y4m_header.specs.Text.{text_after}
use Rattle.y4m_stream.proofs.Known.{take-moved, take-put_mid_more}
use Rattle.serve_report.specs.Feeds.{Fed, Line, LosesLine, Wrong, behind_first, first_fed, last_fed, line_fed}
use Rattle.serve_report.specs.declared.control.feed.TheConstants.{LONGEST_LINE}
use Rattle.serve_report.specs.declared.control.line.LineFault.TheVariants.{BadLine, TooLong}
use Rattle.serve_report.specs.declared.control.quoted.TheConstants.{MOST_TOLD}

abbrev pub is_feed : ℕ → Bool
is_feed byte = byte == 10

-- ---- within the room

pub front_taken : (room : List ℕ) (from to place : ℕ) → from + place ≤ to
    → drop from (take (from + place) room) ≡ take place (drop from (take to room))
front_taken room from to place h =
    let whole : from + (to - from) ≡ to = omega arith in
    drop-take from place room
    ∙ sym (take-take place (to - from) (drop from room) (omega arith))
    ∙ ap (take place) (sym (drop-take from (to - from) room) ∙ ap (λ n. drop from (take n room)) whole)

pub rest_taken : (room : List ℕ) (from to n : ℕ) → drop (from + n) (take to room) ≡ drop n (drop from (take to room))
rest_taken room from to n = sym (drop-drop n from (take to room))

-- bytes are read behind those that were held and moved to the front
pub moved_held : (room : List ℕ) (from to k : ℕ) (moved : List ℕ) → moved ≡ copy_within room from to 0 → (read : List ℕ) (n : ℕ)
    → from ≤ to → to ≤ length room → to - from ≤ length moved → n ≤ length read
    → take (to - from + n) (put_mid (to - from) k moved read) ≡ drop from (take to room) ++ take n read
moved_held room from to k moved is read n h i j l =
    take-put_mid_more moved read (to - from) k n j l
    ∙ ap (λ front. front ++ take n read) (ap (take (to - from)) is ∙ take-moved room from to h i)

pub keeps_held : (a b : Option (List ℕ)) (held now : List ℕ) → now ≡ held → Keeps a b → Keeps (prepend_known held a) (prepend_known now b)
keeps_held None b held now e k = tt
keeps_held (Some xs) None held now e k = absurd k
keeps_held (Some xs) (Some ys) held now e k = ap (λ l. l ++ ys) e ∙ ap (λ l. held ++ l) k

pub keeps_on : (a b c : Option (List ℕ)) → Keeps a b → Keeps b c → Keeps a c
keeps_on None b c k l = tt
keeps_on (Some xs) None c k l = absurd k
keeps_on (Some xs) (Some ys) None k l = absurd l
keeps_on (Some xs) (Some ys) (Some zs) k l = l ∙ k

-- ---- the first line feed of a text

at_place : (text : List ℕ) (place : ℕ) → position_or_len is_feed text ≡ place → place < length text
    → position is_feed text ≡ Some place
at_place text place is less =
    let test : nat_lt place (length text) ≡ true = grind (arith, nat_tests) in
    ap (λ n. cond (nat_lt n (length text)) (Some n) None) is ∙ ap (λ found. cond found (Some place) None) test

at_none : (text : List ℕ) → length text ≤ position_or_len is_feed text → position is_feed text ≡ None
at_none text most =
    let n = position_or_len is_feed text in
    let test : nat_lt n (length text) ≡ false = grind (arith, nat_tests) in
    ap (λ found. cond found (Some n) None) test

-- where none is found there is none
no_feed : (text : List ℕ) → position is_feed text ≡ None → length text ≤ position_or_len is_feed text
no_feed text none = go (nat_lt (position_or_len is_feed text) (length text)) refl none
  where
    go : (found : Bool) → nat_lt (position_or_len is_feed text) (length text) ≡ found
        → cond found (Some (position_or_len is_feed text)) None ≡ None → length text ≤ position_or_len is_feed text
    go true is some = cc
    go false is none = grind (arith, nat_tests)

module _ (front behind : List ℕ) (place : ℕ) (is : position is_feed front ≡ Some place) where
  less : place < length front
  less = (position-Some is_feed front place 0 is).0

  -- the front holds the first one
  in_front : position_or_len is_feed (front ++ behind) ≡ place
  in_front =
      let at = position-Some is_feed front place 0 is in
      let within = less in
      position_or_len_is is_feed (front ++ behind) place 0 (omega (arith, length-append front behind))
      (λ k before. ap is_feed (get_or_append_left front behind 0 k (omega arith)) ∙ at.2 k before)
      (λ _. ap is_feed (get_or_append_left front behind 0 place within) ∙ at.1)

  pub after_front : text_after 10 (front ++ behind) ≡ Some (drop (place + 1) front ++ behind)
  after_front =
      let within = less in
      ap (option_map (λ place. drop (place + 1) (front ++ behind)))
      (at_place (front ++ behind) place in_front (omega (arith, length-append front behind)))
      ∙ ap Some (drop-append-le (place + 1) front behind (omega arith))

  pub before_place : before_first is_feed (front ++ behind) ≡ take place front
  before_place =
      let within = less in
      ap (λ n. take n (front ++ behind)) in_front ∙ take-append-le place front behind (omega arith)

module _ (x : ℕ) (text : List ℕ) (loud : is_feed x ≡ false) where
  one_on : position_or_len is_feed (x ∷ text) ≡ 1 + position_or_len is_feed text
  one_on = ap (λ found. cond (not found) (1 + position_or_len is_feed text) 0) loud

  -- a byte that is none stands before it
  step : text_after 10 (x ∷ text) ≡ text_after 10 text
  step = go (nat_lt (position_or_len is_feed text) (length text)) refl
    where
      go : (found : Bool) → nat_lt (position_or_len is_feed text) (length text) ≡ found → text_after 10 (x ∷ text) ≡ text_after 10 text
      go true is =
          let n = position_or_len is_feed text in
          let within : n < length text = grind (arith, nat_tests) in
          let further : 1 + n + 1 ≡ suc (n + 1) = omega arith in
          ap (option_map (λ place. drop (place + 1) (x ∷ text))) (at_place (x ∷ text) (1 + n) one_on (omega arith))
          ∙ ap (λ m. Some (drop m (x ∷ text))) further
          ∙ sym (ap (option_map (λ place. drop (place + 1) text)) (at_place text n refl within))
      go false is =
          let n = position_or_len is_feed text in
          let out : length text ≤ n = grind (arith, nat_tests) in
          ap (option_map (λ place. drop (place + 1) (x ∷ text))) (at_none (x ∷ text) (omega (arith, one_on)))
          ∙ sym (ap (option_map (λ place. drop (place + 1) text)) (at_none text out))

-- the front holds none: so it stands behind it, if at all
pub behind_front : (front behind : List ℕ) → position is_feed front ≡ None
    → (text_after 10 (front ++ behind) ≡ text_after 10 behind) × (length front ≤ position_or_len is_feed (front ++ behind))
behind_front [] behind none = (refl, omega arith)
behind_front (x ∷ front) behind none = go (is_feed x) refl (λ rest. behind_front front behind rest)
  where
    go : (found : Bool) → is_feed x ≡ found
        → (position is_feed front ≡ None → (text_after 10 (front ++ behind) ≡ text_after 10 behind)
        × (length front ≤ position_or_len is_feed (front ++ behind)))
        → (text_after 10 (x ∷ (front ++ behind)) ≡ text_after 10 behind)
        × (length (x ∷ front) ≤ position_or_len is_feed (x ∷ (front ++ behind)))
    go true is passes =
        let out = no_feed (x ∷ front) none in
        let first : position_or_len is_feed (x ∷ front) ≡ 0 =
        ap (λ found. cond (not found) (1 + position_or_len is_feed front) 0) is in
        absurd (omega (arith, out, first))
    go false is passes =
        let out = no_feed (x ∷ front) none in
        let on = one_on x front is in
        let further = one_on x (front ++ behind) is in
        let more = passes (at_none front (omega (arith, out, on))) in
        (step x (front ++ behind) is ∙ more.0, omega (arith, further, more.1))

-- ---- a line that is lost

-- what stands behind the first line is what stood behind it
abbrev pub Behind : Option (List ℕ) → Option (List ℕ) → Type 0
Behind start now = IfSome start (λ text. (rest : List ℕ) × (now ≡ Some rest) × (behind_first text ≡ behind_first rest))

pub begins : (start : Option (List ℕ)) → Behind start start
begins None = tt
begins (Some text) = (text, refl, refl)

module _ (held : List ℕ) where
  pub loses_more : (start left after : Option (List ℕ)) → Behind start (prepend_known held left) → position is_feed held ≡ None
      → Keeps (prepend_known [] left) after → Behind start after
  loses_more None left after behind none keeps = tt
  loses_more (Some text) None after behind none keeps = cc
  loses_more (Some text) (Some left) None behind none keeps = absurd keeps
  loses_more (Some text) (Some left) (Some after) behind none keeps =
      let rest : Some (held ++ left) ≡ Some behind.0 = behind.1 in
      let same : behind.0 ≡ held ++ left = cc in (
        after,
        refl,
        behind.2 ∙ ap behind_first same ∙ ap (λ found. unwrap_or found []) (behind_front held left none).0 ∙ ap behind_first (sym keeps),
      )

  pub loses_line : (start left : Option (List ℕ)) (place : ℕ) → Behind start (prepend_known held left)
      → position is_feed held ≡ Some place → LosesLine start (prepend_known (drop (place + 1) held) left)
  loses_line None left place behind is = tt
  loses_line (Some text) None place behind is = cc
  loses_line (Some text) (Some left) place behind is =
      let rest : Some (held ++ left) ≡ Some behind.0 = behind.1 in
      let same : behind.0 ≡ held ++ left = cc in
      ap Some (sym (behind.2 ∙ ap behind_first same ∙ ap (λ found. unwrap_or found []) (after_front held left place is)))

  pub loses_all : (start left : Option (List ℕ)) → Behind start (prepend_known held left) → held ≡ [] → IsAtEnd left
      → LosesLine start (prepend_known held left)
  loses_all None left behind none end = tt
  loses_all (Some text) None behind none end = cc
  loses_all (Some text) (Some left) behind none end =
      let rest : Some (held ++ left) ≡ Some behind.0 = behind.1 in
      let nothing : held ++ left ≡ [] = ap (λ l. l ++ left) none ∙ end in
      let same : behind.0 ≡ [] = cc in
      ap Some (nothing ∙ sym (behind.2 ∙ ap behind_first same))

-- so many bytes of it came before the rest
abbrev pub RunsOn : ℕ → Option (List ℕ) → Option (List ℕ) → Type 0
RunsOn n start now = IfSome start (λ text. IfSome now (λ rest. n + length rest ≤ length text))

pub runs_first : (start : Option (List ℕ)) → RunsOn 0 start start
runs_first None = tt
runs_first (Some text) = omega arith

pub runs_more : (n : ℕ) (held : List ℕ) (start left after : Option (List ℕ)) → 0 < length held
    → Behind start (prepend_known held left) → RunsOn n start (prepend_known held left) → Keeps (prepend_known [] left) after
    → RunsOn (n + 1) start after
runs_more n held None left after some behind many keeps = tt
runs_more n held (Some text) None after some behind many keeps = cc
runs_more n held (Some text) (Some left) None some behind many keeps = tt
runs_more n held (Some text) (Some left) (Some after) some behind many keeps =
    omega (arith, many, length-append held left, ap length keeps, some)

pub runs_on : (n most : ℕ) → n ≡ most → (start now : Option (List ℕ)) → Behind start now → RunsOn n start now
    → IfSome start (λ text. most ≤ length text)
runs_on n most all None now behind many = tt
runs_on n most all (Some text) None behind many = cc
runs_on n most all (Some text) (Some rest) behind many = omega (arith, all, many)

-- ---- what is told of a line

-- of the first line of known bytes this is told, and then these are left
abbrev pub Tells : Option (List ℕ) → Fed → Option (List ℕ) → Type 0
Tells old fed new = IfSome old (λ text. (fed ≡ first_fed text) × (new ≡ Some (behind_first text)))

pub tells_kept : (old mid new : Option (List ℕ)) (fed : Fed) → Keeps old mid → Tells mid fed new → Tells old fed new
tells_kept None mid new fed keeps tells = tt
tells_kept (Some text) None new fed keeps tells = absurd keeps
tells_kept (Some text) (Some same) new fed keeps tells = subst (λ text. Tells (Some text) fed new) keeps tells

-- more bytes than a line may have are none, ended or not
long_last : (text : List ℕ) → LONGEST_LINE < length text → last_fed text ≡ Wrong TooLong (take MOST_TOLD text)
long_last [] long = absurd (omega arith)
long_last (byte ∷ more) long =
    let over : nat_le (length (byte ∷ more)) LONGEST_LINE ≡ false = grind (arith, nat_tests) in
    let head = take MOST_TOLD (byte ∷ more) in
    ap (λ fits. cond fits (cond (bytes_eq (byte ∷ more) (codes "end")) (Line (byte ∷ more)) (Wrong BadLine head)) (Wrong TooLong head)) over

long_fed : (text : List ℕ) → LONGEST_LINE < position_or_len is_feed text → LONGEST_LINE < length text
    → first_fed text ≡ Wrong TooLong (take MOST_TOLD text)
long_fed text far long = go (text_after 10 text)
  where
    over : nat_le (length (before_first is_feed text)) LONGEST_LINE ≡ false
    over = rw (length-take (position_or_len is_feed text) text) (grind (arith, nat_tests))

    same : take MOST_TOLD (before_first is_feed text) ≡ take MOST_TOLD text
    same = take-take MOST_TOLD (position_or_len is_feed text) text (omega (arith, far))

    go : (after : Option (List ℕ))
        → option_map_or (λ _. line_fed (before_first is_feed text)) after (last_fed text)
        ≡ Wrong TooLong (take MOST_TOLD text)
    go None = long_last text long
    go (Some after) =
        ap (λ fits. cond fits (Line (before_first is_feed text)) (Wrong TooLong (take MOST_TOLD (before_first is_feed text)))) over
        ∙ ap (Wrong TooLong) same

module _ (held : List ℕ) where
  pub tells_line : (left : Option (List ℕ)) (place : ℕ) → position is_feed held ≡ Some place → place ≤ LONGEST_LINE
      → Tells (prepend_known held left) (Line (take place held)) (prepend_known (drop (place + 1) held) left)
  tells_line None place is few = tt
  tells_line (Some left) place is few =
      let after = after_front held left place is in
      let at = position-Some is_feed held place 0 is in
      let within : place < length held = at.0 in
      let long : nat_le (length (take place held)) LONGEST_LINE ≡ true = rw (length-take place held) (grind (arith, nat_tests)) in (
        sym (ap (λ after. option_map_or (λ _. line_fed (before_first is_feed (held ++ left))) after (last_fed (held ++ left))) after
            ∙ ap line_fed (before_place held left place is)
            ∙ ap (λ fits. cond fits (Line (take place held)) (Wrong TooLong (take MOST_TOLD (take place held)))) long),
        ap Some (sym (ap (λ found. unwrap_or found []) after)),
      )

  pub tells_long : (left new : Option (List ℕ)) → position is_feed held ≡ None → LONGEST_LINE < length held
      → LosesLine (prepend_known held left) new → Tells (prepend_known held left) (Wrong TooLong (take MOST_TOLD held)) new
  tells_long None new none long loses = tt
  tells_long (Some left) new none long loses =
      (sym (long_fed (held ++ left) far many ∙ ap (Wrong TooLong) (take-append-le MOST_TOLD held left (omega (arith, long)))), loses)
    where
      far : LONGEST_LINE < position_or_len is_feed (held ++ left)
      far = let passed = (behind_front held left none).1 in omega (arith, passed, long)

      many : LONGEST_LINE < length (held ++ left)
      many = omega (arith, long, length-append held left)

  -- bytes that aren't ended, at the end
  module _ (none : position is_feed held ≡ None) (few : length held ≤ LONGEST_LINE) where
    last_behind : text_after 10 held ≡ None
    last_behind = ap (option_map (λ place. drop (place + 1) held)) none

    pub tells_last : (left : Option (List ℕ)) → IsAtEnd left → Tells (prepend_known held left) (last_fed held) (prepend_known [] left)
    tells_last None end = tt
    tells_last (Some left) end =
        let text : held ++ left ≡ held = ap (λ l. held ++ l) end ∙ append-nil held in (
          sym (ap first_fed text
              ∙ ap (λ after. option_map_or (λ _. line_fed (before_first is_feed held)) after (last_fed held)) last_behind),
          ap Some (end ∙ sym (ap behind_first text ∙ ap (λ found. unwrap_or found []) last_behind)),
        )

    pub last_is : (is_end : Bool) → 0 < length held → bytes_eq held (codes "end") ≡ is_end
        → last_fed held ≡ cond is_end (Line held) (Wrong BadLine (take MOST_TOLD held))
    last_is is_end some is = last_of held some few is
      where
        last_of : (held : List ℕ) → 0 < length held → length held ≤ LONGEST_LINE → bytes_eq held (codes "end") ≡ is_end
            → last_fed held ≡ cond is_end (Line held) (Wrong BadLine (take MOST_TOLD held))
        last_of [] some few is = absurd (omega arith)
        last_of (byte ∷ more) some few is =
            let fits : nat_le (length (byte ∷ more)) LONGEST_LINE ≡ true = grind (arith, nat_tests) in
            let head = take MOST_TOLD (byte ∷ more) in
            ap (λ fits. cond fits (cond (bytes_eq (byte ∷ more) (codes "end")) (Line (byte ∷ more)) (Wrong BadLine head)) (Wrong TooLong head)) fits
            ∙ ap (λ is_end. cond is_end (Line (byte ∷ more)) (Wrong BadLine head)) is

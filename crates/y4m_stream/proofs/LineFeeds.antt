-- The bytes up to the first line feed, by its place.
use Rattle.std.proofs.Common.{◌≡◌, ℕ, ◌+◌, ◌<◌, ◌≤◌, Bool, eqb, List, ◌∷◌, ◌++◌, length, take, drop, None}
use Rattle.std.proofs.Common.{Some, arith, refl, sym, ap, ◌∙◌, add-one, drop-cons}
use Rattle.std.specs.List.{position, position_or_len}
use Rattle.std.proofs.lemmas.Bool.{eqb-true, eqb-false}
use Rattle.std.proofs.lemmas.List.{take-append-drop, get_or-take, length-take, length-take-le}
use Rattle.std.proofs.lemmas.List.Quantifiers.{position-Some}
use Rattle.std.proofs.lemmas.List.Sums.{fails_before_first}
use Rattle.y4m_header.proofs.Cuts.{all-position}
use Rattle.y4m_stream.specs.declared.lookahead.TheConstants.{LINE_LIMIT}
use Rattle.y4m_stream.specs.Front.{HasNoLineFeed}
use Rattle.y4m_stream.specs.Inside.{BeginsWithLine}

abbrev is_feed : ℕ → Bool
is_feed byte = eqb byte 10

whole : (bytes : List ℕ) (n : ℕ) → position is_feed bytes ≡ Some n → bytes ≡ take n bytes ++ 10 ∷ drop (n + 1) bytes
whole bytes n e =
    let is = position-Some is_feed bytes n 0 e in
    sym (take-append-drop n bytes) ∙ ap (λ z. take n bytes ++ z) (rw (add-one, drop-cons bytes n 0 is.0, eqb-true _ _ is.1) refl)

none_before : (bytes : List ℕ) (n : ℕ) → position is_feed bytes ≡ Some n → length (take n bytes) ≡ n → HasNoLineFeed (take n bytes)
none_before bytes n e long = λ k d l.
    let below : k < n = omega (arith, long, l) in
    rw (get_or-take n bytes k d below) (eqb-false _ _ ((position-Some is_feed bytes n d e).2 k below))

pub begins_with_line : (bytes : List ℕ) (n : ℕ) → length bytes ≤ LINE_LIMIT → position is_feed bytes ≡ Some n → BeginsWithLine bytes n
begins_with_line bytes n few e =
    let within : n < length bytes = (position-Some is_feed bytes n 0 e).0 in
    let long : length (take n bytes) ≡ n = length-take-le n bytes (omega arith) in
    record {
      within = within;
      is_line = record { no_feed = none_before bytes n e long; short = rw long (omega arith) };
      feed = whole bytes n e;
    }

pub no_feed : (bytes : List ℕ) → position is_feed bytes ≡ None → HasNoLineFeed bytes
no_feed bytes e =
    let far : length bytes ≤ position_or_len is_feed bytes = omega (arith, ap length (all-position is_feed bytes e) ∙ length-take _ _) in
    λ k d l. eqb-false _ _ (fails_before_first is_feed bytes k d (omega arith))

-- The line of an entry writes the entry.
use Rattle.std.proofs.Common.{ℕ, suc, ◌+◌, ◌≡◌, ◌≤◌, ◌<◌, ◌^◌, Bool, true, false, cond, eqb, nat_le, nat_lt, ◌==◌, ◌&&◌}
use Rattle.std.proofs.Common.{if◌then◌else◌, List, [], ◌∷◌, ◌++◌, All, codes, decimal, length, map, Option, Some, None}
use Rattle.std.proofs.Common.{refl, sym, ◌∙◌, ap, subst, arith}
use Rattle.std.specs.Char.{IsAsciiDigit, is_ascii_digit}
use Rattle.std.specs.List.{AllByRecursion, list_all, onto_first, slice_split}
use Rattle.std.specs.Str.Parse.{digits_value}
use Rattle.std.proofs.lemmas.Bool.Decides.{nat_tests}
use Rattle.std.proofs.lemmas.Fmt.{decimal_nonempty, digits_decimal, digits_value-decimal, length-decimal-le}
use Rattle.std.proofs.lemmas.List.Elements.{All-cons, All-nil}
use Rattle.std.proofs.lemmas.List.Splits.{length-slice_split, slice_split-cons_no, slice_split-cons_yes, slice_split_none}
use Rattle.std.proofs.Common.{Bor}
use Rattle.std.specs.Option.{option_copied}
use Rattle.y4m_header.specs.Text.{number_of, parts, parts_left}
use Rattle.y4m_header.proofs.Numbers.{each_digit, numerals}
use Rattle.serve_hub.specs.declared.entry.Act.{Act}
use Rattle.serve_hub.specs.declared.entry.Act.TheVariants as acts
use Rattle.serve_hub.specs.declared.entry.Entry.{Entry}
use Rattle.serve_hub.specs.declared.entry.Seat.{Seat}
use Rattle.serve_hub.specs.declared.entry.Seat.TheVariants as seats
use Rattle.serve_hub.specs.Journal.{entry_of}
use Rattle.serve_audit.specs.EntryText.{Fits, TextLaw, entry_of_words, if_small, line_of, number_in, numbered, small_in}
use Rattle.serve_audit.specs.EntryText.{spaced, words_of}

abbrev IsNoSpace : ℕ → Type 0
IsNoSpace byte = eqb byte 32 ≡ false

abbrev IsSolid : List ℕ → Type 0
IsSolid word = AllByRecursion IsNoSpace word

solid_all : (word : List ℕ) → IsSolid word → All IsNoSpace word
solid_all [] h = All-nil IsNoSpace
solid_all (c ∷ cs) h = All-cons IsNoSpace c cs h.0 (solid_all cs h.1)

append_nothing : (word : List ℕ) → word ++ [] ≡ word
append_nothing [] = refl
append_nothing (c ∷ cs) = ap (λ ds. c ∷ ds) (append_nothing cs)

-- a word, a space, and more
word_first : (word rest : List ℕ) → IsSolid word → parts 32 (word ++ 32 ∷ rest) ≡ word ∷ parts 32 rest
word_first [] rest h = slice_split-cons_yes (λ b. eqb b 32) 32 rest refl
word_first (c ∷ cs) rest h =
    slice_split-cons_no (λ b. eqb b 32) c (cs ++ 32 ∷ rest) h.0
    ∙ ap (onto_first c) (word_first cs rest h.1)

-- the words of a line are those that it was made of
pub words_back : (word : List ℕ) (words : List (List ℕ)) → IsSolid word → AllByRecursion IsSolid words
    → parts 32 (word ++ spaced words) ≡ word ∷ words
words_back word [] h more =
    ap (parts 32) (append_nothing word) ∙ slice_split_none (λ b. eqb b 32) word (solid_all word h)
words_back word (next ∷ []) h more =
    word_first word next h
    ∙ ap (λ (ws : List (List ℕ)). word ∷ ws) (slice_split_none (λ b. eqb b 32) next (solid_all next more.0))
words_back word (next ∷ other ∷ words) h more =
    word_first word (next ++ spaced (other ∷ words)) h
    ∙ ap (λ (ws : List (List ℕ)). word ∷ ws) (words_back next (other ∷ words) more.0 more.1)

-- digits hold no space
solid_digits : (ds : List ℕ) → list_all is_ascii_digit ds ≡ true → IsSolid ds
solid_digits ds digits = from ds (each_digit ds digits)
  where
    from : (ds : List ℕ) → All IsAsciiDigit ds → IsSolid ds
    from [] h = tt
    from (d ∷ ds) h = (let digit = h 0 0 (omega arith) in grind (arith, nat_tests), from ds (λ k e l. h (suc k) e (omega (arith, l))))

digits : (n : ℕ) → n < 2 ^ 62 → list_all is_ascii_digit (decimal n) ≡ true
digits n h = digits_decimal numerals n (omega (arith, h))

pub solid_decimal : (n : ℕ) → n < 2 ^ 62 → IsSolid (decimal n)
solid_decimal n h = solid_digits (decimal n) (digits n h)

tested : (a b : ℕ) → a ≤ b → nat_le a b ≡ true
tested a b h = grind (arith, nat_tests)

less : (a b : ℕ) → a < b → nat_lt a b ≡ true
less a b h = grind (arith, nat_tests)

-- what a decimal writes
pub number_back : (n : ℕ) → n < 2 ^ 62 → number_in (decimal n) ≡ Some n
number_back n h =
    let some : 1 ≤ length (decimal n) = decimal_nonempty n (omega (arith, h)) in
    let few : length (decimal n) ≤ 19 = length-decimal-le 19 n (omega arith) (omega (arith, h)) (omega (arith, h)) in
    rw (tested 1 (length (decimal n)) some, tested (length (decimal n)) 19 few, digits n h)
    (ap Some (digits_value-decimal numerals n (omega (arith, h))))

pub small_back : (n : ℕ) → n < 2 ^ 32 → small_in (decimal n) ≡ Some n
small_back n h = ap if_small (number_back n (omega (arith, h))) ∙ rw (less n (2 ^ 32) h) refl

fits : (n : ℕ) → n < 2 ^ 32 → n < 2 ^ 62
fits n h = omega (arith, h)

pub text_is : TextLaw
text_is (seats.Stream s) (acts.Offered None n) h =
    ap entry_of_words (words_back (codes "offer") (decimal s ∷ decimal n ∷ []) (refl, (refl, (refl, (refl, (refl, tt)))))
    (solid_decimal s (fits s h.0), (solid_decimal n h.1, tt)))
    ∙ rw (small_back s h.0, number_back n h.1) refl
text_is (seats.Stream s) (acts.Offered (Some at) n) h =
    ap entry_of_words (words_back (codes "offer") (decimal s ∷ decimal n ∷ decimal at ∷ [])
    (refl, (refl, (refl, (refl, (refl, tt)))))
    (solid_decimal s (fits s h.0), (solid_decimal n h.1, (solid_decimal at h.2, tt))))
    ∙ rw (small_back s h.0, number_back n h.1, number_back at h.2) refl
text_is (seats.Stream s) acts.Closed h =
    ap entry_of_words (words_back (codes "close") (decimal s ∷ []) (refl, (refl, (refl, (refl, (refl, tt)))))
    (solid_decimal s (fits s h), tt))
    ∙ rw (small_back s h) refl
text_is (seats.Stream s) (acts.Collected n) h =
    ap entry_of_words (words_back (codes "collect") (decimal s ∷ decimal n ∷ [])
    (refl, (refl, (refl, (refl, (refl, (refl, (refl, tt)))))))
    (solid_decimal s (fits s h.0), (solid_decimal n h.1, tt)))
    ∙ rw (small_back s h.0, number_back n h.1) refl
text_is (seats.Stream s) acts.Admitted h =
    ap entry_of_words (words_back (codes "admit") (decimal s ∷ []) (refl, (refl, (refl, (refl, (refl, tt)))))
    (solid_decimal s (fits s h), tt))
    ∙ rw (small_back s h) refl
text_is (seats.Stream s) (acts.Leased a b c) h = absurd h
text_is (seats.Stream s) (acts.Settled a b) h = absurd h
text_is (seats.Worker w) (acts.Leased s n g) h =
    ap entry_of_words (words_back (codes "lease") (decimal w ∷ decimal s ∷ decimal n ∷ decimal g ∷ [])
    (refl, (refl, (refl, (refl, (refl, tt)))))
    (solid_decimal w (fits w h.0), (solid_decimal s (fits s h.1), (solid_decimal n h.2, (solid_decimal g (fits g h.3), tt)))))
    ∙ rw (small_back w h.0, small_back s h.1, number_back n h.2, small_back g h.3) refl
text_is (seats.Worker w) (acts.Settled k true) h =
    ap entry_of_words (words_back (codes "finish") (decimal w ∷ decimal k ∷ [])
    (refl, (refl, (refl, (refl, (refl, (refl, tt))))))
    (solid_decimal w (fits w h.0), (solid_decimal k (fits k h.1), tt)))
    ∙ rw (small_back w h.0, small_back k h.1) refl
text_is (seats.Worker w) (acts.Settled k false) h =
    ap entry_of_words (words_back (codes "settle") (decimal w ∷ decimal k ∷ [])
    (refl, (refl, (refl, (refl, (refl, (refl, tt))))))
    (solid_decimal w (fits w h.0), (solid_decimal k (fits k h.1), tt)))
    ∙ rw (small_back w h.0, small_back k h.1) refl
text_is (seats.Worker w) (acts.Offered a b) h = absurd h
text_is (seats.Worker w) acts.Closed h = absurd h
text_is (seats.Worker w) (acts.Collected n) h = absurd h
text_is (seats.Worker w) acts.Admitted h = absurd h

-- a line of six words or more writes no entry
some_part : (text : List ℕ) → 1 ≤ length (parts 32 text)
some_part text = omega (arith, length-slice_split (λ b. eqb b 32) text)

none_of_many : (w a b c d : List ℕ) (ps : List (List ℕ)) → 1 ≤ length ps
    → entry_of_words (w ∷ a ∷ b ∷ c ∷ d ∷ ps) ≡ None
none_of_many w a b c d [] l = absurd (omega (arith, l))
none_of_many w a b c d (p ∷ ps) l = refl

-- one part more, where the rest is there
next_part : (text part : List ℕ) (o : Option (Bor (List ℕ))) (rest : Bor (List ℕ))
    → parts 32 text ≡ part ∷ parts_left 32 (option_copied o) → o ≡ Some rest
    → parts 32 text ≡ part ∷ parts 32 rest.now
next_part text part o rest e f = e ∙ ap (λ (o : Option (Bor (List ℕ))). part ∷ parts_left 32 (option_copied o)) f

pub too_many : (line w a b c d : List ℕ) (o p q r s : Option (Bor (List ℕ))) (i j k l m : Bor (List ℕ))
    → parts 32 line ≡ w ∷ parts_left 32 (option_copied o) → o ≡ Some i
    → parts 32 i.now ≡ a ∷ parts_left 32 (option_copied p) → p ≡ Some j
    → parts 32 j.now ≡ b ∷ parts_left 32 (option_copied q) → q ≡ Some k
    → parts 32 k.now ≡ c ∷ parts_left 32 (option_copied r) → r ≡ Some l
    → parts 32 l.now ≡ d ∷ parts_left 32 (option_copied s) → s ≡ Some m
    → None ≡ entry_of_words (parts 32 line)
too_many line w a b c d o p q r s i j k l m eo fo ep fp eq fq er fr es fs =
    let five = next_part l.now d s m es fs in
    let four = next_part k.now c r l er fr ∙ ap (λ (ps : List (List ℕ)). c ∷ ps) five in
    let three = next_part j.now b q k eq fq ∙ ap (λ (ps : List (List ℕ)). b ∷ ps) four in
    let two = next_part i.now a p j ep fp ∙ ap (λ (ps : List (List ℕ)). a ∷ ps) three in
    let all = next_part line w o i eo fo ∙ ap (λ (ps : List (List ℕ)). w ∷ ps) two in
    sym (ap entry_of_words all ∙ none_of_many w a b c d (parts 32 m.now) (some_part m.now))

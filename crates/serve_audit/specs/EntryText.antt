-- The line of an entry, and the entry that a line writes.
use Rattle.std.specs.Prelude.{ℕ, ◌≡◌, ◌<◌, ◌^◌, Bool, true, false, nat_lt, if◌then◌else◌, List, [], ◌∷◌}
use Rattle.std.specs.Prelude.{◌++◌, codes, decimal, map, Option, Some, None}
use Rattle.std.specs.Str.{bytes_eq}
use Rattle.y4m_header.specs.Text.{number_of, parts}
use Rattle.serve_hub.specs.declared.entry.Act.{Act}
use Rattle.serve_hub.specs.declared.entry.Act.TheVariants as acts
use Rattle.serve_hub.specs.declared.entry.Entry.{Entry}
use Rattle.serve_hub.specs.declared.entry.Seat.{Seat}
use Rattle.serve_hub.specs.declared.entry.Seat.TheVariants as seats
use Rattle.serve_hub.specs.Journal.{entry_of}

-- each word behind a space
abbrev pub spaced : List (List ℕ) → List ℕ
spaced [] = []
spaced (word ∷ []) = 32 ∷ word
spaced (word ∷ next ∷ words) = 32 ∷ (word ++ spaced (next ∷ words))

-- words between single spaces
abbrev pub line_of : List (List ℕ) → List ℕ
line_of [] = []
line_of (word ∷ words) = word ++ spaced words

-- a word and numbers
abbrev pub numbered : List ℕ → List ℕ → List (List ℕ)
numbered word numbers = word ∷ map decimal numbers

-- the words of an entry; an act that isn't its seat's has none
abbrev pub words_of : Seat → Act → List (List ℕ)
words_of (seats.Stream s) (acts.Offered None n) = numbered (codes "offer") (s ∷ n ∷ [])
words_of (seats.Stream s) (acts.Offered (Some at) n) = numbered (codes "offer") (s ∷ n ∷ at ∷ [])
words_of (seats.Stream s) acts.Closed = numbered (codes "close") (s ∷ [])
words_of (seats.Stream s) (acts.Collected n) = numbered (codes "collect") (s ∷ n ∷ [])
words_of (seats.Stream s) acts.Admitted = numbered (codes "admit") (s ∷ [])
words_of (seats.Worker w) (acts.Leased s n g) = numbered (codes "lease") (w ∷ s ∷ n ∷ g ∷ [])
words_of (seats.Worker w) (acts.Settled k true) = numbered (codes "finish") (w ∷ k ∷ [])
words_of (seats.Worker w) (acts.Settled k false) = numbered (codes "settle") (w ∷ k ∷ [])
words_of seat act = []

abbrev pub entry_text : Entry → List ℕ
entry_text e = line_of (words_of e.seat e.act)

-- a number of at most 19 digits, and one of 32 bits
abbrev pub number_in : List ℕ → Option ℕ
number_in text = number_of 19 text

abbrev pub if_small : Option ℕ → Option ℕ
if_small None = None
if_small (Some n) = if nat_lt n (2 ^ 32) then Some n else None

abbrev pub small_in : List ℕ → Option ℕ
small_in text = if_small (number_in text)

-- an entry of numbers that are there
abbrev pub by_one : (ℕ → Entry) → Option ℕ → Option Entry
by_one f None = None
by_one f (Some a) = Some (f a)

abbrev pub by_two : (ℕ → ℕ → Entry) → Option ℕ → Option ℕ → Option Entry
by_two f None b = None
by_two f (Some a) b = by_one (f a) b

abbrev pub by_three : (ℕ → ℕ → ℕ → Entry) → Option ℕ → Option ℕ → Option ℕ → Option Entry
by_three f None b c = None
by_three f (Some a) b c = by_two (f a) b c

abbrev pub by_four : (ℕ → ℕ → ℕ → ℕ → Entry) → Option ℕ → Option ℕ → Option ℕ → Option ℕ → Option Entry
by_four f None b c d = None
by_four f (Some a) b c d = by_three (f a) b c d

abbrev pub entry_of_one : List ℕ → List ℕ → Option Entry
entry_of_one word a =
    if bytes_eq word (codes "close")
    then by_one (λ s. entry_of (seats.Stream s) acts.Closed) (small_in a)
    else if bytes_eq word (codes "admit")
    then by_one (λ s. entry_of (seats.Stream s) acts.Admitted) (small_in a)
    else None

abbrev pub entry_of_two : List ℕ → List ℕ → List ℕ → Option Entry
entry_of_two word a b =
    if bytes_eq word (codes "offer")
    then by_two (λ s n. entry_of (seats.Stream s) (acts.Offered None n)) (small_in a) (number_in b)
    else if bytes_eq word (codes "collect")
    then by_two (λ s n. entry_of (seats.Stream s) (acts.Collected n)) (small_in a) (number_in b)
    else if bytes_eq word (codes "settle")
    then by_two (λ w k. entry_of (seats.Worker w) (acts.Settled k false)) (small_in a) (small_in b)
    else if bytes_eq word (codes "finish")
    then by_two (λ w k. entry_of (seats.Worker w) (acts.Settled k true)) (small_in a) (small_in b)
    else None

abbrev pub entry_of_three : List ℕ → List ℕ → List ℕ → List ℕ → Option Entry
entry_of_three word a b c =
    if bytes_eq word (codes "offer")
    then by_three (λ s n at. entry_of (seats.Stream s) (acts.Offered (Some at) n)) (small_in a) (number_in b)
    (number_in c)
    else None

abbrev pub entry_of_four : List ℕ → List ℕ → List ℕ → List ℕ → List ℕ → Option Entry
entry_of_four word a b c d =
    if bytes_eq word (codes "lease")
    then by_four (λ w s n g. entry_of (seats.Worker w) (acts.Leased s n g)) (small_in a) (small_in b)
    (number_in c) (small_in d)
    else None

abbrev pub entry_of_words : List (List ℕ) → Option Entry
entry_of_words (word ∷ a ∷ []) = entry_of_one word a
entry_of_words (word ∷ a ∷ b ∷ []) = entry_of_two word a b
entry_of_words (word ∷ a ∷ b ∷ c ∷ []) = entry_of_three word a b c
entry_of_words (word ∷ a ∷ b ∷ c ∷ d ∷ []) = entry_of_four word a b c d
entry_of_words _ = None

-- the entry that a line writes, if it is one
abbrev pub entry_in : List ℕ → Option Entry
entry_in line = entry_of_words (parts 32 line)

-- an act of its seat's kind, with numbers that fit
abbrev pub Fits : Seat → Act → Type 0
Fits (seats.Stream s) (acts.Offered None n) = (s < 2 ^ 32) × (n < 2 ^ 62)
Fits (seats.Stream s) (acts.Offered (Some at) n) = (s < 2 ^ 32) × (n < 2 ^ 62) × (at < 2 ^ 62)
Fits (seats.Stream s) acts.Closed = s < 2 ^ 32
Fits (seats.Stream s) (acts.Collected n) = (s < 2 ^ 32) × (n < 2 ^ 62)
Fits (seats.Stream s) acts.Admitted = s < 2 ^ 32
Fits (seats.Worker w) (acts.Leased s n g) = (w < 2 ^ 32) × (s < 2 ^ 32) × (n < 2 ^ 62) × (g < 2 ^ 32)
Fits (seats.Worker w) (acts.Settled k is_finished) = (w < 2 ^ 32) × (k < 2 ^ 32)
Fits seat act = ⊥

-- what the line of an entry writes is the entry
abbrev pub TextLaw : Type 0
TextLaw =
    (seat : Seat) (act : Act) → Fits seat act
    → entry_in (entry_text (entry_of seat act)) ≡ Some (entry_of seat act)

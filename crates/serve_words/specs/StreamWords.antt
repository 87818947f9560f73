-- The words that ask for streams.
use Rattle.std.specs.Prelude.{ℕ, zero, suc, Bool, ◌==◌, ◌&&◌, nat_le, if◌then◌else◌, List, [], ◌∷◌, length}
use Rattle.std.specs.Prelude.{Option, Some, None, codes, map, option_and_then}
use Rattle.std.specs.Borrow.{Bor}
use Rattle.std.specs.List.{before_first}
use Rattle.std.specs.Option.{option_map, option_map_or}
use Rattle.std.specs.Str.{bytes_eq}
use Rattle.y4m_header.specs.Text.{is_name, number_of, text_after}
use Rattle.y4m_header.specs.declared.limits.TheConstants.{MOST_DIGITS}
use Rattle.serve_words.specs.declared.stream_word.StreamWord.{StreamWord}
use Rattle.serve_words.specs.declared.stream_word.WordParts.{WordParts}

abbrev pub words_asked : List (Bor (List ℕ)) → List (List ℕ)
words_asked words = map (λ word. word.now) words

-- a stream that is asked for: q units in every t moments
pub record StreamAsked : Type 0 where
  pub name : List ℕ
  pub input : List ℕ
  pub output : List ℕ
  pub q : ℕ
  pub t : ℕ
  pub operations : List ℕ

-- a text cut at its first n colons, or at all of them where it has fewer: the last part may hold colons
abbrev pub cut_at_colons : ℕ → List ℕ → List (List ℕ)
cut_at_colons zero text = text ∷ []
cut_at_colons (suc n) text =
    before_first (λ byte. byte == 58) text ∷ option_map_or (cut_at_colons n) (text_after 58 text) []

-- the stream of these parts, where each has its form
abbrev pub stream_of_parts : List (List ℕ) → Option StreamAsked
stream_of_parts (name ∷ input ∷ output ∷ q ∷ t ∷ operations ∷ []) =
    if is_name name && (nat_le 1 (length input) && nat_le 1 (length output))
    then option_and_then (λ units. option_map (λ moments. record {
      name = name;
      input = input;
      output = output;
      q = units;
      t = moments;
      operations = operations;
    }) (number_of MOST_DIGITS t)) (number_of MOST_DIGITS q)
    else None
stream_of_parts parts = None

-- the stream that a word asks for, `NAME:IN:OUT:Q:T:OPS`, if it does
abbrev pub stream_of : List ℕ → Option StreamAsked
stream_of word = stream_of_parts (cut_at_colons 5 word)

-- whether the stream is read from standard input
abbrev pub reads_input : StreamAsked → Bool
reads_input stream = bytes_eq stream.input (codes "/dev/stdin")

-- the same, where something else may have taken standard input: no stream is read from it then
abbrev pub stream_beside : (is_input_taken : Bool) → List ℕ → Option StreamAsked
stream_beside is_input_taken word =
    option_and_then (λ stream. if is_input_taken && reads_input stream then None else Some stream)
    (stream_of word)

abbrev pub stream_told : StreamWord → StreamAsked
stream_told word = record {
  name = word.name.now;
  input = word.input.now;
  output = word.output.now;
  q = word.q;
  t = word.t;
  operations = word.operations.now;
}

abbrev pub parts_of : WordParts → List (List ℕ)
parts_of parts =
    parts.name.now ∷ parts.input.now ∷ parts.output.now
    ∷ parts.q.now ∷ parts.t.now ∷ parts.operations.now ∷ []

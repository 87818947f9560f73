-- The chroma forms: which value of the tag C names which, and the planes of each.
use Rattle.std.specs.Prelude.{ℕ, ◌+◌, ◌*◌, ◌/◌, List, [], ◌∷◌, Option, Some, None, Contains, codes}
use Rattle.y4m_header.specs.declared.chroma.Chroma.{Chroma}
use Rattle.y4m_header.specs.declared.chroma.Chroma.TheVariants.{S420, S422, S411, S444, S444Alpha, Mono}

-- a value of C, or none where the line has no C, and the form that it names
pub record ChromaName : Type 0 where
  pub value : Option (List ℕ)
  pub chroma : Chroma

abbrev pub named : List ℕ → Chroma → ChromaName
named v c = record { value = Some v; chroma = c }

-- the values of C that are read, each with its form
abbrev pub chroma_table : List ChromaName
chroma_table =
    record { value = None; chroma = S420 }
    ∷ named (codes "420") S420
    ∷ named (codes "420jpeg") S420
    ∷ named (codes "420mpeg2") S420
    ∷ named (codes "420paldv") S420
    ∷ named (codes "422") S422
    ∷ named (codes "411") S411
    ∷ named (codes "444") S444
    ∷ named (codes "444alpha") S444Alpha
    ∷ named (codes "mono") Mono
    ∷ []

-- the value of C, if there is one, names this form
abbrev pub NamesChroma : Option (List ℕ) → Chroma → Type 0
NamesChroma v c = Contains chroma_table (record { value = v; chroma = c })

abbrev pub horizontal_divisor : Chroma → ℕ
horizontal_divisor S420 = 2
horizontal_divisor S422 = 2
horizontal_divisor S411 = 4
horizontal_divisor S444 = 1
horizontal_divisor S444Alpha = 1
horizontal_divisor Mono = 1

abbrev pub vertical_divisor : Chroma → ℕ
vertical_divisor S420 = 2
vertical_divisor S422 = 1
vertical_divisor S411 = 1
vertical_divisor S444 = 1
vertical_divisor S444Alpha = 1
vertical_divisor Mono = 1

abbrev pub plane_count : Chroma → ℕ
plane_count S420 = 3
plane_count S422 = 3
plane_count S411 = 3
plane_count S444 = 3
plane_count S444Alpha = 4
plane_count Mono = 1

-- the bytes of a frame's data
abbrev pub data_len : ℕ → ℕ → Chroma → ℕ
data_len w h S420 = w * h + 2 * ((w / 2) * (h / 2))
data_len w h S422 = 2 * (w * h)
data_len w h S411 = w * h + 2 * ((w / 4) * h)
data_len w h S444 = 3 * (w * h)
data_len w h S444Alpha = 4 * (w * h)
data_len w h Mono = w * h

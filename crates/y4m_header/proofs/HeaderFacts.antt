-- What each header keeps, as a fact that its callers may read.
use Rattle.std.proofs.Common.{◌≡◌, ℕ, ◌≤◌, List, [], ◌∷◌, length, slice_get, refl, arith}
use Rattle.std.specs.Str.Parse.{digits_value}
use Rattle.std.proofs.Math.Logic.{∥∥₁_elim}
use Rattle.std.proofs.Props.{props}
use Rattle.y4m_header.proofs.ChromaTable.{GivesForm, gives_prop, gives_from_names, names_from_gives}
use Rattle.y4m_header.specs.declared.chroma.Chroma.{Chroma}
use Rattle.y4m_header.specs.HeaderLine.{IsY4mLine, IsSize, StatesSize}
use Rattle.y4m_header.specs.HeaderLine.{IsDivided, IsWithinLimits, IsHeaderLine, widths, heights, chromas}

-- that the values state a size is a fact with one proof at most
abbrev GivesSize : List (List ℕ) → ℕ → Type 0
GivesSize [] size = ⊥
GivesSize (value ∷ []) size = IsSize value × (digits_value 10 value ≡ size)
GivesSize (value ∷ another ∷ more) size = ⊥

gives_size_prop : (given : List (List ℕ)) (size : ℕ) → IsProp (GivesSize given size)
gives_size_prop [] size = hlevel props
gives_size_prop (value ∷ []) size = hlevel props
gives_size_prop (value ∷ another ∷ more) size = hlevel props

gives_from_states : (given : List (List ℕ)) (size : ℕ) → StatesSize given size → GivesSize given size
gives_from_states given size states = rw states.1 (states.2, states.3)

states_from_gives : (given : List (List ℕ)) (size : ℕ) → GivesSize given size → StatesSize given size
states_from_gives [] size gives = absurd gives
states_from_gives (value ∷ []) size gives = (value, refl, gives.0, gives.1)
states_from_gives (value ∷ another ∷ more) size gives = absurd gives

-- and of the whole header
record GivesHeader (line : List ℕ) (w h : ℕ) (chroma : Chroma) : Type 0 where
  pub is_y4m : IsY4mLine line
  pub width : GivesSize (widths line) w
  pub height : GivesSize (heights line) h
  pub one : length (chromas line) ≤ 1
  pub form : GivesForm (slice_get (chromas line) 0) chroma
  pub divided : IsDivided w h chroma
  pub limits : IsWithinLimits w h chroma

gives_header_prop : (line : List ℕ) (w h : ℕ) (chroma : Chroma) → IsProp (GivesHeader line w h chroma)
gives_header_prop line w h chroma = hlevel (gives_size_prop, gives_prop, props)

-- a header's invariant as a plain fact
pub header_from_invariant : (line : List ℕ) (w h : ℕ) (chroma : Chroma)
    → ∥ IsHeaderLine line w h chroma ∥₁ → IsHeaderLine line w h chroma
header_from_invariant line w h chroma kept =
    let is_prop = gives_header_prop line w h chroma in
    let gives : GivesHeader line w h chroma = ∥∥₁_elim kept is_prop (λ is. record {
      is_y4m = is.stated.is_y4m;
      width = gives_from_states (widths line) w is.stated.width;
      height = gives_from_states (heights line) h is.stated.height;
      one = is.stated.form.one;
      form = gives_from_names (slice_get (chromas line) 0) chroma is.stated.form.named;
      divided = is.divided;
      limits = is.limits;
    }) in
    record {
      stated = record {
        is_y4m = gives.is_y4m;
        width = states_from_gives (widths line) w gives.width;
        height = states_from_gives (heights line) h gives.height;
        form = record {
          one = gives.one;
          named = names_from_gives (slice_get (chromas line) 0) chroma gives.form;
        };
      };
      divided = gives.divided;
      limits = gives.limits;
    }

pub size_positive : (given : List (List ℕ)) (size : ℕ) → StatesSize given size → 1 ≤ size
size_positive given size states = omega (arith, states.2.positive, states.3)

-- The text of operations: which text says which operations.
use Rattle.std.specs.Prelude.{ℕ, List, [], ◌∷◌, ◌&&◌, nat_le, if◌then◌else◌, Option, Some, None}
use Rattle.std.specs.Prelude.{option_and_then, codes, ◌==◌}
use Rattle.std.specs.Option.{option_map}
use Rattle.std.specs.List.{before_first, find}
use Rattle.std.specs.Str.{bytes_eq}
use Rattle.y4m_header.specs.Text.{number_of, parts, text_after}
use Rattle.filters.specs.declared.limits.TheConstants.{MOST_NUMBER_DIGITS, MOST_RADIUS}
use Rattle.filters.specs.declared.op.Op.{Op}
use Rattle.filters.specs.declared.op.Op.TheVariants.{Table, HFlip, VFlip, Crop, Blur}
use Rattle.filters.specs.declared.op.Table.TheVariants.{Invert, Threshold, Clamp}

-- the numbers that these texts write, if each is 1 to 9 decimal digits
abbrev pub all_numbers : List (List ℕ) → Option (List ℕ)
all_numbers [] = Some []
all_numbers (text ∷ more) =
    option_and_then (λ n. option_map (λ numbers. n ∷ numbers) (all_numbers more))
    (number_of MOST_NUMBER_DIGITS text)

-- the numbers between the commas
abbrev pub numbers : List ℕ → Option (List ℕ)
numbers text = all_numbers (parts 44 text)

abbrev pub threshold_of : List ℕ → Option Op
threshold_of (limit ∷ []) = if nat_le limit 255 then Some (Table (Threshold limit)) else None
threshold_of _ = None

abbrev pub clamp_of : List ℕ → Option Op
clamp_of (low ∷ high ∷ []) =
    if nat_le low high && nat_le high 255 then Some (Table (Clamp low high)) else None
clamp_of _ = None

abbrev pub crop_of : List ℕ → Option Op
crop_of (x ∷ y ∷ width ∷ height ∷ []) = Some (Crop (record { x = x; y = y; width = width; height = height }))
crop_of _ = None

abbrev pub blur_of : List ℕ → Option Op
blur_of (radius ∷ []) =
    if nat_le 1 radius && nat_le radius MOST_RADIUS then Some (Blur (record { radius = radius })) else None
blur_of _ = None

-- an operation that is said by its name alone
pub record PlainForm : Type 0 where
  pub name : List ℕ
  pub op : Op

abbrev pub plain_forms : List PlainForm
plain_forms =
    record { name = codes "invert"; op = Table Invert }
    ∷ record { name = codes "hflip"; op = HFlip }
    ∷ record { name = codes "vflip"; op = VFlip }
    ∷ []

-- an operation that is said by its name and numbers
pub record NumberForm : Type 0 where
  pub name : List ℕ
  pub op : List ℕ → Option Op

abbrev pub number_forms : List NumberForm
number_forms =
    record { name = codes "thresh"; op = threshold_of }
    ∷ record { name = codes "clamp"; op = clamp_of }
    ∷ record { name = codes "crop"; op = crop_of }
    ∷ record { name = codes "blur"; op = blur_of }
    ∷ []

abbrev pub plain_op : List ℕ → Option Op
plain_op name = option_map (λ form. form.op) (find (λ form. bytes_eq name form.name) plain_forms)

abbrev pub numbered_op : List ℕ → Option (List ℕ) → Option Op
numbered_op name numbers =
    option_and_then (λ form. option_and_then form.op numbers)
    (find (λ form. bytes_eq name form.name) number_forms)

-- the operation that a name says, with the numbers of the text behind it, if any is
abbrev pub op_said : List ℕ → Option (List ℕ) → Option Op
op_said name None = plain_op name
op_said name (Some text) = numbered_op name (numbers text)

-- the operation that a part says, if it says one: its name stands before a colon and its numbers after
abbrev pub op_of_part : List ℕ → Option Op
op_of_part part = op_said (before_first (λ byte. byte == 58) part) (text_after 58 part)

-- the operations that these parts say, if each says one
abbrev pub all_ops : List (List ℕ) → Option (List Op)
all_ops [] = Some []
all_ops (part ∷ more) = option_and_then (λ op. option_map (λ ops. op ∷ ops) (all_ops more)) (op_of_part part)

-- the operations that a text says, if each of its parts between the plus signs says one
abbrev pub ops_of : List ℕ → Option (List Op)
ops_of text = all_ops (parts 43 text)

use Rattle.std.proofs.Common.{◌≡◌, ℕ, ◌<◌, ◌≤◌, ◌⊎◌, inl, inr, Option, Some, None, refl, arith}
use Rattle.std.proofs.lemmas.Bool.Decides.{nat_tests}
use Rattle.edf_pool.specs.declared.node.Ready.{Ready}
use Rattle.edf_pool.specs.Node.{lesser}

-- stream s at the deadline d goes before stream t at e, or is t
abbrev pub IsNoLater : (s d t e : ℕ) → Type 0
IsNoLater s d t e = (d < e) ⊎ ((d ≡ e) × (s ≤ t))

-- node a goes before node b, or is b
abbrev pub IsAtMost : Option Ready → Option Ready → Type 0
IsAtMost a None = Unit {0}
IsAtMost None (Some b) = ⊥
IsAtMost (Some a) (Some b) = IsNoLater a.stream a.deadline b.stream b.deadline

pub at_most_itself : (a : Option Ready) → IsAtMost a a
at_most_itself None = tt
at_most_itself (Some a) = grind arith

pub at_most_along : (a b c : Option Ready) → IsAtMost a b → IsAtMost b c → IsAtMost a c
at_most_along a b None h k = tt
at_most_along a None (Some c) h k = absurd k
at_most_along None (Some b) (Some c) h k = absurd h
at_most_along (Some a) (Some b) (Some c) h k = grind arith

pub lesser_at_most_left : (a b : Option Ready) → IsAtMost (lesser a b) a
lesser_at_most_left None b = tt
lesser_at_most_left (Some a) None = grind arith
lesser_at_most_left (Some a) (Some b) = grind (arith, nat_tests)

pub lesser_at_most_right : (a b : Option Ready) → IsAtMost (lesser a b) b
lesser_at_most_right a None = tt
lesser_at_most_right None (Some b) = grind arith
lesser_at_most_right (Some a) (Some b) = grind (arith, nat_tests)

pub lesser_either : (a b : Option Ready) → (lesser a b ≡ a) ⊎ (lesser a b ≡ b)
lesser_either None None = inl refl
lesser_either None (Some b) = inr refl
lesser_either (Some a) None = inl refl
lesser_either (Some a) (Some b) = grind (arith, nat_tests)

-- what a node at most another says of deadlines and of numbers
pub earlier : (a b : Ready) (e : ℕ) → b.deadline ≡ e → IsAtMost (Some a) (Some b) → a.deadline ≤ e
earlier a b e same h = grind arith

pub lower : (a b : Ready) (t : ℕ) → b.deadline ≡ a.deadline → b.stream ≡ t → IsAtMost (Some a) (Some b) → a.stream ≤ t
lower a b t same own h = grind arith

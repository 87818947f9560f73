-- Shares that are kept and held, one after the other.
use Rattle.std.proofs.Common.{ℕ, ◌≡◌, ◌+◌, ◌≤◌, ◌<◌, ◌∙◌, Bool, true, false, nat_lt, if◌then◌else◌, List, None, Some}
use Rattle.std.proofs.Common.{ap, arith, get_or, length, refl, subst, sym, take}
use Rattle.std.specs.Prelude.{position}
use Rattle.std.specs.List.{position_or_len}
use Rattle.std.proofs.lemmas.Bool.Decides.{nat_tests}
use Rattle.std.proofs.lemmas.List.Sums.{fold_more, prefix_len-le-length}
use Rattle.serve_report.specs.Holdings.{held_by, kept_by, sum_within}
use Rattle.serve_report.specs.declared.control.holders.Holder.{Holder}
use Rattle.serve_report.specs.declared.control.shares.Share.{Share}

by_test : (n m : ℕ) (b : Bool) → nat_lt n m ≡ b → (if b then Some n else None) ≡ None → n ≤ m → m ≡ n
by_test n m true e none least = absurd (cc)
by_test n m false e none least = grind (arith, nat_tests)

-- where none passes, the first place that does is behind all
pub behind_all : {X : Type 0} (p : X → Bool) (xs : List X) → position p xs ≡ None
    → length xs ≡ position_or_len p xs
behind_all p xs none = by_test _ _ _ refl none (prefix_len-le-length _ xs)

-- what is kept with one entry more of a list, which is this one
module _ {E : Type 0} (share_in : E → Share) (moment : ℕ) (holders : List Holder) (i : ℕ) (entry : E) where
  more_in : (items : List E) → i < length items → entry ≡ get_or items i entry
      → sum_within (kept_by share_in moment (take i items) holders) (share_in entry).parts
      ≡ kept_by share_in moment (take (i + 1) items) holders
  more_in items within is =
      ap (λ (one : E). sum_within (kept_by share_in moment (take i items) holders) (share_in one).parts) is
      ∙ sym (fold_more (λ parts one. sum_within parts (share_in one).parts) (held_by moment holders) items i entry within)

  pub kept_more : (items entries : List E) → items ≡ entries → i < length items → entry ≡ get_or items i entry
      → sum_within (kept_by share_in moment (take i entries) holders) (share_in entry).parts
      ≡ kept_by share_in moment (take (i + 1) entries) holders
  kept_more items entries same within is =
      subst (λ (xs : List E). sum_within (kept_by share_in moment (take i xs) holders) (share_in entry).parts
      ≡ kept_by share_in moment (take (i + 1) xs) holders) same (more_in items within is)

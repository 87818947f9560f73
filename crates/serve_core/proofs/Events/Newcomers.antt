-- A stream that is admitted comes behind all others.
use Rattle.std.proofs.Common.{ℕ, ◌≡◌, ◌≤◌, ◌⊎◌, inl, inr, List, length, Some, slice_get, le_refl, arith}
use Rattle.std.proofs.lemmas.List.{length_push}
use Rattle.serve_core.specs.Events.{Admit, Admitted, Event, Reply, with_admitted}
use Rattle.serve_core.specs.Setup.{StreamSpec}
use Rattle.serve_core.proofs.Items.Lists.{push_old, push_or}

module _ {F G X : Type 0} (item : StreamSpec → X) where
  -- the others stay in their places
  pub get_admitted : (e : Event F) (r : Reply F G) (xs : List X) (s : ℕ) (x : X) → slice_get xs s ≡ Some x
      → slice_get (with_admitted item e r xs) s ≡ Some x
  get_admitted (Admit spec) (Admitted u) xs s x h = push_old xs (item spec) s x h
  get_admitted e r xs s x h = h

  pub admitted_or : (e : Event F) (r : Reply F G) (xs : List X) (s : ℕ) (x : X)
      → slice_get (with_admitted item e r xs) s ≡ Some x → (slice_get xs s ≡ Some x) ⊎ (s ≡ length xs)
  admitted_or (Admit spec) (Admitted u) xs s x h =
      elim (push_or xs (item spec) s x h) [ inl old ↦ inl old | inr last ↦ inr last.0 ]
  admitted_or e r xs s x h = inl h

  pub length_admitted : (e : Event F) (r : Reply F G) (xs : List X)
      → length xs ≤ length (with_admitted item e r xs)
  length_admitted (Admit spec) (Admitted u) xs = omega (arith, length_push xs (item spec))
  length_admitted e r xs = le_refl (length xs)

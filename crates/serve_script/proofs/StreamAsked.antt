-- What a stream's line asks for by its operations, its header and its chain, and their faults.
use Rattle.std.proofs.Common.{◌≡◌, ◌≢◌, ◌≤◌, ◌<◌, ◌⊎◌, ◌↔◌, inl, inr, Bool, true, false, nat_lt, List, length}
use Rattle.std.proofs.Common.{Option, Some, None, Ok, Err, Result, IsErrOf, IsSomeAnd, ⊎_elim, refl, sym}
use Rattle.std.proofs.Common.{subst}
use Rattle.std.proofs.lemmas.Bool.{ltb-false, ltb-true, le-ltb, lt-ltb}
use Rattle.serve_core.proofs.Items.Options.{some_and}
use Rattle.filters.specs.declared.limits.TheConstants.{MOST_OPS}
use Rattle.filters.specs.Chain.{ChainValue, chain_of}
use Rattle.filters.specs.OpsText.{ops_of}
use Rattle.filters.specs.Refusal.{IsChain, IsChainRefusedAs}
use Rattle.filters.specs.declared.error.FilterError.{FilterError}
use Rattle.filters.specs.declared.error.FilterError.TheVariants as filter
use Rattle.filters.specs.declared.op.Op.{Op}
use Rattle.frame_view.specs.declared.geometry.Geometry.{Geometry}
use Rattle.row_bands.specs.declared.band_height.BandHeight.{BandHeight}
use Rattle.y4m_header.specs.HeaderLine.{IsHeaderLine}
use Rattle.y4m_header.specs.Refusal.{IsRefusedAs}
use Rattle.y4m_header.specs.declared.error.HeaderError.{HeaderError}
use Rattle.y4m_header.specs.declared.error.HeaderError.TheVariants as header
use Rattle.serve_core.specs.Setup.{StreamSpec}
use Rattle.serve_script.specs.ScriptFault as faults
use Rattle.serve_script.specs.ScriptFault.{Fault, filter_fault, header_fault}
use Rattle.serve_script.specs.ScriptState.{Settings}
use Rattle.serve_script.specs.SessionCommand.{StreamForm}
use Rattle.serve_script.specs.SessionInside.{IsLate, MayLack}
use Rattle.serve_script.specs.StreamLine.{AsksOfChain, AsksOfHeader, AsksOfOps, spec_with}
use Rattle.serve_script.proofs.SaidOps.{AreSaid, said_ops}

-- the operations of a line, which are few enough
pub record Says (form : StreamForm) (ops : List Op) : Type 0 where
  pub said : ops_of form.operations ≡ Some ops
  pub few : length ops ≤ MOST_OPS

module _ (settings : Settings) (form : StreamForm) where
  -- the line asks for what its header and its chain come to
  pub asked_of : (ops : List Op) (asked : Result StreamSpec Fault) → Says form ops → AsksOfHeader settings form ops asked
      → AsksOfOps settings form asked
  asked_of ops asked says h = rw (says.said, le-ltb MOST_OPS (length ops) says.few) h

  pub asks_of : (ops : List Op) (asked : Result StreamSpec Fault) → Says form ops → AsksOfOps settings form asked
      → AsksOfHeader settings form ops asked
  asks_of ops asked says h = rw (says.said, le-ltb MOST_OPS (length ops) says.few) at h

  late_chain : (chain : ChainValue) (asked : Result StreamSpec Fault) → AreSaid chain.ops → length chain.ops ≤ MOST_OPS
      → AsksOfChain settings form chain asked → IsLate asked
  late_chain chain asked said few (inl made) = subst IsLate (sym made.1) tt
  late_chain chain asked said few (inr refused) = subst IsLate (sym refused.3) (by refused.0 refused.1 refused.2)
    where
      by : (error : FilterError) → error ≢ filter.NoMemory → IsChainRefusedAs error chain → IsLate (Err (faults.BadChain error))
      by filter.BadOp own is = is said.radii
      by filter.TooManyOps own is = is.1 (record { some = said.some; few = few })
      by filter.BadCrop own is = tt
      by filter.TooManySteps own is = tt
      by filter.NoMemory own is = own refl

  -- behind its operations, a line's faults are late
  pub late : (ops : List Op) (asked : Result StreamSpec Fault) → Says form ops → AsksOfOps settings form asked → IsLate asked
  late ops asked says h = by (asks_of ops asked says h)
    where
      by : AsksOfHeader settings form ops asked → IsLate asked
      by (inl made) = late_chain (chain_of ops made.0 made.1) asked (said_ops form.operations ops says.said) says.few made.4
      by (inr refused) = subst IsLate (sym refused.3) tt

  -- operations that are none, or are too many, or can't be kept
  pub ops_fault : {T : Type 0} (error : FilterError) → let r : Result T FilterError = Err error in
      (IsErrOf r filter.BadOp ↔ (ops_of form.operations ≡ None))
      → (IsErrOf r filter.TooManyOps ↔ IsSomeAnd (ops_of form.operations) (λ ops. MOST_OPS < length ops))
      → (error ≡ filter.BadOp) ⊎ (error ≡ filter.TooManyOps) ⊎ (error ≡ filter.NoMemory)
      → MayLack (AsksOfOps settings form) (filter_fault error)
  ops_fault filter.BadOp bad many one = rw (bad.0 refl) refl
  ops_fault filter.TooManyOps bad many one =
      let some = some_and (ops_of form.operations) (λ ops. MOST_OPS < length ops) (many.0 refl) in
      rw (some.1, lt-ltb MOST_OPS (length some.0) some.2) refl
  ops_fault filter.BadCrop bad many one = ⊎_elim (λ is. absurd cc) (⊎_elim (λ is. absurd cc) (λ is. absurd cc)) one
  ops_fault filter.TooManySteps bad many one = ⊎_elim (λ is. absurd cc) (⊎_elim (λ is. absurd cc) (λ is. absurd cc)) one
  ops_fault {T} filter.NoMemory bad many one = λ asked h. by asked h (ops_of form.operations) refl
    where
      counted : (asked : Result StreamSpec Fault) → AsksOfOps settings form asked → (ops : List Op) → ops_of form.operations ≡ Some ops
          → (is_many : Bool) → nat_lt MOST_OPS (length ops) ≡ is_many → IsLate asked
      counted asked h ops is true long =
          let most = ltb-true MOST_OPS (length ops) long in
          let other = many.1 (rw is most) in absurd cc
      counted asked h ops is false short = late ops asked (record { said = is; few = ltb-false MOST_OPS (length ops) short }) h

      by : (asked : Result StreamSpec Fault) → AsksOfOps settings form asked → (o : Option (List Op)) → ops_of form.operations ≡ o
          → IsLate asked
      by asked h None is = let other = bad.1 is in absurd cc
      by asked h (Some ops) is = counted asked h ops is (nat_lt MOST_OPS (length ops)) refl

  -- a header that is refused
  pub header_refused : (ops : List Op) (error : HeaderError) → Says form ops → IsRefusedAs error form.header
      → MayLack (AsksOfOps settings form) (header_fault error)
  header_refused ops header.NotY4m says is = asked_of ops _ says (inr (header.NotY4m, (λ same. absurd cc), is, refl))
  header_refused ops header.BadNumber says is = asked_of ops _ says (inr (header.BadNumber, (λ same. absurd cc), is, refl))
  header_refused ops header.RepeatedTag says is = asked_of ops _ says (inr (header.RepeatedTag, (λ same. absurd cc), is, refl))
  header_refused ops header.MissingSize says is = asked_of ops _ says (inr (header.MissingSize, (λ same. absurd cc), is, refl))
  header_refused ops header.UnknownChroma says is = asked_of ops _ says (inr (header.UnknownChroma, (λ same. absurd cc), is, refl))
  header_refused ops header.NotDivisible says is = asked_of ops _ says (inr (header.NotDivisible, (λ same. absurd cc), is, refl))
  header_refused ops header.TooLarge says is = asked_of ops _ says (inr (header.TooLarge, (λ same. absurd cc), is, refl))
  header_refused ops header.NoMemory says is = λ asked h. late ops asked says h
  header_refused ops header.NotFrame says is = absurd is

module _ (settings : Settings) (form : StreamForm) (geometry : Geometry) (height : BandHeight) (ops : List Op) (says : Says form ops)
    (line : IsHeaderLine form.header geometry.width geometry.height geometry.chroma) (rows : height.rows ≡ settings.band) where
  refused_by : (error : FilterError) → error ≢ filter.NoMemory → IsChainRefusedAs error (chain_of ops geometry height)
      → AsksOfOps settings form (Err (faults.BadChain error))
  refused_by error own is =
      asked_of settings form ops (Err (faults.BadChain error)) says (inl (geometry, height, line, rows, inr (error, own, is, refl)))

  -- operations that make no chain for the frames of the header
  pub chain_refused : (error : FilterError) → IsChainRefusedAs error (chain_of ops geometry height)
      → MayLack (AsksOfOps settings form) (filter_fault error)
  chain_refused filter.BadOp is = refused_by filter.BadOp (λ same. absurd cc) is
  chain_refused filter.TooManyOps is = refused_by filter.TooManyOps (λ same. absurd cc) is
  chain_refused filter.BadCrop is = refused_by filter.BadCrop (λ same. absurd cc) is
  chain_refused filter.TooManySteps is = refused_by filter.TooManySteps (λ same. absurd cc) is
  chain_refused filter.NoMemory is = λ asked h. late settings form ops asked says h

  -- operations that make one
  pub chain_made : IsChain (chain_of ops geometry height)
      → AsksOfOps settings form (Ok (spec_with settings form (chain_of ops geometry height)))
  chain_made is = asked_of settings form ops _ says (inl (geometry, height, line, rows, inl (is, refl)))

-- What the line of a stream gives, by what it asks for.
use Rattle.std.proofs.Common.{◌≡◌, ℕ, ◌+◌, inl, inr, Bool, true, false, nat_lt, List, [], ◌∷◌, ◌++◌, length}
use Rattle.std.proofs.Common.{Option, Some, None, Ok, Err, Result, IfOk, refl, sym, ap, ◌∙◌, subst}
use Rattle.std.proofs.Common.{length-append}
use Rattle.std.proofs.lemmas.Bool.{ltb-false}
use Rattle.std.proofs.lemmas.List.{map_push}
use Rattle.filters.specs.declared.limits.TheConstants.{MOST_OPS}
use Rattle.filters.specs.Chain.{ChainValue}
use Rattle.filters.specs.OpsText.{ops_of}
use Rattle.filters.specs.declared.op.Op.{Op}
use Rattle.serve_core.specs.Setup.{StreamSpec}
use Rattle.serve_script.specs.ScriptFault as faults
use Rattle.serve_script.specs.ScriptFault.{Fault}
use Rattle.serve_script.specs.ScriptState.{Given, MayFault, Settings, TakesMemory}
use Rattle.serve_script.specs.SessionCommand.{StreamForm}
use Rattle.serve_script.specs.SessionInside.{IsLate, IsTableOf, MayLack, Streams, with_named}
use Rattle.serve_script.specs.StreamLine.{AsksFor, AsksOfChain, AsksOfHeader, AsksOfOps, GivenFor, LineGives, is_taken}
use Rattle.serve_script.proofs.StreamAsked.{Says, asks_of, late}

module _ (names : List (List ℕ)) (settings : Settings) (form : StreamForm) where
  -- where the name is free, a line asks for what its operations come to
  pub asks_free : (asked : Result StreamSpec Fault) → is_taken form.name names ≡ false → AsksOfOps settings form asked
      → AsksFor names settings form asked
  asks_free asked free h = rw free h

  free_asks : (asked : Result StreamSpec Fault) → is_taken form.name names ≡ false → AsksFor names settings form asked
      → AsksOfOps settings form asked
  free_asks asked free h = rw free at h

  module _ (spec : StreamSpec) (asks : AsksFor names settings form (Ok spec)) where
    is_free : is_taken form.name names ≡ false
    is_free = by (is_taken form.name names) refl
      where
        by : (taken : Bool) → is_taken form.name names ≡ taken → taken ≡ false
        by true is = let none = rw is at asks in absurd cc
        by false is = refl

    says_some : (ops : List Op) × Says form ops
    says_some = by (ops_of form.operations) refl
      where
        asks_so : AsksOfOps settings form (Ok spec)
        asks_so = free_asks (Ok spec) is_free asks

        counted : (ops : List Op) → ops_of form.operations ≡ Some ops → (is_many : Bool) → nat_lt MOST_OPS (length ops) ≡ is_many
            → (ops : List Op) × Says form ops
        counted ops is true long = let none = rw (is, long) at asks_so in absurd cc
        counted ops is false short = (ops, record { said = is; few = ltb-false MOST_OPS (length ops) short })

        by : (o : Option (List Op)) → ops_of form.operations ≡ o → (ops : List Op) × Says form ops
        by None is = let none = rw is at asks_so in absurd cc
        by (Some ops) is = counted ops is (nat_lt MOST_OPS (length ops)) refl

    -- a line that asks for a stream has no early fault
    pub asked_late : (asked : Result StreamSpec Fault) → AsksFor names settings form asked → IsLate asked
    asked_late asked h = late settings form says_some.0 asked says_some.1 (free_asks asked is_free h)

    made_geometry : (chain : ChainValue) → AsksOfChain settings form chain (Ok spec) → spec.geometry ≡ spec.chain.geometry
    made_geometry chain (inl made) = subst (λ asked. IfOk asked (λ made. made.geometry ≡ made.chain.geometry)) (sym made.1) refl
    made_geometry chain (inr refused) = let is = refused.3 in absurd cc

    -- its chain is for its frames
    pub asked_geometry : spec.geometry ≡ spec.chain.geometry
    asked_geometry = by (asks_of settings form says_some.0 (Ok spec) says_some.1 (free_asks (Ok spec) is_free asks))
      where
        by : AsksOfHeader settings form says_some.0 (Ok spec) → spec.geometry ≡ spec.chain.geometry
        by (inl made) = made_geometry _ made.4
        by (inr refused) = let is = refused.3 in absurd cc

  -- what a stream gives that is asked for takes memory before it is known
  module _ (SpecGives : StreamSpec → Given → Type 0)
      (takes : (spec : StreamSpec) (given : Given) → SpecGives spec given → TakesMemory given) where
    late_given : (asked : Result StreamSpec Fault) (given : Given) → IsLate asked → GivenFor SpecGives asked given → TakesMemory given
    late_given (Ok spec) given h gives = takes spec given gives
    late_given (Err fault) given h gives = subst TakesMemory (sym gives) h

    lost : ((asked : Result StreamSpec Fault) → AsksFor names settings form asked → IsLate asked)
        → (given : Given) → LineGives names settings form SpecGives given → TakesMemory given
    lost each given (asked, asks, gives) = late_given asked given (each asked asks) gives

    -- a fault of what the line asks for is the line's
    pub line_faults : (fault : Fault) → MayLack (AsksFor names settings form) fault
        → MayFault (LineGives names settings form SpecGives) fault
    line_faults faults.NoMemory h = lost h
    line_faults fault h = (Err fault, h, refl)

    -- and so is want of memory for a stream that it asks for
    pub line_lost : (spec : StreamSpec) → AsksFor names settings form (Ok spec)
        → MayFault (LineGives names settings form SpecGives) faults.NoMemory
    line_lost spec asks = lost (asked_late spec asks)

-- a table with a stream more
pub table_more : (streams : Streams) (specs : List StreamSpec) (name : List ℕ) (spec : StreamSpec)
    → IsTableOf streams specs → IsTableOf (with_named name spec.geometry streams) (specs ++ spec ∷ [])
table_more streams specs name spec table = record {
  names = length-append streams.names (name ∷ []) ∙ ap (λ n. n + 1) table.names ∙ sym (length-append specs (spec ∷ []));
  geometries =
      ap (λ all. all ++ spec.geometry ∷ []) table.geometries ∙ sym (map_push (λ spec. spec.geometry) specs spec);
}

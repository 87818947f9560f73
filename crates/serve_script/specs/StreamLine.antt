-- What the line of a stream asks for, `stream ..` before `start` and `admit ..` after it, and its faults.
use Rattle.std.specs.Prelude.{ℕ, ◌≡◌, ◌≢◌, ◌⊎◌, Bool, nat_lt, List, length, MatchBool, MatchOption}
use Rattle.std.specs.Prelude.{Result, Ok, Err}
use Rattle.std.specs.List.{list_any}
use Rattle.std.specs.Str.{bytes_eq}
use Rattle.filters.specs.Chain.{ChainValue, chain_of}
use Rattle.filters.specs.OpsText.{ops_of}
use Rattle.filters.specs.Refusal.{IsChain, IsChainRefusedAs}
use Rattle.filters.specs.declared.limits.TheConstants.{MOST_OPS}
use Rattle.filters.specs.declared.error.FilterError.{FilterError}
use Rattle.filters.specs.declared.error.FilterError.TheVariants as filter
use Rattle.filters.specs.declared.op.Op.{Op}
use Rattle.frame_view.specs.declared.geometry.Geometry.{Geometry}
use Rattle.row_bands.specs.declared.band_height.BandHeight.{BandHeight}
use Rattle.y4m_header.specs.HeaderLine.{IsHeaderLine}
use Rattle.y4m_header.specs.Refusal.{IsRefusedAs}
use Rattle.y4m_header.specs.declared.error.HeaderError.{HeaderError}
use Rattle.y4m_header.specs.declared.error.HeaderError.TheVariants as header
use Rattle.serve_core.specs.Setup.{StreamSpec}
use Rattle.serve_script.specs.ScriptFault as faults
use Rattle.serve_script.specs.ScriptFault.{Fault}
use Rattle.serve_script.specs.ScriptState.{Given, Faults, Settings}
use Rattle.serve_script.specs.SessionCommand.{StreamForm}

-- the stream of a line, filtered by this chain
abbrev pub spec_with : Settings → StreamForm → ChainValue → StreamSpec
spec_with settings form chain = record {
  geometry = chain.geometry;
  chain = chain;
  maximum = form.q;
  period = form.t;
  queue = form.queue;
  outbox = form.outbox;
  frames = settings.frames;
}

-- what a line's stream is served with where its operations and its frames' geometry are these, or why they
-- make no chain
abbrev pub AsksOfChain : Settings → StreamForm → ChainValue → Result StreamSpec Fault → Type 0
AsksOfChain settings form chain asked =
    (IsChain chain × (asked ≡ Ok (spec_with settings form chain)))
    ⊎ ((error : FilterError) × (error ≢ filter.NoMemory) × IsChainRefusedAs error chain
    × (asked ≡ Err (faults.BadChain error)))

-- the same where its operations are these, or why its header is refused
abbrev pub AsksOfHeader : Settings → StreamForm → List Op → Result StreamSpec Fault → Type 0
AsksOfHeader settings form ops asked =
    ((geometry : Geometry) × (height : BandHeight)
    × IsHeaderLine form.header geometry.width geometry.height geometry.chroma × (height.rows ≡ settings.band)
    × AsksOfChain settings form (chain_of ops geometry height) asked)
    ⊎ ((error : HeaderError) × (error ≢ header.NoMemory) × IsRefusedAs error form.header
    × (asked ≡ Err (faults.BadHeader error)))

-- the same of its operations, or why they are none
abbrev pub AsksOfOps : Settings → StreamForm → Result StreamSpec Fault → Type 0
AsksOfOps settings form asked =
    MatchOption (ops_of form.operations) (asked ≡ Err (faults.BadChain filter.BadOp)) (λ ops.
    MatchBool (nat_lt MOST_OPS (length ops)) (asked ≡ Err (faults.BadChain filter.TooManyOps))
    (AsksOfHeader settings form ops asked))

-- whether a stream has the name
abbrev pub is_taken : List ℕ → List (List ℕ) → Bool
is_taken name names = list_any (λ taken. bytes_eq name taken) names

-- what a line's stream is served with, or the first thing that is wrong: its name, which another stream has,
-- its operations, its header, its chain
abbrev pub AsksFor : List (List ℕ) → Settings → StreamForm → Result StreamSpec Fault → Type 0
AsksFor names settings form asked =
    MatchBool (is_taken form.name names) (asked ≡ Err faults.BadName)
    (AsksOfOps settings form asked)

-- what a line gives whose stream is this, or which has this fault
abbrev pub GivenFor : (StreamSpec → Given → Type 0) → Result StreamSpec Fault → Given → Type 0
GivenFor SpecGives (Ok spec) given = SpecGives spec given
GivenFor SpecGives (Err fault) given = given ≡ Faults fault

-- the line of a stream gives what its stream gives, or the first thing that is wrong with it
abbrev pub LineGives :
    List (List ℕ) → Settings → StreamForm → (StreamSpec → Given → Type 0) → Given → Type 0
LineGives names settings form SpecGives given =
    (asked : Result StreamSpec Fault) × AsksFor names settings form asked × GivenFor SpecGives asked given

-- What a run of the program came to.
use Rattle.std.specs.Prelude.{ℕ, ◌≡◌, ◌<◌, ◌⊎◌, Bool, true, List, length, Option, None, IfSome, Result, Ok}
use Rattle.std.specs.Io.KnownBytes.{Appends}
use Rattle.serve_script.specs.ScriptReplay.{IsReplay}
use Rattle.serve_script.specs.declared.fault.ReplayFault.{ReplayFault}
use Rattle.serve_report.specs.Apart.{OfPlace}
use Rattle.serve_report.specs.Entrants.{ServesAll}
use Rattle.serve_report.specs.Filtering.{FiltersAll}
use Rattle.serve_words.specs.Help.{AskForHelp}
use Rattle.serve_report.specs.Openings.{OfName}
use Rattle.serve_words.specs.Options.{AskFor}
use Rattle.serve_words.specs.declared.request.Request.{Request}
use Rattle.serve_words.specs.declared.request.Request.TheVariants as asked

-- what is answered where the input is run as a script, and what was written
abbrev pub Replays : (input before after : Option (List ℕ)) → Result Bool ReplayFault → Type 0
Replays input before after answer = IfSome input (λ script. IsReplay script before after answer)

-- some text was written
abbrev pub WroteText : (before after : Option (List ℕ)) → Type 0
WroteText before after = (text : List ℕ) × (0 < length text) × Appends before after text

-- what was asked for is done: the input was filtered whole, each line of it was run as a script, or all
-- streams that were served are whole. Of streams that a control asks for nothing is said here
abbrev pub IsDone : (PlaceGives : OfPlace) (OpenGives CreateGives : OfName) → Request
    → (input before after : Option (List ℕ)) → Type 0
IsDone PlaceGives OpenGives CreateGives (asked.Filter words) input before after =
    FiltersAll words input before after
IsDone PlaceGives OpenGives CreateGives asked.Replay input before after =
    Replays input before after (Ok true)
IsDone PlaceGives OpenGives CreateGives (asked.Serve words) input before after =
    words.control ≡ None → ServesAll PlaceGives OpenGives CreateGives words before after

-- what the words ask for is done, or they ask for help, and some text was written
abbrev pub RunsWell : (PlaceGives : OfPlace) (OpenGives CreateGives : OfName) → (words : List (List ℕ))
    → (input before after : Option (List ℕ)) → Type 0
RunsWell PlaceGives OpenGives CreateGives words input before after =
    ((request : Request) × AskFor words request
    × IsDone PlaceGives OpenGives CreateGives request input before after)
    ⊎ (AskForHelp words × WroteText before after)

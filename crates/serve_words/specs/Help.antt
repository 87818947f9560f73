-- Words that ask for help, and wrong ones.
use Rattle.std.specs.Prelude.{ℕ, ◌<◌, ◌≢◌, ◌⊎◌, ⊤, List, length, string_bytes}
use Rattle.clap.specs.Faults.{fault_of}
use Rattle.clap.specs.Kinds.{IsAmong}
use Rattle.clap.specs.declared.error.kind.ErrorKind.{ErrorKind}
use Rattle.clap.specs.declared.error.kind.ErrorKind.TheVariants.{DisplayHelp, DisplayVersion}
use Rattle.serve_words.specs.CommandLine.{y4mserve}
use Rattle.serve_words.specs.declared.request.NoRequest.{NoRequest}
use Rattle.serve_words.specs.declared.request.NoRequest.TheVariants as none

-- clap may answer these words, which stand behind the program's name, by an error of this kind; where there
-- are two such kinds it may be either
abbrev pub MayFailBy : (words : List (List ℕ)) → ErrorKind → Type 0
MayFailBy words kind = IsAmong kind (fault_of y4mserve words)

-- clap may answer them by help or by the version
abbrev pub AskForHelp : (words : List (List ℕ)) → Type 0
AskForHelp words = MayFailBy words DisplayHelp ⊎ MayFailBy words DisplayVersion

-- clap may answer them by what is wrong with them
abbrev pub AreWrong : (words : List (List ℕ)) → Type 0
AreWrong words =
    (kind : ErrorKind) × MayFailBy words kind × (kind ≢ DisplayHelp) × (kind ≢ DisplayVersion)

-- what is told of the words is true: help comes only where they may ask for it, and says something, and only
-- words that may be wrong are told to be; want of memory may always be told
abbrev pub IsTrueOf : (words : List (List ℕ)) → NoRequest → Type 0
IsTrueOf words (none.Help text) = AskForHelp words × (0 < length (string_bytes text))
IsTrueOf words (none.Wrong text) = AreWrong words
IsTrueOf words none.NoMemory = ⊤

-- The command, its subcommands and their options, as clap reads them.
use Rattle.std.specs.Prelude.{ℕ, ◌+◌, ◌≡◌, pos, true, false, List, [], ◌∷◌, Some, codes}
use Rattle.cbs_account.specs.declared.limits.TheConstants.{MOST_ENTRIES, MOST_QUANTUM, MOST_STREAMS, MOST_WORKERS}
use Rattle.clap.specs.Lexer.{usize_max}
use Rattle.clap.specs.Simple.{App, app_of, new_rule, new_shape}
use Rattle.clap.specs.Walk.{Rule, Text, rule_of}
use Rattle.clap.specs.declared.builder.arg.Arg.{Arg}
use Rattle.clap.specs.declared.builder.command.Command.{Command}
use Rattle.clap.specs.declared.builder.command.Command.TheViews.{out-Command}
use Rattle.clap.specs.declared.builder.action.ArgAction.TheVariants.{Append, Set, SetTrue}
use Rattle.clap.specs.declared.builder.value_parser.ValueParser.{ValueParser}
use Rattle.clap.specs.declared.builder.value_parser.ValueParser.TheVariants.{Signed}
use Rattle.row_bands.specs.declared.limits.TheConstants.{FEWEST_BAND_ROWS, MOST_BAND_ROWS}
use Rattle.serve_words.specs.declared.request.TheConstants.{MOST_MICROSECONDS}

-- an option that takes a value
abbrev pub valued : Text → ValueParser → Rule
valued name parser = record (new_rule name) {
  long = Some name;
  action = Some Set;
  value_names = 1;
  parser = Some parser;
}

-- an option that takes a number within a range, with the one that it has where the words have none
abbrev pub numbered : (name : Text) → (least most : ℕ) → (default : Text) → Rule
numbered name least most default =
    record (valued name (Signed (pos least) (pos most))) { defaults = default ∷ [] }

abbrev pub band : Rule
band = numbered (codes "band") FEWEST_BAND_ROWS MOST_BAND_ROWS (codes "16")

abbrev pub threads : Rule
threads = numbered (codes "threads") 1 2 (codes "2")

abbrev pub workers : Rule
workers = numbered (codes "workers") 1 MOST_WORKERS (codes "2")

abbrev pub quantum : Rule
quantum = numbered (codes "quantum") 1 MOST_QUANTUM (codes "8")

abbrev pub journal : Rule
journal = numbered (codes "journal") (MOST_STREAMS + 2) MOST_ENTRIES (codes "65536")

-- a file
abbrev pub control : Rule
control = record (new_rule (codes "control")) {
  long = Some (codes "control");
  action = Some Set;
  value_names = 1;
}

-- a file
abbrev pub trace : Rule
trace = record (new_rule (codes "trace")) {
  long = Some (codes "trace");
  action = Some Set;
  value_names = 1;
}

-- a number within a range, which the words may lack
abbrev pub moment : Rule
moment = valued (codes "moment") (Signed (pos 1) (pos MOST_MICROSECONDS))

abbrev pub quiet : Rule
quiet = record (new_rule (codes "quiet")) {
  short = Some 113;
  long = Some (codes "quiet");
  action = Some SetTrue;
}

-- one word
abbrev pub operations : Rule
operations = record (new_rule (codes "OPS")) { action = Some Set; required = true }

-- any number of words
abbrev pub streams : Rule
streams = record (new_rule (codes "STREAM")) {
  action = Some Append;
  range = Some (record { start_inclusive = 1; end_inclusive = usize_max });
  value_names = 1;
}

-- a command with these arguments
abbrev pub with_arguments : Text → List Rule → App
with_arguments name arguments = record {
  top = record (new_shape name) { rules = arguments };
  subs = [];
}

abbrev pub filter : App
filter = with_arguments (codes "filter") (operations ∷ band ∷ threads ∷ quiet ∷ [])

abbrev pub replay : App
replay = with_arguments (codes "replay") []

abbrev pub serve : App
serve =
    with_arguments (codes "serve")
    (workers ∷ band ∷ quantum ∷ journal ∷ control ∷ moment ∷ trace ∷ quiet ∷ streams ∷ [])

-- the words are those behind the program's name, and one names a subcommand
abbrev pub y4mserve : App
y4mserve = record {
  top = record (new_shape (codes "y4mserve")) {
    is_leaf = false;
    no_binary_name = true;
    has_version = true;
    subcommand_required = true;
  };
  subs = filter.top ∷ replay.top ∷ serve.top ∷ [];
}

-- the argument is this one, of its command alone
pub record IsArgument (rule : Rule) (argument : Arg) : Type 0 where
  pub same : rule_of argument ≡ rule
  pub local : argument.global ≡ false

-- the command is this one, and so are its arguments
pub record IsCommand (app : App) (command : Command) : Type 0 where
  pub same : app_of command ≡ app
  pub local : (out-Command command).has_globals ≡ false

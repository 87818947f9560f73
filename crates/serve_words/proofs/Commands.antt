-- What a command becomes by an argument more, and by a subcommand more.
use Rattle.std.proofs.Common.{◌≡◌, ◌≢◌, ◌∙◌, ◌⊎◌, List, [], ap, ap₂, inl, inr, refl, subst, true}
use Rattle.std.specs.Prelude.{◌||◌}
use Rattle.clap.specs.Built.{AddsArg, AddsSubcommand}
use Rattle.clap.specs.Faults.{fault_of, is_simple_and_free}
use Rattle.clap.specs.Kinds.{HasKind, IsAmong, Kinds}
use Rattle.clap.specs.Simple.{App, app_of, is_simple, with_rule, with_subcommand}
use Rattle.clap.specs.Values.{kind_of}
use Rattle.clap.specs.Walk.{Rule, Text}
use Rattle.clap.specs.declared.builder.arg.Arg.{Arg}
use Rattle.clap.specs.declared.builder.command.Command.{Command}
use Rattle.clap.specs.declared.error.Error.{Error}
use Rattle.clap.specs.declared.error.kind.ErrorKind.{ErrorKind}
use Rattle.clap.specs.declared.error.kind.ErrorKind.TheVariants.{DisplayHelp, DisplayVersion, OutOfMemory}
use Rattle.serve_words.specs.CommandLine.{IsArgument, IsCommand, y4mserve}

pub by_argument : {old new : Command} {argument : Arg} {app : App} {rule : Rule} → IsCommand app old → IsArgument rule argument
    → AddsArg old argument new → IsCommand (with_rule app rule) new
by_argument command argument adds = record {
  same = adds.shape argument.local ∙ ap₂ with_rule command.same argument.same;
  local = adds.globals ∙ ap₂ ◌||◌ command.local argument.local;
}

pub by_subcommand : {old new sub : Command} {app sub_app : App} → app_of old ≡ app → IsCommand sub_app sub
    → AddsSubcommand old sub new → app_of new ≡ with_subcommand app sub_app.top
by_subcommand command sub adds = adds.shape sub.local ∙ ap₂ with_subcommand command (ap (λ app. app.top) sub.same)

pub is_read : is_simple y4mserve ≡ true
is_read = refl

pub is_free : is_simple_and_free y4mserve ≡ true
is_free = refl

-- an error of the command that is built has one of the faults that clap finds in the words
pub is_fault : {app : App} (words : List Text) (e : Error) → app ≡ y4mserve
    → (is_simple_and_free app ≡ true → HasKind (fault_of app words) e) → HasKind (fault_of y4mserve words) e
is_fault words e same has = subst (λ app. HasKind (fault_of app words) e) same (has (ap is_simple_and_free same ∙ is_free))

-- an error in words without a fault is want of memory
pub none_but_memory : {kinds : Kinds} (e : Error) → kinds ≡ [] → HasKind kinds e → kind_of e ≡ OutOfMemory
none_but_memory e none has = elim (subst (λ (kinds : Kinds). HasKind kinds e) none has) [
  | inl out ↦ out
  | inr other ↦ absurd other
]

-- one that isn't want of memory is a fault
pub is_among : (kinds : Kinds) (e : Error) → kind_of e ≢ OutOfMemory → HasKind kinds e → IsAmong (kind_of e) kinds
is_among kinds e there (inl out) = absurd (there out)
is_among kinds e there (inr among) = among

-- one that isn't for the standard error is help or the version
pub is_shown : (kinds : Kinds) (kind : ErrorKind) → ¬ ((kind ≢ DisplayHelp) × (kind ≢ DisplayVersion)) → IsAmong kind kinds
    → IsAmong DisplayHelp kinds ⊎ IsAmong DisplayVersion kinds
is_shown kinds DisplayHelp shown among = inl among
is_shown kinds DisplayVersion shown among = inr among
is_shown kinds other shown among = absurd (shown ((λ is. cc), (λ is. cc)))

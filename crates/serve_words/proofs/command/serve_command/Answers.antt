use Rattle.std.proofs.Common.{◌∙◌, Bool, ap, codes}
use Rattle.std.proofs.lemmas.Result.{IfOk-weaker}
use Rattle.clap.specs.Simple.{app_of_fields, new_app}
use Rattle.clap.specs.declared.builder.command.Command.{Command}
use Rattle.clap.specs.declared.builder.command.Command.TheOpen.{Command-F}
use Rattle.serve_words.specs.CommandLine.{IsCommand}
use Rattle.serve_words.proofs.Commands.{by_argument}
use Rattle.serve_words.proofs.command.serve_command.Goals as goal

abbrev with_globals : Command-F Command → Bool
with_globals fields = fields.has_globals

pub returns : goal.returns
returns c =
    let about = c.about.ensures in
    let long = c.long_about.ensures in
    let after = c.after_long_help.ensures in
    let none : IsCommand (new_app (codes "serve")) c.after_long_help.result = record {
      same = ap app_of_fields after ∙ ap app_of_fields long ∙ ap app_of_fields about ∙ c.new.ensures.app;
      local = ap with_globals after ∙ ap with_globals long ∙ ap with_globals about ∙ c.new.ensures.local;
    } in
    let one = by_argument none c.workers_option.ensures c.in_ok-arg.ensures in
    let two = by_argument one c.band_option.ensures c.in_ok-arg-2.ensures in
    let three = by_argument two c.quantum_option.ensures c.in_ok-arg-3.ensures in
    let four = by_argument three c.journal_option.ensures c.in_ok-arg-4.ensures in
    let five = by_argument four c.control_option.ensures c.in_ok-arg-5.ensures in
    let six = by_argument five c.moment_option.ensures c.in_ok-arg-6.ensures in
    let seven = by_argument six c.trace_option.ensures c.in_ok-arg-7.ensures in
    let eight = by_argument seven c.quiet_flag.ensures c.in_ok-arg-8.ensures in
    IfOk-weaker c.arg-9.result _ _ (λ command. by_argument eight c.streams_argument.ensures) c.arg-9.ensures

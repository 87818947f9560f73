use Rattle.std.proofs.Common.{codes, rules}
use Rattle.std.proofs.lemmas.Result.{IfOk-weaker}
use Rattle.clap.specs.Simple.{new_app}
use Rattle.serve_words.specs.CommandLine.{IsCommand}
use Rattle.serve_words.proofs.Commands.{by_argument}
use Rattle.serve_words.proofs.command.filter_command.Goals as goal

pub returns : goal.returns
returns c =
    let none : IsCommand (new_app (codes "filter")) c.after_long_help.result = record { same = search rules; local = search rules } in
    let one = by_argument none c.operations_argument.ensures c.in_ok-arg.ensures in
    let two = by_argument one c.band_option.ensures c.in_ok-arg-2.ensures in
    let three = by_argument two c.threads_option.ensures c.in_ok-arg-3.ensures in
    IfOk-weaker c.arg-4.result _ _ (λ command. by_argument three c.quiet_flag.ensures) c.arg-4.ensures

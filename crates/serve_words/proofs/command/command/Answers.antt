use Rattle.std.proofs.Common.{◌≡◌, [], codes, rules, true}
use Rattle.std.proofs.lemmas.Result.{IfOk-weaker}
use Rattle.clap.specs.Simple.{App, app_of, new_shape}
use Rattle.serve_words.proofs.Commands.{by_subcommand}
use Rattle.serve_words.proofs.command.command.Goals as goal

abbrev alone : App
alone = record {
  top = record (new_shape (codes "y4mserve")) { no_binary_name = true; has_version = true; subcommand_required = true };
  subs = [];
}

pub returns : goal.returns
returns c =
    let none : app_of c.subcommand_required.result ≡ alone = search rules in
    let one = by_subcommand none c.in_ok-filter_command.ensures c.in_ok-subcommand.ensures in
    let two = by_subcommand one c.replay_command.ensures c.in_ok-subcommand-2.ensures in
    IfOk-weaker c.subcommand-3.result _ _ (λ command. by_subcommand two c.in_ok-serve_command.ensures) c.subcommand-3.ensures

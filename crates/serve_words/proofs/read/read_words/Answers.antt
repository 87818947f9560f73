use Rattle.std.proofs.Common.{◌≢◌, ◌∙◌, ap, arith, map, string_bytes, subst, sym}
use Rattle.std.proofs.lemmas.Grind.{common_steps}
use Rattle.clap.specs.Faults.{fault_of, is_simple_and_free}
use Rattle.clap.specs.Simple.{is_simple, subcommand_of}
use Rattle.clap.specs.Values.{kind_of}
use Rattle.clap.specs.declared.error.kind.ErrorKind.TheVariants.{DisplayHelp, DisplayVersion, OutOfMemory}
use Rattle.serve_words.specs.Options.{IsRequestOf, MeetsOne}
use Rattle.serve_words.proofs.Commands.{is_among, is_fault, is_free, is_read, is_shown, none_but_memory}
use Rattle.serve_words.proofs.Subcommands.{meets_one}
use Rattle.serve_words.proofs.read.read_words.Goals as goal

pub request_of-requires : goal.request_of-requires
request_of-requires c =
    let words = map string_bytes c.args.words.now in
    let same = c.in_ok-command.ensures in
    let taken = ap (λ app. fault_of app words) (sym same) ∙ c.in-Ok.ensures.kinds (ap is_simple_and_free same ∙ is_free) in
    let met = (c.in-Ok.ensures.matches (ap is_simple same ∙ is_read)).1 ∙ ap (λ app. subcommand_of app words) same in
    subst MeetsOne (sym met) (meets_one words taken)

pub returns-in-Ok-clause-request : goal.returns-in-Ok-clause-request
returns-in-Ok-clause-request c =
    let words = map string_bytes c.args.words.now in
    let same = c.in_ok-command.ensures in
    let met = (c.in-Ok.ensures.matches (ap is_simple same ∙ is_read)).1 in (
      ap (λ app. fault_of app words) (sym same) ∙ c.in-Ok.ensures.kinds (ap is_simple_and_free same ∙ is_free),
      subst (λ met. IsRequestOf met c.in_ok-request_of-in-Ok.field-0) (met ∙ ap (λ app. subcommand_of app words) same)
          c.in_ok-request_of-in-Ok.ensures,
    )

pub returns-then-use_stderr-clause-help : goal.returns-then-use_stderr-clause-help
returns-then-use_stderr-clause-help c =
    let fault = is_fault (map string_bytes c.args.words.now) c.in-Err.error c.in_ok-command.ensures c.in-Err.ensures.kinds in
    let there : kind_of c.in-Err.error ≢ OutOfMemory = λ out.
    let bad = rw (c.kind.ensures ∙ out) at c.eq.ensures in
    cc in
    let other = c.use_stderr.ensures.0 c.if-use_stderr.true in
    (_, is_among _ c.in-Err.error there fault, other.0, other.1)

pub returns-then-use_stderr-clause-refusal : goal.returns-then-use_stderr-clause-refusal
returns-then-use_stderr-clause-refusal c = λ taken.
    let fault = is_fault (map string_bytes c.args.words.now) c.in-Err.error c.in_ok-command.ensures c.in-Err.ensures.kinds in
    let bad = rw (c.kind.ensures ∙ none_but_memory c.in-Err.error taken fault) at c.eq.ensures in
    cc

pub returns-clause-help : goal.returns-clause-help
returns-clause-help c =
    let fault = is_fault (map string_bytes c.args.words.now) c.in-Err.error c.in_ok-command.ensures c.in-Err.ensures.kinds in
    let there : kind_of c.in-Err.error ≢ OutOfMemory = λ out.
    let bad = rw (c.kind.ensures ∙ out) at c.eq.ensures in
    cc in
    let shown : ¬ ((kind_of c.in-Err.error ≢ DisplayHelp) × (kind_of c.in-Err.error ≢ DisplayVersion)) = λ neither.
    let bad = c.use_stderr.ensures.1 neither in
    cc in
    (is_shown _ (kind_of c.in-Err.error) shown (is_among _ c.in-Err.error there fault), grind (arith, common_steps))

pub returns-clause-refusal : goal.returns-clause-refusal
returns-clause-refusal c = λ taken.
    let fault = is_fault (map string_bytes c.args.words.now) c.in-Err.error c.in_ok-command.ensures c.in-Err.ensures.kinds in
    let bad = rw (c.kind.ensures ∙ none_but_memory c.in-Err.error taken fault) at c.eq.ensures in
    cc

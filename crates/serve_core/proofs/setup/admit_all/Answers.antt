use Rattle.std.proofs.Common.{Err, Some, slice_get, refl, sym, ◌∙◌, ap, subst, arith}
use Rattle.cbs_account.specs.Admission.{Fits, with_share}
use Rattle.serve_core.specs.Setup.{HasBandwidth}
use Rattle.serve_core.proofs.Items.Lists.{slice_get_here}
use Rattle.serve_core.proofs.Items.Options.{and_some}
use Rattle.serve_core.proofs.Rules.Admissions.{all_more, load_more}
use Rattle.serve_core.proofs.setup.admit_all.Goals as goal

pub returns-in-Err-Overload-clause-err : goal.returns-in-Err-Overload-clause-err
returns-in-Err-Overload-clause-err c =
    let streams = c.args.streams.now in
    let s = c.loop-s.s in
    let read = slice_get_here streams s c.index-streams-s.result (omega arith) c.index-streams-s.is in
    let here = read ∙ ap Some (sym c.stream.view_is) in
    let refused = c.in-Err-Overload.ensures.overload.0 (ap Err c.in-Err-Overload.field-0-is) in
    let before = ap (with_share c.stream.inside.maximum c.stream.inside.period)
    (sym c.loop-s.invariant.load) in
    let more = load_more c.args.workers s streams _ here ∙ before in (
      c.loop-s.invariant.admitted,
      and_some (slice_get streams s) HasBandwidth _ here refused.0,
      λ fit. refused.1 (subst Fits more fit),
    )

pub loop-s-preserved : goal.loop-s-preserved
loop-s-preserved c =
    let streams = c.args.streams.now in
    let s = c.loop-s.s in
    let read = slice_get_here streams s c.index-streams-s.result (omega arith) c.index-streams-s.is in
    let here = read ∙ ap Some (sym c.stream.view_is) in
    let before = ap (with_share c.stream.inside.maximum c.stream.inside.period)
    (sym c.loop-s.invariant.load) in
    let more = load_more c.args.workers s streams _ here ∙ before in
    let accepted = c.in-Ok.ensures.accepted.0 refl in
    let all = all_more HasBandwidth streams s _ here c.loop-s.invariant.admitted.bandwidths accepted.0 in
    record {
      load = c.in-Ok.ensures.ok ∙ sym more;
      admitted = record { bandwidths = all; fit = subst Fits (sym more) accepted.1 };
    }

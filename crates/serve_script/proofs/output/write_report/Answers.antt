use Rattle.std.proofs.Common.{rules, ◌++◌}
use Rattle.std.proofs.KnownBytes.{Appends-trans}
use Rattle.std.specs.Io.KnownBytes.{Appends}
use Rattle.std.specs.Option.{option_map}
use Rattle.serve_script.specs.ScriptInside.{stop_told}
use Rattle.serve_script.specs.ScriptReport.{stop_text}
use Rattle.serve_script.proofs.Fronts.{all_written, first_cut, later_cut, not_written}
use Rattle.serve_script.proofs.output.write_report.Goals as goal

pub returns-in_err-put-clause-text : goal.returns-in_err-put-clause-text
returns-in_err-put-clause-text g c =
    not_written _ _ _ c.from_residual.result c.from_residual.ensures.0
    (first_cut _ _ _ (stop_text (option_map stop_told c.args.stop)) c.in_err-put.ensures.text)

pub returns-in_err-put_stop-clause-text : goal.returns-in_err-put_stop-clause-text
returns-in_err-put_stop-clause-text g c =
    not_written _ _ _ c.from_residual-in_err-put_stop.result c.from_residual-in_err-put_stop.ensures.0
    (later_cut _ _ _ c.args.printed.now _ c.in_ok-put.ensures.text c.in_err-put_stop.ensures.text)

pub returns-clause-text : goal.returns-clause-text
returns-clause-text g c =
    let contents = g.W.Sink.contents in
    let out = Appends-trans _ _ _ c.args.printed.now (stop_text (option_map stop_told c.args.stop))
    c.in_ok-put.ensures.text c.in_ok-put_stop.ensures.text in
    let flushed : Appends (contents c.args.writer.now) (contents c.flush.new.self)
    (c.args.printed.now ++ stop_text (option_map stop_told c.args.stop)) = search (rules, out) in
    all_written _ _ _ c.map_err.result flushed

use Rattle.std.proofs.Common.{rules, ◌<◌, ◌≤◌, [], length}
use Rattle.std.specs.Io.KnownBytes.{Consumes, IsAtEnd}
use Rattle.std.specs.Option.{option_map}
use Rattle.serve_script.specs.ScriptInside.{IsWritten, Reports, stop_told}
use Rattle.serve_script.specs.ScriptReport.{IsKeptReport}
use Rattle.serve_script.proofs.Replays.{on_ok, replayed_input, replayed_unkept, takes_script}
use Rattle.serve_script.proofs.replay_through.Goals as goal

pub returns-in-Err-NoMemory-clause-replay : goal.returns-in-Err-NoMemory-clause-replay
returns-in-Err-NoMemory-clause-replay g c =
    replayed_unkept (g.R.Source.remaining c.args.input.now) _ _ _ c.tell.result c.as_slice.ensures
    (c.read_front.ensures.memory_for_bytes (search rules)) c.tell.ensures.written

pub returns-clause-replay : goal.returns-clause-replay
returns-clause-replay g c =
    let script = c.in-Ok.script.items in
    let printed = c.run_script.new.printed.items in
    let stop = c.err-stop.result in
    let consumed : Consumes (g.R.Source.remaining c.args.input.now) (g.R.Source.remaining c.read_front.new.input) script = search rules in
    let at_end : length script < 1048577 → IsAtEnd (g.R.Source.remaining c.read_front.new.input) = search rules in
    let reports : Reports (IsKeptReport script) stop [] printed = search rules in
    let wrote : IsWritten (g.W.Sink.contents c.args.output.now) (g.W.Sink.contents c.tell-2.new.output) printed
    (option_map stop_told stop) c.tell-2.result = search rules in
    replayed_input _ _ script printed stop _ _ c.tell-2.result consumed at_end reports wrote

pub returns-clause-taken : goal.returns-clause-taken
returns-clause-taken g c =
    let script = c.in-Ok.script.items in
    let left = g.R.Source.remaining c.read_front.new.input in
    let consumed : Consumes (g.R.Source.remaining c.args.input.now) left script = search rules in
    let bound : length script ≤ 1048577 = search rules in
    let at_end : length script < 1048577 → IsAtEnd left = search rules in
    on_ok c.tell-2.result _ (takes_script (g.R.Source.remaining c.args.input.now) left script consumed bound at_end)

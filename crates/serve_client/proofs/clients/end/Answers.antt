use Rattle.std.proofs.Common.{Some, ap}
use Rattle.serve_client.specs.Clients.{ClientStopsAt}
use Rattle.serve_client.proofs.Allowing.{flushed_stop}
use Rattle.serve_client.proofs.Ending.{Ends-served, stop_stays, stops_flushed}
use Rattle.serve_client.proofs.clients.end.Goals as goal

pub returns-clause-ends : goal.returns-clause-ends
returns-clause-ends g c = λ start past shown opened header is_opened fresh serves tally.
    let finish = c.finish-writer.ensures in
    let left = c.args.pipeline in
    Ends-served start _ shown opened header is_opened ClientStopsAt past c.args.stop left.reader left.seat left.writer _
    (stops_flushed c.args.stop c.finish-writer.result.1) serves fresh tally
    (record {
      kept = finish.keeps_contents;
      flushed = finish.flushed;
      closed = finish.closed;
      fault = finish.fault;
      failed = finish.failed;
      told = finish.failures;
    })
    c.stop_after_flush.ensures c.accepted-accepted.ensures c.frames-delivered.ensures c.into_source.ensures.remaining
    c.into_source.ensures.failures

pub returns-clause-stop : goal.returns-clause-stop
returns-clause-stop g c = flushed_stop c.args.stop c.finish-writer.result.1 c.stop_after_flush.result c.stop_after_flush.ensures

pub returns-clause-fault : goal.returns-clause-fault
returns-clause-fault g c = λ fault.
    ap Some (stop_stays c.args.stop c.finish-writer.result.1 c.stop_after_flush.result c.stop_after_flush.ensures fault)

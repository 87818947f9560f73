use Rattle.std.proofs.Common.{ℕ, ◌≡◌, ◌+◌, suc, None, arith, drop, replicate, subst}
use Rattle.serve_core.proofs.Items.Lists.{slice_get_here}
use Rattle.serve_work.specs.LiveInside.{with_tickets}
use Rattle.serve_work.proofs.Retiring.{ticket_more, tickets_made}
use Rattle.serve_work.proofs.live.tickets.tickets_of.Goals as goal

pub loop-place-preserved : goal.loop-place-preserved
loop-place-preserved g c =
    let ended = c.args.ended.now in
    let guests = c.args.guests.now.items in
    let place = c.loop-place.place in
    let here = slice_get_here guests place c.index.result.now (omega (arith, c.loop-place-test.true, c.args.guests.now.ok.0))
    c.index.ensures in
    let next : suc place ≡ place + 1 = omega arith in
    record {
      tickets = subst (λ (k : ℕ). with_tickets (drop k ended.streams) (drop k guests) c.put_ticket.new.tickets
          ≡ with_tickets ended.streams guests (replicate 64 None)) next
          (ticket_more ended.streams guests c.loop-place.tickets c.put_ticket.new.tickets
          (with_tickets ended.streams guests (replicate 64 None)) place c.index.result.now here c.loop-place.invariant.tickets c.put_ticket.ensures);
    }

pub returns : goal.returns
returns g c =
    let guests = c.args.guests.now.items in
    tickets_made c.args.ended.now.streams guests c.loop-place.tickets
    (with_tickets c.args.ended.now.streams guests (replicate 64 None)) c.loop-place.place
    (omega (arith, c.loop-place-test.false, c.args.guests.now.ok.0)) c.loop-place.invariant.tickets

use Rattle.serve_client.proofs.clients.prepare.Goals as goal

pub returns-clause-buffers : goal.returns-clause-buffers
returns-clause-buffers g c = c.in_ok-buffers.ensures.sized c.args.seat.now.chain

use Rattle.serve_audit.proofs.Histories.{band_stuck}
use Rattle.serve_audit.proofs.calls.do_bands.Goals as goal

pub returns-then-not-band : goal.returns-then-not-band
returns-then-not-band c =
    band_stuck c.args.tally.now c.loop-band.tally c.band.new.self c.args.w c.loop-band._band c.args.count
    c.loop-band-test.true c.loop-band.invariant c.if-not-band.ensures

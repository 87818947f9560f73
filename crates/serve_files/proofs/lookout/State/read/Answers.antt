use Rattle.std.proofs.Common.{◌≡◌, arith}
use Rattle.serve_files.specs.ReadAhead.{IsReadOf}
use Rattle.serve_files.specs.declared.lookout.State.TheVariants as states
use Rattle.serve_files.proofs.lookout.State.read.Goals as goal
use Rattle.serve_files.proofs.lookout.State.read.Goals.{in-Asked+in-Resting-1, in-Asked+in-Asked-1, in-Asked+in-Idle-1}
use Rattle.serve_files.proofs.lookout.State.read.Goals.{in_default+in-Resting-1, in_default+in-Asked-1, in_default+in-Idle-1}

pub returns-in-Resting-clause-bytes : goal.returns-in-Resting-clause-bytes
returns-in-Resting-clause-bytes g c =
    let read : IsReadOf c.in-Resting.ahead c.read.new.self c.read.result c.read.new.buf = record {
      bytes = c.read.ensures.bytes;
      held = c.read.ensures.held;
      told = λ none told some. c.read.ensures.end_or_fault none told (omega (arith, some, c.read.auto.buf));
    } in
    elim c.match-replace.branch [
      | in-Asked+in-Resting-1 w ↦ let e : c.args.self.now ≡ states.Asked c.in-Resting.ahead w.in-Asked.field-1 = cc in rw e read
      | in-Asked+in-Asked-1 w ↦ let e : c.args.self.now ≡ states.Asked c.in-Resting.ahead w.in-Asked.field-1 = cc in rw e read
      | in-Asked+in-Idle-1 w ↦ let e : c.args.self.now ≡ states.Asked c.in-Resting.ahead w.in-Asked.field-1 = cc in rw e read
      | in_default+in-Resting-1 w ↦ let e : c.args.self.now ≡ states.Resting c.in-Resting.ahead = cc in rw e read
      | in_default+in-Asked-1 w ↦ let e : c.args.self.now ≡ states.Resting c.in-Resting.ahead = cc in rw e read
      | in_default+in-Idle-1 w ↦ let e : c.args.self.now ≡ states.Resting c.in-Resting.ahead = cc in rw e read
    ]

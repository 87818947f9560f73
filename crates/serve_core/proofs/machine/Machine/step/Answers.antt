use Rattle.serve_core.specs.Frames.{measures, is_image}
use Rattle.serve_core.specs.Seen.{heard, seen}
use Rattle.serve_core.proofs.Transcripts.Openings.{leads_on}
use Rattle.serve_core.proofs.machine.Machine.step.Goals as goal

pub returns-clause-transcript : goal.returns-clause-transcript
returns-clause-transcript c =
    leads_on measures is_image c.args.self.now c.answer.new.self (seen c.args.event) (heard c.answer.result)
    c.answer.ensures.allowed c.answer.ensures.state

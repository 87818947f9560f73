use Rattle.serve_core.specs.Frames.{measures, is_image}
use Rattle.serve_core.proofs.Rules.Bares.{bare_from, bare_is}
use Rattle.serve_core.proofs.laws.leads.bare_law.Goals as goal

pub returns : goal.returns
returns c = record { of_setup = bare_is measures is_image; from = bare_from measures is_image }

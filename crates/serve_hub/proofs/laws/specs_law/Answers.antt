use Rattle.serve_hub.specs.Books.{book_transcript}
use Rattle.serve_hub.proofs.Specs.{added, specs_led}
use Rattle.serve_hub.proofs.laws.specs_law.Goals as goal

pub returns : goal.returns
returns c b h = (added (book_transcript b), specs_led b.opening b.desk (book_transcript b) h.journal.leads)

use Rattle.std.proofs.Common.{sym, ◌∙◌, ap, arith, take_all}
use Rattle.serve_hub.specs.Books.{BookValue}
use Rattle.serve_hub.specs.Journal.{bands_of}
use Rattle.serve_hub.proofs.Bands.{bands_reversed}
use Rattle.serve_hub.proofs.book.Book.bands.Goals as goal

pub returns : goal.returns
returns c =
    let journal = c.self.inside.journal.items in
    let entries = c.deref-entry-items.result.now in
    let all = take_all c.loop-entry.entry-index entries (omega arith) in
    c.loop-entry.invariant.sum ∙ ap (bands_of c.args.w) (all ∙ c.deref-entry-items.ensures.value)
    ∙ sym (bands_reversed c.args.w journal)
    ∙ ap (λ (b : BookValue). bands_of c.args.w b.past) c.self.view_is

use Rattle.std.proofs.Common.{◌≡◌, ◌≤◌, ◌*◌, ◌^◌, take}
use Rattle.serve_hub.specs.Journal.{bands_of}
use Rattle.serve_hub.proofs.book.Book.bands.Given as goal

abbrev pub invariant-loop-entry : goal.invariant-loop-entry
invariant-loop-entry l = record {
  sum : l.sum ≡ bands_of l.fn.w (take l.entry-index l.entry-items);
  few : l.sum ≤ l.entry-index * 2 ^ 32;
}

-- What an audit says of the book of a hub.
use Rattle.std.proofs.Common.{ℕ, ◌≡◌, List, Option, None, Some, refl, sym, ◌∙◌, ap, subst, reverse, slice_get}
use Rattle.std.specs.Option.{option_map}
use Rattle.std.proofs.lemmas.List.{reverse-reverse}
use Rattle.std.proofs.lemmas.Option.{slice_get-map}
use Rattle.serve_core.specs.Desk.{bare_frames, desk_state}
use Rattle.serve_core.specs.Schedule.{account_of, counts_of, stream_by}
use Rattle.serve_core.specs.Streams.{KeptStream}
use Rattle.serve_core.proofs.Schedules.Retiring.{retired_state}
use Rattle.serve_hub.specs.declared.entry.Entry.{Entry}
use Rattle.serve_hub.specs.Books.{opening_of, specs_of}
use Rattle.serve_hub.specs.Journal.{IsJournal}
use Rattle.serve_audit.specs.Laws.{BookLaw, EndLaw, RetireLaw, SameLaw}
use Rattle.serve_audit.proofs.Histories.{one_end}

pub book_is : BookLaw
book_is b h = (
  desk_state b.desk,
  subst (λ (past : List Entry). IsJournal (specs_of b.desk) (opening_of b) past (desk_state b.desk))
      (sym (reverse-reverse b.past)) h.journal,
)

pub end_is : EndLaw
end_is b journal m h e j =
    one_end (specs_of b.desk) (opening_of b) m (desk_state b.desk) b.past
    (subst (λ (past : List Entry). IsJournal (specs_of b.desk) (opening_of b) past m) e j) h.journal

seen_same : {Y : Type 0} (f : KeptStream → Y) (g : KeptStream → Y) (o : Option KeptStream)
    → ((x : KeptStream) → f x ≡ g x) → option_map f o ≡ option_map g o
seen_same f g None h = refl
seen_same f g (Some x) h = ap Some (h x)

account_seen : (o : Option KeptStream)
    → option_map account_of (option_map (stream_by bare_frames) o) ≡ option_map (λ stream. account_of stream.state) o
account_seen None = refl
account_seen (Some x) = refl

counts_seen : (o : Option KeptStream)
    → option_map counts_of (option_map (stream_by bare_frames) o) ≡ option_map (λ stream. counts_of stream.state) o
counts_seen None = refl
counts_seen (Some x) = refl

pub same_is : SameLaw
same_is x s = (
  ap (option_map account_of) (slice_get-map (stream_by bare_frames) x.streams s) ∙ account_seen (slice_get x.streams s),
  ap (option_map counts_of) (slice_get-map (stream_by bare_frames) x.streams s) ∙ counts_seen (slice_get x.streams s),
)

pub retire_is : RetireLaw
retire_is x = retired_state bare_frames x

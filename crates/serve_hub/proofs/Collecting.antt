-- A collection as its seat has it.
use Rattle.std.proofs.Common.{◌≡◌, IsSomeAnd, Some, slice_get, refl, sym, ◌∙◌, ap, subst}
use Rattle.filters.specs.Chain.{ChainValue}
use Rattle.serve_core.specs.declared.collected.Collected.{Collected}
use Rattle.serve_core.specs.Schedule.{HasStream, IsFirst, stream_collected, with_stream_at}
use Rattle.serve_core.specs.Streams.{IsPair, KeptStream}
use Rattle.serve_core.proofs.Events.Soundness.{one_item}
use Rattle.serve_core.proofs.Items.Options.{some_and}
use Rattle.serve_hub.specs.declared.entry.Act.TheVariants as acts
use Rattle.serve_hub.specs.declared.entry.Entry.{Entry}
use Rattle.serve_hub.specs.declared.entry.Seat.TheVariants.{Stream}
use Rattle.serve_hub.specs.Books.{Appends, BookValue}
use Rattle.serve_hub.specs.Calls.{Collects}
use Rattle.serve_hub.specs.Journal.{entry_of}
use Rattle.serve_hub.specs.Seats.{CallsValue, StreamSeatValue, with_call}

one_entry : (e f : Entry) → Some e ≡ Some f → e ≡ f
one_entry e f same = cc

-- the book gave the first image of the seat's stream, and the seat counted the call
pub collects : (old : StreamSeatValue) (calls : CallsValue) (b d : BookValue) (pair : Collected)
    → HasStream b.desk old.number (λ stream.
    Appends (Stream old.number) (acts.Collected stream.state.collected) b d)
    → HasStream b.desk old.number (λ stream.
    IsFirst pair stream × (d.desk ≡ with_stream_at old.number (stream_collected stream) b.desk))
    → HasStream b.desk old.number (λ stream. stream.state.spec.chain ≡ old.chain)
    → IsSomeAnd (slice_get d.past 0) (λ e. calls ≡ with_call e.act old.calls)
    → let new : StreamSeatValue = record old { calls = calls } in Collects pair old new
collects old calls b d pair entered given of_chain counted =
    let streams = b.desk.streams in
    let a = some_and (slice_get streams old.number) _ entered in
    let first = some_and (slice_get streams old.number) _ given in
    let its = some_and (slice_get streams old.number) _ of_chain in
    let e = some_and (slice_get d.past 0) _ counted in
    let number = a.0.state.collected in
    let act = acts.Collected number in
    let same : first.0 ≡ its.0 = one_item streams old.number old.number first.0 its.0 refl first.1 its.1 in
    let chain : first.0.state.spec.chain ≡ old.chain =
    ap (λ (stream : KeptStream). stream.state.spec.chain) same ∙ its.2 in
    let latest : slice_get d.past 0 ≡ Some (entry_of (Stream old.number) act) =
    ap (λ (x : BookValue). slice_get x.past 0) a.2.book in
    let entry : e.0 ≡ entry_of (Stream old.number) act = one_entry e.0 _ (sym e.1 ∙ latest) in
    let added : calls ≡ with_call act old.calls = e.2 ∙ ap (λ (x : Entry). with_call x.act old.calls) entry in
    record {
      number = number;
      image = subst (λ (x : ChainValue). IsPair x pair) chain first.2.0.image;
      seat = ap (λ (x : CallsValue). let new : StreamSeatValue = record old { calls = x } in new) added;
    }

use Rattle.std.proofs.Common.{◌∙◌, ap, inl, refl, subst, sym}
use Rattle.std.proofs.KnownBytes.{Keeps-refl}
use Rattle.std.specs.Io.KnownBytes.{Keeps}
use Rattle.y4m_stream.specs.Reader.{ReaderState}
use Rattle.serve_client.specs.declared.stop.Cause.TheVariants as causes
use Rattle.serve_client.specs.declared.stop.Stop.TheVariants.{Refused}
use Rattle.serve_client.specs.Clients.{StreamStopsAt}
use Rattle.serve_client.specs.Rests.{IsRestOf, IsUnbegun, RestValue, delivered_in, rest_image, rest_stop}
use Rattle.serve_client.specs.RestInside.{rest_of}
use Rattle.serve_client.specs.Sends.{TellsKept}
use Rattle.serve_client.proofs.Ending.{Ends-unopened}
use Rattle.serve_client.proofs.Tallying.{seat_same}
use Rattle.serve_client.proofs.rest.ClientRest.give_up.Goals as goal

pub returns-in-Unbegun : goal.returns-in-Unbegun
returns-in-Unbegun g c =
    let rest = sym c.self.view_is ∙ ap (rest_of g.W.Sink.contents g.W.Sink.failures) c.in-Unbegun.is in
    record {
      ends = λ start past seat at.
          let contents = g.W.Sink.contents in
          let writer = c.in-Unbegun.writer in
          let is : IsUnbegun start past seat c.in-Unbegun.reader (contents writer) (g.W.Sink.failures writer) =
          subst (IsRestOf start past seat) rest at in
          let kept : Keeps start.before (contents writer) = subst (λ b. Keeps b (contents writer)) is.same_contents (Keeps-refl (contents writer))
          in
          Ends-unopened start _ StreamStopsAt past seat seat _ _ _ is (seat_same seat seat refl) refl refl refl
          (c.into_source.ensures.failures ∙ ap (λ (r : ReaderState). r.failures) (c.in-Unbegun.reader-is ∙ is.same_reader))
          (inl (record {
            stop = refl;
            unread = c.into_source.ensures.remaining ∙ ap (λ (r : ReaderState). r.left) (c.in-Unbegun.reader-is ∙ is.same_reader);
            unaccepted = refl;
            none = refl;
            kept = rw c.in-Unbegun.writer-is kept;
            no_failure = rw c.in-Unbegun.writer-is is.same_failures;
          }));
      stop = λ is. absurd (cc);
      kept = subst (λ (r : RestValue). TellsKept (rest_image r) (rest_stop r) (delivered_in r) (Refused causes.NoMemory) 0) (sym rest)
          (refl, refl);
      own = λ over. absurd (cc);
    }

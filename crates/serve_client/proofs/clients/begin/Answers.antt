use Rattle.std.proofs.Common.{◌∙◌, ◌+◌, ◌≤◌, ◌++◌, ◌∷◌, [], ap, arith, inl, inr, refl, subst, sym}
use Rattle.std.proofs.KnownBytes.{Keeps-refl}
use Rattle.std.specs.Io.KnownBytes.{Keeps}
use Rattle.filters.specs.Chain.{ChainValue}
use Rattle.y4m_stream.specs.Failures.{one_more}
use Rattle.y4m_stream.specs.Reader.{ReaderState}
use Rattle.y4m_stream.specs.Served.{IsHeaderOfImages}
use Rattle.y4m_stream.specs.Writer.{CutsShort, IsOpenedFor}
use Rattle.serve_client.specs.Clients.{AllowsStop, ClientEnds, ClientOutcome, ClientStopsAt}
use Rattle.serve_client.proofs.Ending.{Ends-unopened, shown_for}
use Rattle.serve_client.proofs.Resting.{can_begin, feeding_first, opened_size}
use Rattle.serve_client.proofs.Staying.{stays_chain}
use Rattle.serve_client.proofs.Tallying.{if_none, none_accepted}
use Rattle.serve_client.proofs.clients.begin.Goals as goal

pub returns-in_default-clause-turn : goal.returns-in_default-clause-turn
returns-in_default-clause-turn g c = λ start past is.
    let u = c.end_unopened.ensures in
    let contents = g.W.Sink.contents c.args.writer in
    let ends = subst (λ (o : ClientOutcome). ClientEnds start past c.end_unopened.result.seat o) (sym u.outcome)
    (Ends-unopened start _ ClientStopsAt past c.args.seat _ _ _ _ is u.tally u.accepted u.kept refl
    (ap (λ (r : ReaderState). r.failures) is.same_reader) (inl (record {
      stop = refl;
      unread = ap (λ (r : ReaderState). r.left) is.same_reader;
      unaccepted = refl;
      none = refl;
      kept = subst (λ b. Keeps b contents) is.same_contents (Keeps-refl contents);
      no_failure = is.same_failures;
    }))) in
    (ends, u.kept ∙ is.fresh.kept, u.closed)

pub returns-in-Err-clause-turn : goal.returns-in-Err-clause-turn
returns-in-Err-clause-turn g c = λ start past is.
    let u = c.end_unopened-in-Err.ensures in
    let h = c.shown_header.result.now in
    let own : IsHeaderOfImages c.args.seat.chain c.args.reader.header h = shown_for c.args.seat.chain c.args.reader.header _ _ _
    c.in-Ok.resized
    c.header.ensures c.header-2.ensures c.shown_header.ensures c.in-Ok.ensures.shown in
    let shown : IsHeaderOfImages start.seat.chain start.reader.header h =
    subst (λ (r : ReaderState). IsHeaderOfImages start.seat.chain r.header h) is.same_reader
    (subst (λ (chain : ChainValue). IsHeaderOfImages chain c.args.reader.header h) (stays_chain start.seat c.args.seat is.stays) own) in
    let contents = g.W.Sink.contents c.in-Err.writer in
    let ends = subst (λ (o : ClientOutcome). ClientEnds start past c.end_unopened-in-Err.result.seat o) (sym u.outcome)
    (Ends-unopened start _ ClientStopsAt past c.args.seat _ _ _ _ is u.tally u.accepted u.kept refl
    (ap (λ (r : ReaderState). r.failures) is.same_reader) (inr (record {
      fault = c.in-Err.fault;
      stop = refl;
      unread = ap (λ (r : ReaderState). r.left) is.same_reader;
      unaccepted = refl;
      none = refl;
      cut = subst (λ l. CutsShort start.before contents (l ++ 10 ∷ []) 0 c.in-Err.fault) shown.line
          (subst (λ b. CutsShort b contents (h.line ++ 10 ∷ []) 0 c.in-Err.fault) is.same_contents c.in-Err.ensures.cut);
      failure = c.in-Err.ensures.failures ∙ ap one_more is.same_failures;
    }))) in
    (ends, u.kept ∙ is.fresh.kept, u.closed)

pub run-requires-clause-can : goal.run-requires-clause-can
run-requires-clause-can g c =
    let own = shown_for c.args.seat.chain c.args.reader.header _ _ _ c.in-Ok.resized c.header.ensures c.header-2.ensures
    c.shown_header.ensures
    c.in-Ok.ensures.shown in
    let opened = c.in-Ok-open.ensures.opened in
    can_begin c.requires.counted.0 c.args.reader c.args.seat c.in-Ok-open.output c.in-Ok.buffers c.requires.fresh c.requires.most
    c.requires.open
    opened.writing opened.none opened.frames c.requires.counted.1
    (opened_size c.args.seat.chain c.args.reader.header _ _ _ c.in-Ok-open.output own opened) c.in-Ok.ensures.buffers

pub returns-clause-turn : goal.returns-clause-turn
returns-clause-turn g c = λ start past is.
    let h = c.shown_header.result.now in
    let own : IsHeaderOfImages c.args.seat.chain c.args.reader.header h = shown_for c.args.seat.chain c.args.reader.header _ _ _
    c.in-Ok.resized
    c.header.ensures c.header-2.ensures c.shown_header.ensures c.in-Ok.ensures.shown in
    let opened = c.in-Ok-open.ensures.opened in
    c.run.ensures.turn start past (record {
      shown = h;
      opened = c.in-Ok-open.output;
      header = subst (λ (r : ReaderState). IsHeaderOfImages start.seat.chain r.header h) is.same_reader
          (subst (λ (chain : ChainValue). IsHeaderOfImages chain c.args.reader.header h) (stays_chain start.seat c.args.seat is.stays) own);
      is_opened = subst (λ n. IsOpenedFor h start.before n c.in-Ok-open.output) is.same_failures
          (subst (λ b. IsOpenedFor h b (g.W.Sink.failures c.args.writer) c.in-Ok-open.output) is.same_contents opened);
      first = is.first;
      before = feeding_first start past c.args.seat c.args.reader (g.W.Sink.contents c.args.writer) (g.W.Sink.failures c.args.writer)
          c.in-Ok-open.output is;
      same_header = ap (λ (r : ReaderState). r.header) is.same_reader;
      tally = record {
        number = is.stays.number;
        spec = is.stays.spec;
        offers = is.offers;
        closes = is.closes;
        images = omega (arith, opened.frames);
        before = is.before;
        torn = λ none.
            if_none (λ n. start.seat.before + c.in-Ok-open.output.frames ≤ n) c.args.seat.torn (is.stays.torn ∙ none);
      };
    })

pub returns-in_default-clause-moments : goal.returns-in_default-clause-moments
returns-in_default-clause-moments g c =
    let gives = g.K.Clock.gives c.args.post.clock.now in
    none_accepted gives _ _ c.end_unopened.ensures.tally c.end_unopened.ensures.accepted

pub returns-in-Err-clause-moments : goal.returns-in-Err-clause-moments
returns-in-Err-clause-moments g c =
    let gives = g.K.Clock.gives c.args.post.clock.now in
    none_accepted gives _ _ c.end_unopened-in-Err.ensures.tally c.end_unopened-in-Err.ensures.accepted

pub returns-in_default-clause-stop : goal.returns-in_default-clause-stop
returns-in_default-clause-stop g c =
    subst (AllowsStop (g.K.Clock.gives c.args.post.clock.now)) (sym (ap (λ (o : ClientOutcome). o.stop) c.end_unopened.ensures.outcome))
    tt

pub returns-in-Err-clause-stop : goal.returns-in-Err-clause-stop
returns-in-Err-clause-stop g c =
    subst (AllowsStop (g.K.Clock.gives c.args.post.clock.now)) (sym (ap (λ (o : ClientOutcome). o.stop) c.end_unopened-in-Err.ensures.outcome))
    tt

pub returns-clause-stop : goal.returns-clause-stop
returns-clause-stop g c = c.run.ensures.stop tt

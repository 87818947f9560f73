-- A session's lines: what is kept goes on by one event, and each line is answered by what it may give.
use Rattle.std.proofs.Common.{◌≡◌, ◌≤◌, ℕ, List, [], ◌++◌, length, slice_get, Option, Some, None, Result, Ok}
use Rattle.std.proofs.Common.{Err, OnOk, refl, sym, ap, subst, ◌∙◌, arith}
use Rattle.std.specs.Option.{option_map}
use Rattle.filters.specs.ChainImage.{FrameValue}
use Rattle.serve_core.specs.Counts.{deed, specs}
use Rattle.serve_core.specs.Events.{Admit, Event, Reply, Start, Then, Transcript}
use Rattle.serve_core.specs.Frames.{is_image, measures}
use Rattle.serve_core.specs.Leads.{LeadsOn, opening_state}
use Rattle.serve_core.specs.Reached.{IsReached}
use Rattle.serve_core.specs.Schedule.{account_of, counts_of}
use Rattle.serve_core.specs.Setup.{IsSetup, Setup}
use Rattle.serve_core.specs.States.{State, StreamState, after, did_any, held_at, map_at, new_stream, state_of, stream_of}
use Rattle.serve_core.specs.declared.counts.Counts.{Counts}
use Rattle.serve_core.specs.declared.refusal.Refusal.TheVariants.{NoStream}
use Rattle.serve_core.proofs.Events.Newcomers.{length_admitted}
use Rattle.serve_core.proofs.Items.Lists.{length_map_at}
use Rattle.serve_script.specs.ScriptReport.{line_text}
use Rattle.serve_script.specs.ScriptState.{Given, Prints, InSession, Session}
use Rattle.serve_script.specs.SessionCommand.{RunForm}
use Rattle.serve_script.specs.SessionInside.{AnswersIn, AsksForNone, IsAt, IsRunning, IsTableOf, SessionValue, Streams}
use Rattle.serve_script.specs.SessionLine.{refused_line, state_line}
use Rattle.serve_script.specs.SessionRun.{EventGives, ReplyGives, RunGives, StateGives, answer_in, state_answer, stream_named}

-- what follows from what a clause says of a success
pub ok_then : {T E : Type 0} (r : Result T E) {P Q : Type 0} → OnOk r P → (P → Q) → OnOk r Q
ok_then (Ok x) h f = f h
ok_then (Err e) h f = h

-- a session begins with the streams of its setup
pub running_first : (streams : Streams) (setup : Setup) (m : State FrameValue) → IsSetup setup → length streams.names ≡ length setup.streams
    → m ≡ opening_state FrameValue FrameValue setup → IsRunning streams m
running_first streams setup m is named opens =
    let all = ap (λ (m : State FrameValue). length m.streams) opens ∙ length_map_at (λ s spec. stream_of spec []) 0 setup.streams in
    record {
      names = omega (arith, all, named);
      reached = record { setup = setup; is_setup = is; past = Start; legal = tt; state = sym opens };
    }

pub reached_on : (m n : State FrameValue) (event : Event FrameValue) (reply : Reply FrameValue FrameValue) → IsReached measures is_image m
    → LeadsOn measures is_image m event reply n → IsReached measures is_image n
reached_on m n event reply r leads =
    let later = leads r.setup r.past r.legal r.state in
    record { setup = r.setup; is_setup = r.is_setup; past = Then r.past event reply; legal = later.0; state = later.1 }

-- no stream leaves the machine
pub more_streams : (m n : State FrameValue) (event : Event FrameValue) (reply : Reply FrameValue FrameValue) → n ≡ after m event reply
    → length m.streams ≤ length n.streams
more_streams m n event reply is =
    let change = λ (s : ℕ) (x : StreamState FrameValue). did_any x (deed s m.clock (held_at m.workers) event reply) in
    omega (
      arith,
      ap (λ (m : State FrameValue). length m.streams) is,
      length_map_at change 0 m.streams,
      length_admitted new_stream event reply (map_at 0 change m.streams),
    )

-- it goes on by an event
pub running_on : (streams : Streams) (m n : State FrameValue) (event : Event FrameValue) (reply : Reply FrameValue FrameValue)
    → IsRunning streams m → n ≡ after m event reply → LeadsOn measures is_image m event reply n → IsRunning streams n
running_on streams m n event reply running is leads = record {
  names = omega (arith, running.names, more_streams m n event reply is);
  reached = reached_on m n event reply running.reached leads;
}

-- one more event and its right reply are behind all that came before; the streams then stand so in the table
pub reply_answered : (kept : SessionValue) (streams : Streams) (next : State FrameValue) (event : Event FrameValue)
    (reply : Reply FrameValue FrameValue) (names_after : Reply FrameValue FrameValue → List (List ℕ)) (before after : List ℕ)
    → LeadsOn measures is_image kept.machine event reply next → after ≡ before ++ line_text (answer_in streams.names reply)
    → (session : Session) → IsAt kept session → streams.names ≡ names_after reply
    → IsTableOf streams (specs session.setup (Then session.past event reply))
    → AnswersIn (ReplyGives session event names_after) (record kept { streams = streams; machine = next }) before after
reply_answered kept streams next event reply names_after before after leads printed session stands named table =
    let later = leads session.setup session.past stands.legal (sym stands.machine) in
    let end : Session = record session { names = names_after reply; past = Then session.past event reply } in
    record {
      answer = answer_in streams.names reply;
      next = end;
      gives = (reply, later.0, ap (λ names. Prints (answer_in names reply) (InSession end)) named);
      stands = record {
        names = named;
        settings = stands.settings;
        table = table;
        setup = stands.setup;
        legal = later.0;
        machine = sym later.1;
      };
      printed = printed;
    }

same_specs : (setup : Setup) (p : Transcript FrameValue FrameValue) (event : Event FrameValue) (reply : Reply FrameValue FrameValue)
    → AsksForNone event → specs setup p ≡ specs setup (Then p event reply)
same_specs setup p (Admit spec) reply none = absurd none
same_specs setup p event reply none = refl

-- an event that asks for no stream leaves the table
pub event_answered : (kept : SessionValue) (next : State FrameValue) (event : Event FrameValue) (reply : Reply FrameValue FrameValue)
    (before after : List ℕ) → LeadsOn measures is_image kept.machine event reply next
    → after ≡ before ++ line_text (answer_in kept.streams.names reply)
    → (session : Session) → IsAt kept session → AsksForNone event
    → AnswersIn (EventGives session event) (record kept { machine = next }) before after
event_answered kept next event reply before after leads printed session stands none =
    reply_answered kept kept.streams next event reply (λ reply. session.names) before after leads printed session stands stands.names
    (subst (IsTableOf kept.streams) (same_specs session.setup session.past event reply none) stands.table)

-- a state is shown where it stands, and nothing moves
pub state_answered : (kept : SessionValue) (name : List ℕ) (number : ℕ) (answer before after : List ℕ)
    → number ≡ stream_named kept.streams.names name → state_answer (slice_get kept.machine.streams number) ≡ answer
    → after ≡ before ++ line_text answer
    → (session : Session) → IsAt kept session → AnswersIn (StateGives session name) kept before after
state_answered kept name number answer before after named shown printed session stands =
    let place : number ≡ stream_named session.names name = named ∙ ap (λ names. stream_named names name) stands.names in
    let here : answer ≡ state_answer (slice_get (state_of session.setup session.past).streams (stream_named session.names name)) =
    sym shown ∙ ap (λ n. state_answer (slice_get kept.machine.streams n)) place
    ∙ ap (λ machine. state_answer (slice_get machine.streams (stream_named session.names name))) stands.machine in
    record {
      answer = answer;
      next = session;
      gives = ap (λ text. Prints text (InSession session)) here;
      stands = stands;
      printed = printed;
    }

-- the state of a stream that is there
pub state_found : {F : Type 0} (stream : Option (StreamState F)) (account : ℕ × ℕ) (counts : Counts)
    → option_map account_of stream ≡ Some account → option_map counts_of stream ≡ Some counts
    → state_answer stream ≡ state_line account counts
state_found None account counts a b = absurd (cc)
state_found (Some x) account counts a b =
    let one : account_of x ≡ account = cc in
    let two : counts_of x ≡ counts = cc in
    ap (λ (account : ℕ × ℕ). state_line account (counts_of x)) one ∙ ap (λ (counts : Counts). state_line account counts) two

-- no stream is there
pub account_lost : {F : Type 0} (stream : Option (StreamState F)) → option_map account_of stream ≡ None
    → state_answer stream ≡ refused_line NoStream
account_lost None e = refl
account_lost (Some x) e = absurd (cc)

pub counts_lost : {F : Type 0} (stream : Option (StreamState F)) → option_map counts_of stream ≡ None
    → state_answer stream ≡ refused_line NoStream
counts_lost None e = refl
counts_lost (Some x) e = absurd (cc)

-- a line is answered by what the event that it stands for gives
pub answered_as : (kept : SessionValue) (before after : List ℕ) (session : Session) (event told : Event FrameValue) (form asked : RunForm)
    → event ≡ told → form ≡ asked → AsksForNone told → ((given : Given) → EventGives session told given → RunGives session asked given)
    → (AsksForNone event → AnswersIn (EventGives session event) kept before after) → AnswersIn (RunGives session form) kept before after
answered_as kept before after session event told form asked e f none gives ran =
    let a = ran (rw e none) in
    let here = rw e at a.gives in
    record { answer = a.answer; next = a.next; gives = rw f (gives _ here); stands = a.stands; printed = a.printed }

-- a stream that is named is the one that stands there
pub named_event : (kept : SessionValue) (session : Session) (name : List ℕ) (number : ℕ) (event_at : ℕ → Event FrameValue)
    → number ≡ stream_named kept.streams.names name → IsAt kept session
    → event_at number ≡ event_at (stream_named session.names name)
named_event kept session name number event_at named stands =
    ap event_at (named ∙ ap (λ names. stream_named names name) stands.names)

-- A stream that a session asks for: its name stands in the table while the machine is asked, and stays where it is admitted.
use Rattle.std.proofs.Common.{◌≡◌, ℕ, List, [], ◌∷◌, ◌++◌, length, Ok, Result, refl, sym, ap, ◌∙◌, subst, arith}
use Rattle.std.proofs.Math.Seq.{take-append_seam}
use Rattle.std.proofs.lemmas.List.{length_push}
use Rattle.filters.specs.ChainImage.{FrameValue}
use Rattle.serve_core.specs.Counts.{deed, specs}
use Rattle.serve_core.specs.Events.{Admit, Admitted, Event, Reply, Then, with_admitted}
use Rattle.serve_core.specs.Frames.{is_image, measures}
use Rattle.serve_core.specs.Leads.{LeadsOn}
use Rattle.serve_core.specs.Setup.{StreamSpec}
use Rattle.serve_core.specs.States.{State, StreamState, after, did_any, held_at, map_at, new_stream}
use Rattle.serve_core.proofs.Items.Lists.{length_map_at}
use Rattle.serve_script.specs.ScriptFault as faults
use Rattle.serve_script.specs.ScriptFault.{Fault}
use Rattle.serve_script.specs.ScriptReport.{line_text}
use Rattle.serve_script.specs.ScriptState.{Given, MayFault, Session, TakesMemory}
use Rattle.serve_script.specs.SessionCommand.{StreamForm}
use Rattle.serve_script.specs.SessionInside.{AnswersIn, IsAt, IsRunning, IsTableOf, SessionValue, Streams, admitted_streams, with_named}
use Rattle.serve_script.specs.SessionRun.{AdmitGives, SpecGives, answer_in, names_with, streams_in}
use Rattle.serve_script.specs.StreamLine.{AsksFor}
use Rattle.serve_script.proofs.Sessions.{reached_on, reply_answered, running_on}
use Rattle.serve_script.proofs.StreamGiven.{line_lost, table_more}
use Rattle.serve_script.proofs.StreamNames.{same_streams}

-- the table once the machine has answered
abbrev pub table_after : List ℕ → StreamSpec → Streams → Reply FrameValue FrameValue → Streams
table_after name spec streams (Admitted s) = with_named name spec.geometry streams
table_after name spec streams reply = streams

names_after : (name : List ℕ) (spec : StreamSpec) (streams : Streams) (reply : Reply FrameValue FrameValue)
    → (table_after name spec streams reply).names ≡ names_with name streams.names reply
names_after name spec streams (Admitted s) = refl
names_after name spec streams reply = refl

is_table_after : (name : List ℕ) (spec : StreamSpec) (streams : Streams) (reply : Reply FrameValue FrameValue) (all : List StreamSpec)
    → IsTableOf streams all
    → let event : Event FrameValue = Admit spec in
    IsTableOf (table_after name spec streams reply) (with_admitted (λ spec. spec) event reply all)
is_table_after name spec streams (Admitted s) all table = table_more streams all name spec table
is_table_after name spec streams reply all table = table

-- what a line asks for by what is kept it asks for in the session
asks_in : (kept : SessionValue) (session : Session) (form : StreamForm) (asked : Result StreamSpec Fault) → IsAt kept session
    → AsksFor kept.streams.names kept.settings form asked → AsksFor session.names session.settings form asked
asks_in kept session form asked stands asks = rw (stands.names, stands.settings) at asks

-- the line of a stream is answered by the machine
pub admit_answered : (kept : SessionValue) (streams : Streams) (next : State FrameValue) (form : StreamForm) (spec : StreamSpec)
    (reply : Reply FrameValue FrameValue) (before after : List ℕ) → AsksFor kept.streams.names kept.settings form (Ok spec)
    → streams ≡ table_after form.name spec kept.streams reply → LeadsOn measures is_image kept.machine (Admit spec) reply next
    → after ≡ before ++ line_text (answer_in streams.names reply)
    → (session : Session) → IsAt kept session
    → AnswersIn (AdmitGives session form) (record kept { streams = streams; machine = next }) before after
admit_answered kept streams next form spec reply before after asks entered leads printed session stands =
    let named : streams.names ≡ names_with form.name session.names reply =
    ap (λ (s : Streams). s.names) entered ∙ names_after form.name spec kept.streams reply
    ∙ ap (λ names. names_with form.name names reply) stands.names in
    let table = subst (λ (s : Streams). IsTableOf s (specs session.setup (Then session.past (Admit spec) reply))) (sym entered)
    (is_table_after form.name spec kept.streams reply (streams_in session) stands.table) in
    let a = reply_answered kept streams next (Admit spec) reply (names_with form.name session.names) before after leads printed session
    stands named table in
    record {
      answer = a.answer;
      next = a.next;
      gives = (Ok spec, asks_in kept session form (Ok spec) stands asks, a.gives);
      stands = a.stands;
      printed = a.printed;
    }

spec_takes : (session : Session) (name : List ℕ) (spec : StreamSpec) (given : Given) → SpecGives session name spec given → TakesMemory given
spec_takes session name spec given gives = subst TakesMemory (sym gives.2) tt

-- or there is no memory for the answer
pub admit_unprinted : (kept : SessionValue) (form : StreamForm) (spec : StreamSpec)
    → AsksFor kept.streams.names kept.settings form (Ok spec) → (session : Session) → IsAt kept session
    → MayFault (AdmitGives session form) faults.NoMemory
admit_unprinted kept form spec asks session stands =
    line_lost session.names session.settings form (SpecGives session form.name) (spec_takes session form.name) spec
    (asks_in kept session form (Ok spec) stands asks)

left_table : (streams : Streams) (name : List ℕ) (spec : StreamSpec) (count : ℕ) (reply : Reply FrameValue FrameValue)
    → count ≡ length streams.names → count ≡ length streams.geometries
    → admitted_streams count reply (with_named name spec.geometry streams) ≡ table_after name spec streams reply
left_table streams name spec count (Admitted s) names geometries = refl
left_table streams name spec count reply names geometries =
    same_streams _ _ _ _ (rw names (take-append_seam streams.names (name ∷ [])))
    (rw geometries (take-append_seam streams.geometries (spec.geometry ∷ [])))

-- what is left of a table that a stream was put into
pub settled_table : (streams put left : Streams) (name : List ℕ) (spec : StreamSpec) (count : ℕ) (reply : Reply FrameValue FrameValue)
    → count ≡ length streams.names → count ≡ length streams.geometries → put ≡ with_named name spec.geometry streams
    → left ≡ admitted_streams count reply put → left ≡ table_after name spec streams reply
settled_table streams put left name spec count reply names geometries is cut =
    cut ∙ ap (admitted_streams count reply) is ∙ left_table streams name spec count reply names geometries

-- and each of its names is a stream's
pub running_after : (streams : Streams) (name : List ℕ) (spec : StreamSpec) (m n : State FrameValue) (reply : Reply FrameValue FrameValue)
    → IsRunning streams m → n ≡ after m (Admit spec) reply → LeadsOn measures is_image m (Admit spec) reply n
    → IsRunning (table_after name spec streams reply) n
running_after streams name spec m n (Admitted s) running is leads =
    let event : Event FrameValue = Admit spec in
    let told : Reply FrameValue FrameValue = Admitted s in
    let others = map_at 0 (λ (s : ℕ) (x : StreamState FrameValue). did_any x (deed s m.clock (held_at m.workers) event told)) m.streams in
    let all : length n.streams ≡ length (others ++ new_stream spec ∷ []) = ap (λ (m : State FrameValue). length m.streams) is in
    record {
      names = omega (
        arith,
        all,
        length_push others (new_stream spec),
        length_push streams.names name,
        length_map_at (λ (s : ℕ) (x : StreamState FrameValue). did_any x (deed s m.clock (held_at m.workers) event told)) 0 m.streams,
        running.names,
      );
      reached = reached_on m n event told running.reached leads;
    }
running_after streams name spec m n reply running is leads = running_on streams m n (Admit spec) reply running is leads

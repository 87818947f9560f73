-- Streams that are opened, each with what came of it.
use Rattle.std.proofs.Common.{◌≡◌, ℕ, suc, ◌<◌, List, [], ◌∷◌, ◌++◌, length, map, get_or, None, Some, Option, Result, Ok, Err, ◌∙◌, ap}
use Rattle.std.proofs.Common.{append_assoc, append-nil, arith, refl, subst, sym}
use Rattle.std.specs.Io.KnownBytes.{Keeps}
use Rattle.std.specs.List.{AllZip}
use Rattle.std.specs.Prelude.{IfErr, IfOk, MatchResult}
use Rattle.std.proofs.lemmas.List.{map_push}
use Rattle.y4m_stream.specs.Front.{StandsAtHeader}
use Rattle.y4m_stream.specs.Reader.{IsOpened, ReaderState}
use Rattle.y4m_stream.specs.declared.device.Sink as sinks
use Rattle.y4m_stream.specs.declared.device.Source as sources
use Rattle.y4m_stream.specs.declared.fault.ReadFault.{ReadFault}
use Rattle.y4m_stream.specs.declared.fault.ReadFault.TheVariants.{Device, LineTooLong, Header, NotFrame, Truncated, NoMemory, Failed}
use Rattle.serve_report.specs.Openings.{Entry, HasNoHeader, come_of, entry_of, made_after}
use Rattle.serve_report.specs.declared.serve.ready.Ready.{Ready}
use Rattle.serve_report.specs.declared.serve.report.StreamStop.{StreamStop}

-- one more
pub moved_more : {E A : Type 0} (at : E → A) (moved : List E) (more : E) (left later : List A) (first : A) → left ≡ first ∷ later
    → at more ≡ first
    → map at (moved ++ more ∷ []) ++ later ≡ map at moved ++ left
moved_more at moved more left later first is same =
    ap (λ all. all ++ later) (map_push at moved more) ∙ append_assoc (map at moved) (at more ∷ []) later
    ∙ ap (λ one. map at moved ++ one ∷ later) same ∙ sym (ap (λ all. map at moved ++ all) is)

-- where none is left, all were moved
pub moved_all : {E A : Type 0} (at : E → A) (moved : List E) (left all : List A) → left ≡ [] → map at moved ++ left ≡ all
    → map at moved ≡ all
moved_all at moved left all none are = sym (append-nil (map at moved)) ∙ sym (ap (λ rest. map at moved ++ rest) none) ∙ are

-- what came of each place, where each was tried, is told in order
pub zipped : {J X A B : Type 0} (from : J → A) (come : X → B) (Comes : A → B → Type 0) (jobs : List J) (results : List X)
    → length results ≡ length jobs
    → ((i : ℕ) (job : J) (result : X) → i < length jobs → Comes (from (get_or jobs i job)) (come (get_or results i result)))
    → AllZip Comes (map from jobs) (map come results)
zipped from come Comes [] [] len each = tt
zipped from come Comes [] (result ∷ results) len each = absurd (omega (arith, len))
zipped from come Comes (job ∷ jobs) [] len each = absurd (omega (arith, len))
zipped from come Comes (job ∷ jobs) (result ∷ results) len each = (
  each 0 job result (omega arith),
  zipped from come Comes jobs results (omega (arith, len)) (λ i j r less. each (suc i) j r (omega (arith, less))),
)

module _ {R W : Type 0} {source : sources.Ghosts R} {sink : sinks.Ghosts W} where
  -- it is told as it came, whether a file was made
  pub made_come : (result : Result (Ready R W source sink) StreamStop) (made : ℕ)
      → made_after (come_of result) made ≡ made_after result made
  made_come (Ok ready) made = refl
  made_come (Err stop) made = refl

  -- and what is known of its entry, or of why it has none
  pub entry_come : (Is : Entry → Type 0) (Stops : StreamStop → Type 0) (result : Result (Ready R W source sink) StreamStop)
      → IfOk result (λ ready. Is (entry_of ready)) → IfErr result Stops → MatchResult (come_of result) Is Stops
  entry_come Is Stops (Ok ready) is stops = is
  entry_come Is Stops (Err stop) is stops = stops

-- a reader that stands behind a header stands there by what was known before, too
pub opened_of : (known bytes : Option (List ℕ)) (failures : ℕ) (reader : ReaderState) → Keeps known bytes → IsOpened bytes failures reader
    → IsOpened known failures reader
opened_of None bytes failures reader keeps opened =
    record { header = opened.header; taken = tt; ahead = opened.ahead; is_open = opened.is_open; no_failure = opened.no_failure }
opened_of (Some xs) None failures reader keeps opened = absurd keeps
opened_of (Some xs) (Some ys) failures reader keeps opened = subst (λ (zs : List ℕ). IsOpened (Some zs) failures reader) keeps opened

-- and where no header stands, none does by what was known before
unknown_front : (bytes left : Option (List ℕ)) (fault : ReadFault) → StandsAtHeader fault bytes left → HasNoHeader None fault
unknown_front bytes left Device stands = (left, (stands.0, tt, stands.2))
unknown_front bytes left LineTooLong stands = (left, tt)
unknown_front bytes left (Header e) stands = (left, (stands.0, stands.1, tt))
unknown_front bytes left NotFrame stands = absurd stands
unknown_front bytes left Truncated stands = (left, tt)
unknown_front bytes left NoMemory stands = (left, (tt, (stands.1.0, tt, stands.1.2)))
unknown_front bytes left Failed stands = absurd stands

pub no_header_of : (known bytes left : Option (List ℕ)) (fault : ReadFault) → Keeps known bytes → StandsAtHeader fault bytes left
    → HasNoHeader known fault
no_header_of None bytes left fault keeps stands = unknown_front bytes left fault stands
no_header_of (Some xs) None left fault keeps stands = absurd keeps
no_header_of (Some xs) (Some ys) left fault keeps stands = subst (λ (zs : List ℕ). HasNoHeader (Some zs) fault) keeps (left, stands)

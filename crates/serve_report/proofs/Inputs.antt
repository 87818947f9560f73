-- Streams by what came of opening them, one after the other.
use Rattle.std.proofs.Common.{◌≡◌, ℕ, List, [], ◌∷◌, ◌++◌, map, Option, Result, Ok, ◌∙◌, ap, append_assoc, refl, subst, sym}
use Rattle.std.proofs.lemmas.List.{map_push}
use Rattle.y4m_stream.specs.Reader.{ReaderState}
use Rattle.y4m_stream.specs.declared.device.Sink as sinks
use Rattle.y4m_stream.specs.declared.device.Source as sources
use Rattle.serve_core.specs.Setup.{StreamSpec}
use Rattle.serve_hub.specs.Seats.{StreamSeatValue, opened_streams}
use Rattle.serve_client.specs.Clients.{ClientStart}
use Rattle.serve_client.specs.Streams.{ServedValue}
use Rattle.serve_work.specs.Sessions.{AreInputs, IsInput, start_of, starts_of}
use Rattle.serve_report.specs.Entrants.{Leaves, entered}
use Rattle.serve_report.specs.Openings.{Opening, Output, come_of, entrant_of, input_of, inputs_in, opening_of, openings_of, specs_in}
use Rattle.serve_report.specs.Openings.{starts_in}
use Rattle.serve_report.specs.declared.serve.opening.Entrant.{Entrant}
use Rattle.serve_report.specs.declared.serve.opening.Tried.{Tried}
use Rattle.serve_report.specs.declared.serve.ready.Ready.{Ready}
use Rattle.serve_report.specs.declared.serve.report.StreamStop.{StreamStop}

-- one input more
pub inputs_more : {W : Type 0} (specs : List StreamSpec) (inputs : List (ReaderState × W)) (spec : StreamSpec)
    (input : ReaderState × W) → AreInputs specs inputs → IsInput spec input
    → AreInputs (specs ++ spec ∷ []) (inputs ++ input ∷ [])
inputs_more [] [] spec input are is = (is, tt)
inputs_more [] (other ∷ inputs) spec input are is = absurd are
inputs_more (other ∷ specs) [] spec input are is = absurd are
inputs_more (other ∷ specs) (first ∷ inputs) spec input are is = (are.0, inputs_more specs inputs spec input are.1 is)

-- what was moved, and then what is left, is all: one element goes over
over : {A : Type 0} (moved : List A) (x : A) (left all : List A) → moved ++ x ∷ left ≡ all → (moved ++ x ∷ []) ++ left ≡ all
over moved x left all are = append_assoc moved (x ∷ []) left ∙ are

module _ {R W : Type 0} {source : sources.Ghosts R} {sink : sinks.Ghosts W} where
  -- what was moved of streams, and then what is left of them, is what all come to
  pub record Moves (entrants : List Entrant) (specs : List StreamSpec) (inputs : List (ReaderState × W))
      (left all : List (Tried R W source sink)) : Type 0 where
    pub entrants_are : entrants ++ map entrant_of (openings_of left) ≡ map entrant_of (openings_of all)
    pub specs_are : specs ++ specs_in (openings_of left) ≡ specs_in (openings_of all)
    pub inputs_are : map (input_of sink.contents sink.failures) inputs ++ inputs_in (openings_of left) ≡ inputs_in (openings_of all)

  -- the first of what is left, by what came of it
  came : (tried : Tried R W source sink) (result : Result (Ready R W source sink) StreamStop) → Opening
  came tried result = record { name = tried.name; opened = tried.opened; made = tried.made; entry = come_of result }

  module _ (entrants : List Entrant) (specs : List StreamSpec) (inputs : List (ReaderState × W)) (tried : Tried R W source sink)
      (left all : List (Tried R W source sink)) where
    -- one stream more that takes part
    pub entry_moved : (ready : Ready R W source sink) → tried.ready ≡ Ok ready → Moves entrants specs inputs (tried ∷ left) all
        → Moves (entrants ++ entered tried.name ∷ []) (specs ++ ready.spec ∷ []) (inputs ++ ready.input ∷ []) left all
    unfolding came
    entry_moved ready is moves =
        let first : opening_of tried ≡ came tried (Ok ready) = ap (came tried) is in
        let input = input_of sink.contents sink.failures ready.input in
        record {
          entrants_are = over entrants (entered tried.name) _ _
              (ap (λ opening. entrants ++ entrant_of opening ∷ map entrant_of (openings_of left)) (sym first) ∙ moves.entrants_are);
          specs_are = over specs ready.spec _ _ (ap (λ opening. specs ++ specs_in (opening ∷ openings_of left)) (sym first)
              ∙ moves.specs_are);
          inputs_are = ap (λ told. told ++ inputs_in (openings_of left))
              (map_push (input_of sink.contents sink.failures) inputs ready.input)
              ∙ over (map (input_of sink.contents sink.failures) inputs) input _ _
              (ap (λ opening. map (input_of sink.contents sink.failures) inputs ++ inputs_in (opening ∷ openings_of left)) (sym first)
              ∙ moves.inputs_are);
        }

module _ {W : Type 0} (contents : W → Option (List ℕ)) (failures : W → ℕ) where
  -- clients begin with what came of opening their streams
  pub starts_told : (seats : List StreamSeatValue) (inputs : List (ReaderState × W))
      → starts_of (λ output. output.contents) (λ output. output.failures) seats (map (input_of contents failures) inputs)
      ≡ starts_of contents failures seats inputs
  starts_told [] [] = refl
  starts_told [] (input ∷ inputs) = refl
  starts_told (seat ∷ seats) [] = refl
  starts_told (seat ∷ seats) (input ∷ inputs) =
      ap (λ (starts : List ClientStart). start_of contents failures seat input ∷ starts) (starts_told seats inputs)

  -- so what a session of them left is told
  pub leaves_told : (Gives : ℕ → Type 0) (workers quantum journal : ℕ) (openings : List Opening) (specs : List StreamSpec)
      (inputs : List (ReaderState × W)) (left : List ServedValue)
      → specs ≡ specs_in openings → map (input_of contents failures) inputs ≡ inputs_in openings
      → Leaves Gives workers quantum journal specs (starts_of contents failures (opened_streams journal 0 specs) inputs) left
      → Leaves Gives workers quantum journal (specs_in openings) (starts_in journal openings) left
  leaves_told Gives workers quantum journal openings specs inputs left same told leaves =
      let seats = opened_streams journal 0 (specs_in openings) in
      let by_specs = subst (λ (all : List StreamSpec). Leaves Gives workers quantum journal all
      (starts_of contents failures (opened_streams journal 0 all) inputs) left)
      same leaves in
      let by_starts = subst (λ (starts : List ClientStart). Leaves Gives workers quantum journal (specs_in openings) starts left)
      (sym (starts_told seats inputs)) by_specs in
      subst (λ (all : List (ReaderState × Output)). Leaves Gives workers quantum journal (specs_in openings)
      (starts_of (λ output. output.contents) (λ output. output.failures) seats all) left) told by_starts

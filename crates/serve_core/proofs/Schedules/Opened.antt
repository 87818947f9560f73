-- The schedule of a setup before any event.
use Rattle.std.proofs.Common.{ℕ, zero, suc, ◌≡◌, List, [], ◌∷◌, map, replicate, Option, None, is_some}
use Rattle.std.proofs.Common.{refl, sym, ap, subst}
use Rattle.filters.specs.ChainImage.{FrameValue}
use Rattle.serve_core.specs.declared.held.Held.{Held}
use Rattle.serve_core.specs.Counts.{held, history}
use Rattle.serve_core.specs.Events.{Transcript, Start}
use Rattle.serve_core.specs.Frames.{measures, is_image}
use Rattle.serve_core.specs.Leads.{opening_state}
use Rattle.serve_core.specs.MachineInside.{AreWhole, IsMachine, machine}
use Rattle.serve_core.specs.Released.{StillFits}
use Rattle.serve_core.specs.Schedule.{opened_schedule, state_by, stream_by}
use Rattle.serve_core.specs.Setup.{IsSetup, Setup, StreamSpec}
use Rattle.serve_core.specs.Sound.{Sound}
use Rattle.serve_core.specs.States.{map_at, stream_of}
use Rattle.serve_core.specs.Streams.{KeptStream, opened}
use Rattle.serve_core.proofs.Events.Kept.{opening_sound}
use Rattle.serve_core.proofs.Events.Releases.{fits_opening}
use Rattle.serve_core.proofs.Events.Steps.{state_is}

module _ {F : Type 0} (G : Type 0) (frames : KeptStream → List F) where
  streams_opened : (setup : Setup) (i : ℕ) (specs : List StreamSpec)
      → ((spec : StreamSpec) → stream_by frames (opened spec) ≡ stream_of spec [])
      → let none : Transcript F G = Start in
      map (stream_by frames) (map opened specs)
      ≡ map_at i (λ s spec. stream_of spec (history setup s none)) specs
  streams_opened setup i [] h = refl
  streams_opened setup i (spec ∷ specs) h =
      let one = h spec in
      let rest = streams_opened setup (suc i) specs h in
      cc

  workers_opened : (i n : ℕ) → let none : Transcript F G = Start in
      replicate n None ≡ map_at {X = ℕ} i (λ w zero. held w none) (replicate n 0)
  workers_opened i zero = refl
  workers_opened i (suc n) = ap (λ (hs : List (Option Held)). None ∷ hs) (workers_opened (suc i) n)

  -- it is the state before any event
  pub opening_is : (setup : Setup)
      → ((spec : StreamSpec) → stream_by frames (opened spec) ≡ stream_of spec [])
      → state_by frames (opened_schedule setup) ≡ opening_state F G setup
  opening_is setup h =
      state_is 0 setup.quantum _ _ _ _ (streams_opened setup 0 setup.streams h) (workers_opened 0 setup.workers)

whole_opened : (specs : List StreamSpec) → AreWhole (map opened specs)
whole_opened [] s stream e = absurd (cc)
whole_opened (spec ∷ specs) zero stream e =
    subst (λ (stream : KeptStream). is_some stream.leased ≡ is_some stream.state.holder)
    (let same : opened spec ≡ stream = cc in same) refl
whole_opened (spec ∷ specs) (suc s) stream e = whole_opened specs s stream e

pub machine_opened : (setup : Setup) → machine (opened_schedule setup) ≡ opening_state FrameValue FrameValue setup
machine_opened setup = opening_is FrameValue (λ stream. stream.state.frames) setup (λ spec. refl)

pub is_machine_opened : (setup : Setup) → IsSetup setup → IsMachine (opened_schedule setup)
is_machine_opened setup v = record {
  sound = subst Sound (sym (machine_opened setup)) (opening_sound measures is_image setup v.0);
  fits = subst StillFits (sym (machine_opened setup)) (fits_opening measures is_image setup v.1);
  whole = whole_opened setup.streams;
}

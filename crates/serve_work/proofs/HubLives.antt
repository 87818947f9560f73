-- The life of a hub, by the epochs of a session.
use Rattle.std.proofs.Common.{ℕ, ◌*◌, ◌≡◌, ◌≤◌, ◌∙◌, ◌++◌, List, [], ◌∷◌, inl, inr, ap, refl, sym, subst}
use Rattle.serve_core.specs.Bare.{Blank, measures_any, is_any_image}
use Rattle.serve_core.specs.Desk.{LeadsDesk, bare_frames, desk_state, ticked}
use Rattle.serve_core.specs.Events.{Transcript}
use Rattle.serve_core.specs.Laws.{demand}
use Rattle.serve_core.specs.Leads.{IsLegalFrom, state_from}
use Rattle.serve_core.specs.Life.{IsLegalLife, Life, LifeDemandLaw, Opened, Retired, WentOn, released}
use Rattle.serve_core.specs.Life.{state_in, taken_out}
use Rattle.serve_core.specs.Retired.{AreFree, retired, retired_schedule}
use Rattle.serve_core.specs.Schedule.{ScheduleValue}
use Rattle.serve_core.specs.Setup.{IsSetup, Setup, setup_of}
use Rattle.serve_core.specs.States.{State, StreamState}
use Rattle.serve_core.specs.Ticked.{at_moment}
use Rattle.serve_core.proofs.Calls.Desks.{desk_opened}
use Rattle.serve_core.proofs.Calls.Offers.{moment_led}
use Rattle.serve_core.proofs.Schedules.Retiring.{retired_state}
use Rattle.serve_hub.specs.Books.{specs_of}
use Rattle.serve_hub.specs.Journal.{transcript_of}
use Rattle.serve_work.specs.History.{AreEpochsBy, EpochValue, IsEpochBy, IsGone, OpensBehind, Terms}
use Rattle.serve_work.specs.HistoryLaws.{HubDemandLaw, OpensAnew, TakenOutLaw, WereTakenOut, state_behind}
use Rattle.serve_work.proofs.Histories.{legal_behind, workers_gone}

-- a life leads here, in which these streams were taken out
record IsLife (terms : Terms) (opening : ScheduleValue) (out : List (StreamState Blank)) : Type 0 where
  setup : Setup
  is_setup : IsSetup setup
  workers : setup.workers ≡ terms.workers
  life : Life Blank Blank
  legal : IsLegalLife measures_any is_any_image setup life
  leads : state_in setup life ≡ desk_state opening
  taken : taken_out setup life ≡ out

life_anew : (terms : Terms) (before : List EpochValue) (opening : ScheduleValue) (taken : List (StreamState Blank))
    → OpensAnew terms before opening taken → IsLife terms opening taken
life_anew terms before opening taken o =
    let setup = setup_of terms.workers terms.quantum o.0.0 in
    record {
      setup = setup;
      is_setup = o.0.1.is_setup;
      workers = refl;
      life = Opened;
      legal = tt;
      leads = sym (desk_opened setup) ∙ ap desk_state (sym o.0.1.opened);
      taken = sym o.1;
    }

-- a transcript goes on from there
life_led : (terms : Terms) (opening last : ScheduleValue) (taken : List (StreamState Blank))
    (p : Transcript Blank Blank) → LeadsDesk opening p last → IsLife terms opening taken → IsLife terms last taken
life_led terms opening last taken p led l = record {
  setup = l.setup;
  is_setup = l.is_setup;
  workers = l.workers;
  life = WentOn l.life p;
  legal = (
    l.legal,
    subst (λ (m : State Blank). IsLegalFrom measures_any is_any_image m p) (sym l.leads) led.0,
  );
  leads = ap (λ (m : State Blank). state_from m p) l.leads ∙ led.1;
  taken = l.taken;
}

-- the clock goes on
life_gone : (terms : Terms) (last gone : ScheduleValue) (taken : List (StreamState Blank)) → IsGone last gone
    → IsLife terms last taken → IsLife terms gone taken
life_gone terms last gone taken (inl e) l = subst (λ (x : ScheduleValue). IsLife terms x taken) (sym e) l
life_gone terms last gone taken (inr g) l =
    subst (λ (x : ScheduleValue). IsLife terms x taken) (sym g.2)
    (life_led terms last (at_moment g.0 last) taken (ticked last.clock g.0) (moment_led last g.0 g.1) l)

-- the released streams are taken out
life_retired : (terms : Terms) (last : ScheduleValue) (taken : List (StreamState Blank)) → AreFree last.workers
    → IsLife terms last taken → IsLife terms (retired_schedule last) (taken ++ released (desk_state last))
life_retired terms last taken free l = record {
  setup = l.setup;
  is_setup = l.is_setup;
  workers = l.workers;
  life = Retired l.life;
  legal = (l.legal, subst (λ (m : State Blank). AreFree m.workers) (sym l.leads) free);
  leads = ap retired l.leads ∙ sym (retired_state bare_frames last);
  taken = ap (λ (xs : List (StreamState Blank)). xs ++ released (state_in l.setup l.life)) l.taken
      ∙ ap (λ (m : State Blank). taken ++ released m) l.leads;
}

-- an epoch goes on, until it is left
life_on : (terms : Terms) (epoch : EpochValue) (taken : List (StreamState Blank)) → IsEpochBy terms epoch
    → IsLife terms epoch.opening taken → IsLife terms epoch.gone taken
life_on terms epoch taken is l =
    life_gone terms epoch.last epoch.gone taken is.goes_on
    (life_led terms epoch.opening epoch.last taken
    (transcript_of (specs_of epoch.last) (desk_state epoch.opening) epoch.journal) is.leads.leads l)

life_of : (terms : Terms) (before : List EpochValue) (opening : ScheduleValue)
    (taken : List (StreamState Blank)) → AreEpochsBy terms before → WereTakenOut terms before opening taken → IsLife terms opening taken
life_of terms [] opening taken are t = life_anew terms [] opening taken t
life_of terms (epoch ∷ before) opening taken are (inl t) = life_anew terms (epoch ∷ before) opening taken t
life_of terms (epoch ∷ before) opening taken are (inr (inl t)) =
    subst (λ (x : ScheduleValue). IsLife terms x taken) (sym t.0)
    (life_on terms epoch taken are.0 (life_of terms before epoch.opening taken are.2 t.1))
life_of terms (epoch ∷ before) opening taken are (inr (inr t)) =
    let earlier = t.1.0 in
    let free = subst AreFree (sym (workers_gone epoch.last epoch.gone are.0.goes_on)) are.0.free in
    subst (IsLife terms opening) (sym t.1.2)
    (subst (λ (x : ScheduleValue). IsLife terms x (earlier ++ released (desk_state epoch.gone))) (sym t.0)
    (life_retired terms epoch.gone earlier free
    (life_on terms epoch earlier are.0 (life_of terms before epoch.opening earlier are.2 t.1.1))))

taken_behind : (terms : Terms) (before : List EpochValue) (opening : ScheduleValue) → AreEpochsBy terms before
    → OpensBehind terms before opening
    → (taken : List (StreamState Blank)) × WereTakenOut terms before opening taken
taken_behind terms [] opening are (inl o) = ([], (o, refl))
taken_behind terms [] opening are (inr left) = absurd left
taken_behind terms (epoch ∷ before) opening are (inl o) = ([], inl (o, refl))
taken_behind terms (epoch ∷ before) opening are (inr (on, inl e)) =
    let t = taken_behind terms before epoch.opening are.2 are.1 in (t.0, inr (inl (e, t.1)))
taken_behind terms (epoch ∷ before) opening are (inr (on, inr e)) =
    let t = taken_behind terms before epoch.opening are.2 are.1 in
    (t.0 ++ released (desk_state epoch.gone), inr (inr (e, (t.0, t.1, refl))))

pub taken_out_is : TakenOutLaw
taken_out_is terms epoch before are = taken_behind terms before epoch.opening are.2 are.1

pub hub_demand_is : LifeDemandLaw measures_any is_any_image → HubDemandLaw
hub_demand_is law terms epoch before out later earlier d are taken e =
    let l = life_of terms before epoch.opening out are.2 taken in
    let p = transcript_of (specs_of epoch.last) (desk_state epoch.opening) earlier in
    let legal = subst (λ (m : State Blank). IsLegalFrom measures_any is_any_image m p) (sym l.leads)
    (legal_behind terms epoch are.0 later earlier e) in
    let whole = law l.setup (WentOn l.life p) d l.is_setup (l.legal, legal) in
    subst (λ (w : ℕ). demand d (out ++ (state_behind epoch earlier).streams) ≤ d * w) l.workers
    (subst (λ (m : State Blank). demand d (out ++ (state_from m p).streams) ≤ d * l.setup.workers) l.leads
    (subst (λ (xs : List (StreamState Blank)).
    demand d (xs ++ (state_from (state_in l.setup l.life) p).streams) ≤ d * l.setup.workers) l.taken whole))

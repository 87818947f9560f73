-- The jobs of a stream, one more, and the blanks that stand for its frames.
use Rattle.std.proofs.Common.{ℕ, ◌≡◌, ◌<◌, arith, Bool, true, false, List, [], ◌∷◌, ◌++◌}
use Rattle.std.proofs.Common.{Option, Some, None, drop, slice_get, IsSome, refl, sym, ◌∙◌, ap}
use Rattle.std.proofs.Common.{subst}
use Rattle.std.proofs.lemmas.Option.{get_or_from_slice_get}
use Rattle.std.specs.Arc.{arc_value}
use Rattle.std.specs.List.{AllByRecursion}
use Rattle.row_bands.specs.declared.canvas.Canvas.{Canvas}
use Rattle.filters.specs.Chain.{ChainValue}
use Rattle.filters.specs.Steps.{steps_of}
use Rattle.lease.specs.Canvases.{IsScratch}
use Rattle.lease.specs.Job.{JobValue}
use Rattle.serve_core.specs.declared.collected.Collected.{Collected}
use Rattle.serve_core.specs.Grants.{cost_of_band}
use Rattle.serve_core.specs.Setup.{StreamSpec, steps}
use Rattle.serve_core.specs.Sound.{out_count}
use Rattle.serve_core.specs.Streams.{AreHere, AreWaiting, GainsImage, IsFresh, IsLeased, IsStarted, IsWithOne}
use Rattle.serve_core.proofs.Bands.Costs.{steps_are}

pub one_more : {X : Type 0} (P : X → Type 0) (xs : List X) (x : X) → AllByRecursion P xs → P x
    → AllByRecursion P (xs ++ x ∷ [])
one_more P [] x h new = (new, tt)
one_more P (y ∷ xs) x h new = (h.0, one_more P xs x h.1 new)

pub fewer : {X : Type 0} (P : X → Type 0) (xs : List X) → AllByRecursion P xs → AllByRecursion P (drop 1 xs)
fewer P [] h = tt
fewer P (x ∷ xs) h = h.1

pub first_of : {X : Type 0} (P : X → Type 0) (xs : List X) (x : X) → AllByRecursion P xs
    → slice_get xs 0 ≡ Some x
    → P x
first_of P [] x h e = absurd (cc)
first_of P (y ∷ xs) x h e = subst P (let same : y ≡ x = cc in same) h.0

-- one fresh job more
pub here_more : (out : Bool) (chain : ChainValue) (done : ℕ) (scratch : Option (List Canvas)) (job : JobValue)
    (jobs : List JobValue) → AreHere out chain done scratch jobs → IsFresh chain job
    → AreHere out chain done scratch (jobs ++ job ∷ [])
here_more true chain done scratch job jobs h new = (h.0, one_more (IsFresh chain) jobs job h.1 new)
here_more false chain done scratch job [] h new =
    (new.of_chain, new.done ∙ sym h.0, subst (IsWithOne chain scratch) (sym new.waits) h.1, tt)
here_more false chain done scratch job (first ∷ jobs) h new =
    (h.0, h.1, h.2, one_more (IsFresh chain) jobs job h.3 new)

-- who has the scratch
pub own_waits : (chain : ChainValue) (canvases : List Canvas) (o : Option (List Canvas))
    → IsWithOne chain (Some canvases) o → o ≡ None
own_waits chain canvases None h = refl
own_waits chain canvases (Some other) h = absurd h

pub own_fits : (chain : ChainValue) (canvases : List Canvas) (o : Option (List Canvas))
    → IsWithOne chain (Some canvases) o → IsScratch chain canvases
own_fits chain canvases None h = h
own_fits chain canvases (Some other) h = absurd h

pub own_started : (chain : ChainValue) (o : Option (List Canvas)) → IsWithOne chain None o → IsSome o
own_started chain None h = absurd h
own_started chain (Some canvases) h = refl

-- the front job, where none is out
pub front_here : (out : Bool) (chain : ChainValue) (done : ℕ) (scratch : Option (List Canvas))
    (job : JobValue)
    (jobs rest : List JobValue) → AreHere out chain done scratch jobs → out ≡ false → jobs ≡ job ∷ rest
    → AreWaiting chain done scratch (job ∷ rest)
front_here true chain done scratch job jobs rest h o e = absurd (cc)
front_here false chain done scratch job jobs rest h o e = subst (AreWaiting chain done scratch) e h

pub one_out : (o : Option ℕ) → IsSome o → out_count o ≡ 1
one_out None h = absurd (cc)
one_out (Some w) h = refl

-- a job whose steps are all done
pub all_done : (spec : StreamSpec) (done : ℕ) (job : JobValue) → IsStarted spec.chain done job
    → done ≡ steps spec
    → job.done ≡ steps_of job.chain
all_done spec done job own e =
    own.steps ∙ e ∙ steps_are spec.chain ∙ ap (λ (chain : ChainValue). steps_of chain) (sym own.of_chain)

pub gains : (job : JobValue) (old new : List Collected) (pair : Collected)
    → arc_value pair.source ≡ job.source
    → new ≡ old ++ pair ∷ [] → GainsImage job old new
gains job old new pair s e = record { pair = pair; source = s; behind = e }

-- nothing is lent where no job is out
pub none_lent : (out : Bool) (chain : ChainValue) (done : ℕ) (leased : Option JobValue)
    → IsLeased out chain done leased → out ≡ false → leased ≡ None
none_lent out chain done None h e = refl
none_lent out chain done (Some job) h e = absurd (let no : true ≡ false = sym h.0 ∙ e in cc)

-- a job that lacks a step
own_left : (spec : StreamSpec) (done : ℕ) (job : JobValue) → IsStarted spec.chain done job → done < steps spec
    → job.done < steps_of job.chain
own_left spec done job own l =
    let all : steps_of job.chain ≡ steps spec =
    ap (λ (chain : ChainValue). steps_of chain) own.of_chain ∙ sym (steps_are spec.chain) in
    omega (arith, all, own.steps)

pub lent_left : (out : Bool) (spec : StreamSpec) (done : ℕ) (leased : Option JobValue) (job : JobValue)
    → IsLeased out spec.chain done leased → leased ≡ Some job → done < steps spec → job.done < steps_of job.chain
lent_left out spec done None job h e l = absurd (cc)
lent_left out spec done (Some lent) job h e l =
    let same : lent ≡ job = cc in
    own_left spec done job (subst (IsStarted spec.chain done) same h.1) l

-- what the next band costs
pub band_cost : (costs : List ℕ) (k c : ℕ) → slice_get costs k ≡ Some c → c ≡ cost_of_band k costs
band_cost costs k c e = sym (get_or_from_slice_get costs k c 0 e)

-- what a finished frame asks
pub ruleset finishing = (one_out, all_done, one_more)

-- who has the scratch
pub ruleset with_scratch = (own_waits, own_fits, own_started)

-- A machine's life: the tenures of all the streams that there ever were fit on its workers.
use Rattle.std.proofs.Common.{ℕ, suc, ◌+◌, ◌-◌, ◌*◌, ◌≡◌, ◌≤◌, inl, inr, Bool, not, refl, sym, ◌∙◌, ap}
use Rattle.std.proofs.Common.{subst, arith, List, [], ◌∷◌, ◌++◌, filter, length, map, replicate, sum_by}
use Rattle.std.proofs.Common.{nat_le, Option, Some, slice_get, le_refl, le_trans, mul-le-mul_left}
use Rattle.std.proofs.lemmas.List.{length-replicate, map-append}
use Rattle.std.proofs.lemmas.List.Elements.{filter-append}
use Rattle.std.proofs.lemmas.List.Sums.{sum_by-append, sum_by_push}
use Rattle.std.proofs.lemmas.Option.{slice_get-map}
use Rattle.std.specs.Option.{option_map}
use Rattle.cbs_account.specs.Admission.{share}
use Rattle.serve_core.specs.Counts.{Deed, clock_after, deed, held, held_after}
use Rattle.serve_core.specs.Events.{Admit, Admitted, Event, Reply, Start, Then, Transcript}
use Rattle.serve_core.specs.Laws.{WholeDemandLaw, demand}
use Rattle.serve_core.specs.Leads.{IsLegalFrom, opening_state, state_from}
use Rattle.serve_core.specs.Life.{IsLegalLife, Life, LifeDemandLaw, Opened, Retired, WentOn, released}
use Rattle.serve_core.specs.Life.{state_in, taken_out}
use Rattle.serve_core.specs.Released.{held_share, is_released, unreleased}
use Rattle.serve_core.specs.Rules.{Allows}
use Rattle.serve_core.specs.Setup.{IsSetup, Setup, StreamSpec}
use Rattle.serve_core.specs.Sound.{IsSound, Sound}
use Rattle.serve_core.specs.States.{State, StreamState, after, did_any, held_at, map_at, new_stream}
use Rattle.serve_core.specs.States.{stream_of}
use Rattle.serve_core.proofs.Charges.Tenures.{IsTenant, Tenant, demand_covered, le_or, stream_in, tenant_did}
use Rattle.serve_core.proofs.Charges.Tenures.{tenant_on, tenure, tenure_behind, tenure_later, tenure_less}
use Rattle.serve_core.proofs.Charges.Tenures.{tenure_more, tenure_opened, tenure_over}
use Rattle.serve_core.proofs.Events.Changes.{after_admit}
use Rattle.serve_core.proofs.Events.Kept.{opening_sound, rises}
use Rattle.serve_core.proofs.Events.Releases.{fits_opening}
use Rattle.serve_core.proofs.Events.Soundness.{can}
use Rattle.serve_core.proofs.Items.Lists.{get_map_at, length_map_at, push_or}
use Rattle.serve_core.proofs.Items.Sums.{sum_changed, sum_grown, sum_less, sum_mapped, sum_none, sum_parted}
use Rattle.serve_core.proofs.Rules.Bares.{get_map}
use Rattle.serve_core.proofs.Schedules.Retiring.{filter_from, filter_mapped, sound_retired}
use Rattle.serve_core.proofs.Transcripts.Openings.{from_opening, legal_sound, opening_is}

zero_off : (d : ℕ) → d - 0 ≡ d
zero_off d = omega arith

module _ {F : Type 0} where
  -- at the moment t these streams are there, and those were taken out before. Their tenures fit on w workers
  pub record IsCovered (t : ℕ) (streams gone : List (StreamState F)) (w : ℕ) : Type 0 where
    pub tenants : List (Tenant F)
    pub are : map stream_in tenants ≡ streams
    pub each : (s : ℕ) (y : Tenant F) → slice_get tenants s ≡ Some y → IsTenant t y
    -- the tenures up to a moment of those that were taken out: they are over
    pub past : ℕ → ℕ
    pub over : (d e : ℕ) → t ≤ d → past e ≤ past d
    pub charged : (d : ℕ) → demand d gone * 1000000 ≤ past d
    pub fit : (d : ℕ) → sum_by (tenure t d) tenants + past d ≤ d * (1000000 * w)

  demand_both : (d : ℕ) (xs ys : List (StreamState F)) → demand d (xs ++ ys) ≡ demand d xs + demand d ys
  demand_both d xs ys =
      let due = λ (x : StreamState F). nat_le x.account.deadline d in
      ap (sum_by (λ (x : StreamState F). x.charged)) (filter-append due xs ys)
      ∙ sum_by-append (λ (x : StreamState F). x.charged) (filter due xs) (filter due ys)

  tenant_at : (ys : List (Tenant F)) (xs : List (StreamState F)) (s : ℕ) (y : Tenant F)
      → map stream_in ys ≡ xs → slice_get ys s ≡ Some y → slice_get xs s ≡ Some y.stream
  tenant_at ys xs s y are e =
      subst (λ (zs : List (StreamState F)). slice_get zs s ≡ Some y.stream) are
      (slice_get-map stream_in ys s ∙ ap (option_map stream_in) e)

  -- so what was charged of all of them, and is due, fits
  all_fit : (t d w : ℕ) (xs gone : List (StreamState F))
      → ((s : ℕ) (x : StreamState F) → slice_get xs s ≡ Some x → IsSound t x) → IsCovered t xs gone w
      → demand d (gone ++ xs) ≤ d * w
  all_fit t d w xs gone sound c =
      let here = demand_covered t d c.tenants
      (λ s y e. (sound s y.stream (tenant_at c.tenants xs s y c.are e), c.each s y e)) in
      let same = ap (demand d) c.are in
      let both = demand_both d gone xs in
      let past = c.charged d in
      let fit = c.fit d in
      omega (arith, here, same, both, past, fit)

  shares_held : (t : ℕ) (ys : List (Tenant F)) (xs : List (StreamState F)) → map stream_in ys ≡ xs
      → sum_by (λ (y : Tenant F). held_share t y.stream) ys ≡ sum_by (held_share t) xs
  shares_held t ys xs are = sym (sum_mapped (held_share t) stream_in ys) ∙ ap (sum_by (held_share t)) are

  tenures_later : (t d : ℕ) (ys : List (Tenant F)) → t ≤ d
      → ((s : ℕ) (y : Tenant F) → slice_get ys s ≡ Some y → IsTenant t y)
      → sum_by (tenure t d) ys ≤ sum_by (tenure t t) ys + (d - t) * sum_by (λ y. held_share t y.stream) ys
  tenures_later t d ys l each =
      sum_grown (tenure t d) (tenure t t) (λ y. held_share t y.stream) (d - t) ys
      (λ s y e. tenure_later t d y l (each s y e).came)

  -- one stream more, whose share is free
  covered_more : (t w : ℕ) (spec : StreamSpec) (xs gone : List (StreamState F))
      → sum_by (held_share t) xs + share spec.maximum spec.period ≤ 1000000 * w → IsCovered t xs gone w
      → IsCovered t (xs ++ new_stream spec ∷ []) gone w
  covered_more t w spec xs gone free c =
      let new : Tenant F = record { stream = new_stream spec; since = t } in
      let k = share spec.maximum spec.period in
      let held = shares_held t c.tenants xs c.are in
      record {
        tenants = c.tenants ++ new ∷ [];
        are = map-append stream_in c.tenants (new ∷ [])
            ∙ ap (λ (zs : List (StreamState F)). zs ++ new_stream spec ∷ []) c.are;
        each = λ s y e. elim (push_or c.tenants new s y e) [
          | inl old ↦ c.each s y old
          | inr last ↦ subst (IsTenant t) (sym last.1)
              (record { came = le_refl t; paid = λ some. absurd (omega (arith, some)) })
        ];
        past = c.past;
        over = c.over;
        charged = c.charged;
        fit = λ d.
            let last : sum_by (tenure t d) (c.tenants ++ new ∷ [])
            ≡ sum_by (tenure t d) c.tenants + k * (d - t) =
            sum_by_push (tenure t d) c.tenants new in
            let before = c.fit d in
            let now = c.fit t in
            let all : sum_by (tenure t d) c.tenants + c.past d + k * (d - t) ≤ d * (1000000 * w) =
            elim (le_or t d) [
              | inl late ↦
                  let later = tenures_later t d c.tenants late c.each in
                  let over = c.over t d (le_refl t) in
                  let same : (d - t) * sum_by (λ (y : Tenant F). held_share t y.stream) c.tenants
                  ≡ (d - t) * sum_by (held_share t) xs = ap (λ (n : ℕ). (d - t) * n) held in
                  tenure_more t d (sum_by (tenure t t) c.tenants + c.past t) (sum_by (held_share t) xs) k
                  (1000000 * w) (sum_by (tenure t d) c.tenants + c.past d) late
                  (omega (arith, later, over, same)) now free
              | inr early ↦ tenure_behind t d k (1000000 * w) (sum_by (tenure t d) c.tenants + c.past d)
                  early before
            ] in
            omega (arith, last, all);
      }

  did_at : (o : ℕ → Option (Deed F)) (i : ℕ) (ys : List (Tenant F))
      → map stream_in (map_at i (λ s y. tenant_did y (o s)) ys)
      ≡ map_at i (λ s x. did_any x (o s)) (map stream_in ys)
  did_at o i [] = refl
  did_at o i (y ∷ ys) = ap (λ (zs : List (StreamState F)). did_any y.stream (o i) ∷ zs) (did_at o (suc i) ys)

  -- those that are released go, with what they held
  covered_retired : (m : State F) (gone : List (StreamState F)) (w : ℕ) → Sound m
      → IsCovered m.clock m.streams gone w → IsCovered m.clock (unreleased m) (gone ++ released m) w
  covered_retired m gone w h c =
      let t = m.clock in
      let test = λ (y : Tenant F). is_released t y.stream in
      let stay = filter (λ y. not (test y)) c.tenants in
      let go = filter test c.tenants in
      let left : map stream_in go ≡ released m =
      sym (filter_mapped stream_in (is_released t) c.tenants) ∙ ap (filter (is_released t)) c.are in
      record {
        tenants = stay;
        are = sym (filter_mapped stream_in (λ x. not (is_released t x)) c.tenants)
            ∙ ap (filter (λ x. not (is_released t x))) c.are;
        each = λ s y e. let old = filter_from (λ y. not (test y)) c.tenants s y e in c.each old.0 y old.1;
        past = λ d. c.past d + sum_by (tenure t d) go;
        over = λ d e l.
            let before = c.over d e l in
            let less = sum_less (tenure t e) (tenure t d) go
            (λ s y k. tenure_over t d e y l (filter_from test c.tenants s y k).2) in
            omega (arith, before, less);
        charged = λ d.
            let before = c.charged d in
            let both = demand_both d gone (released m) in
            let same = ap (demand d) left in
            let more = demand_covered t d go (λ s y e.
            let old = filter_from test c.tenants s y e in
            let here = tenant_at c.tenants m.streams old.0 y c.are old.1 in
            (h.streams old.0 y.stream here, c.each old.0 y old.1)) in
            omega (arith, before, both, same, more);
        fit = λ d.
            let before = c.fit d in
            let parts = sum_parted (tenure t d) test c.tenants in
            omega (arith, before, parts);
      }

  abbrev first_tenant : StreamState F → Tenant F
  first_tenant x = record { stream = x; since = 0 }

  opened_are : (xs : List (StreamState F)) → map stream_in (map first_tenant xs) ≡ xs
  opened_are [] = refl
  opened_are (x ∷ xs) = ap (λ (zs : List (StreamState F)). x ∷ zs) (opened_are xs)

  -- new streams whose shares fit, at the first moment
  covered_opened : (w : ℕ) (xs : List (StreamState F))
      → ((s : ℕ) (x : StreamState F) → slice_get xs s ≡ Some x → x.accepted ≡ 0)
      → sum_by (held_share 0) xs ≤ 1000000 * w → IsCovered 0 xs [] w
  covered_opened w xs new fits =
      let ys = map first_tenant xs in
      let each : (s : ℕ) (y : Tenant F) → slice_get ys s ≡ Some y → IsTenant 0 y = λ s y e.
      let from = get_map first_tenant xs s y e in
      let none = new s from.0 from.1 in
      subst (IsTenant 0) (sym from.2)
      (record { came = le_refl 0; paid = λ some. absurd (omega (arith, some, none)) }) in
      record {
        tenants = ys;
        are = opened_are xs;
        each = each;
        past = λ d. 0;
        over = λ d e l. le_refl 0;
        charged = λ d. le_refl 0;
        fit = λ d.
            let grown = sum_grown (tenure 0 d) (λ y. 0) (λ y. held_share 0 y.stream) (d - 0) ys
            (λ s y e. le_trans (tenure_later 0 d y (omega arith) (each s y e).came)
            (let none = tenure_opened y in omega (arith, none))) in
            let none = sum_none ys in
            let held = shares_held 0 ys xs (opened_are xs) in
            let all : d * sum_by (held_share 0) xs ≤ d * (1000000 * w) = mul-le-mul_left d fits in
            let whole : (d - 0) * sum_by (λ (y : Tenant F). held_share 0 y.stream) ys
            ≡ d * sum_by (held_share 0) xs =
            rw (zero_off d, held) refl in
            omega (arith, grown, none, all, whole);
      }

module _ {F G : Type 0} (measures : StreamSpec → F → Bool → Type 0)
    (is_image : StreamSpec → F → G → Type 0) where
  -- an event that admits no stream
  covered_on : (m : State F) (e : Event F) (r : Reply F G) (gone : List (StreamState F)) (w : ℕ) → Sound m
      → Allows measures is_image m e r → IsCovered m.clock m.streams gone w
      → IsCovered (clock_after m.clock e r)
      (map_at 0 (λ s x. did_any x (deed s m.clock (held_at m.workers) e r)) m.streams) gone w
  covered_on m e r gone w h a c =
      let t = clock_after m.clock e r in
      let o = λ (s : ℕ). deed s m.clock (held_at m.workers) e r in
      let later = (rises measures is_image m e r h.clock a).0 in
      let at = λ (s : ℕ) (y : Tenant F) (k : slice_get c.tenants s ≡ Some y).
      tenant_at c.tenants m.streams s y c.are k in
      record {
        tenants = map_at 0 (λ s y. tenant_did y (o s)) c.tenants;
        are = did_at o 0 c.tenants ∙ ap (map_at 0 (λ s x. did_any x (o s))) c.are;
        each = λ s z k.
            let g = get_map_at (λ s y. tenant_did y (o s)) s c.tenants z k in
            let y = g.0 in
            subst (IsTenant t) (sym g.2)
            (tenant_on m.clock t y (o s) later (h.streams s y.stream (at s y g.1))
            (can measures is_image m e r s y.stream h a (at s y g.1)) (c.each s y g.1));
        past = c.past;
        over = λ d e l. c.over d e (le_trans later l);
        charged = c.charged;
        fit = λ d.
            let less = sum_changed (tenure m.clock d) (tenure t d) (λ s y. tenant_did y (o s)) 0 c.tenants
            (λ s y k.
            let same : s ≡ s + 0 = omega arith in
            subst (λ (n : ℕ). tenure t d (tenant_did y (o n)) ≤ tenure m.clock d y) same
            (tenure_less m.clock t d y (o s) later (h.streams s y.stream (at s y k))
            (can measures is_image m e r s y.stream h a (at s y k)))) in
            let before = c.fit d in
            omega (arith, less, before);
      }

  abbrev Covers : State F → List (StreamState F) → ℕ → Type 0
  Covers m gone w = (length m.workers ≡ w) × IsCovered m.clock m.streams gone w

  covered_step : (m : State F) (e : Event F) (r : Reply F G) (gone : List (StreamState F)) (w : ℕ) → Sound m
      → Allows measures is_image m e r → Covers m gone w
      → IsCovered (after m e r).clock (after m e r).streams gone w
  covered_step m (Admit spec) (Admitted n) gone w h a c =
      let free : sum_by (held_share m.clock) m.streams + share spec.maximum spec.period ≤ 1000000 * w =
      subst (λ (v : ℕ). sum_by (held_share m.clock) m.streams + share spec.maximum spec.period ≤ 1000000 * v)
      c.0 a.0.fits in
      subst (λ (n : State F). IsCovered n.clock n.streams gone w) (after_admit G m spec n)
      (covered_more m.clock w spec m.streams gone free c.1)
  covered_step m e r gone w h a c = covered_on m e r gone w h a c.1

  covered_behind : (m : State F) (p : Transcript F G) (gone : List (StreamState F)) (w : ℕ) → Sound m
      → IsLegalFrom measures is_image m p → Covers m gone w → Covers (state_from m p) gone w
  covered_behind m Start gone w h l c = c
  covered_behind m (Then p e r) gone w h l c =
      let n = state_from m p in
      let before = covered_behind m p gone w h l.0 c in (
        length_map_at (λ w h. held_after w h e r) 0 n.workers ∙ before.0,
        covered_step n e r gone w (legal_sound measures is_image m p h l.0) l.1 before,
      )

  -- a state is sound, and covered
  abbrev IsKept : State F → List (StreamState F) → ℕ → Type 0
  IsKept m gone w = Sound m × Covers m gone w

  kept_opened : (setup : Setup) → IsSetup setup → IsKept (opening_state F G setup) [] setup.workers
  kept_opened setup is =
      let m = opening_state F G setup in
      let none : Transcript F G = Start in
      let workers : length m.workers ≡ setup.workers =
      length_map_at {X = ℕ} (λ w zero. held w none) 0 (replicate setup.workers 0)
      ∙ length-replicate setup.workers 0 in
      let fits : sum_by (held_share 0) m.streams ≤ 1000000 * setup.workers =
      subst (λ (w : ℕ). sum_by (held_share 0) m.streams ≤ 1000000 * w) workers
      (fits_opening measures is_image setup is.1) in (
        opening_sound measures is_image setup is.0,
        (
          workers,
          covered_opened setup.workers m.streams
              (λ s x e.
              let from = get_map_at (λ s spec. stream_of {F = F} spec []) s setup.streams x e in
              ap (λ (z : StreamState F). z.accepted) from.2)
              fits,
        ),
      )

  life_kept : (setup : Setup) (life : Life F G) → IsSetup setup → IsLegalLife measures is_image setup life
      → IsKept (state_in setup life) (taken_out setup life) setup.workers
  life_kept setup Opened is l = kept_opened setup is
  life_kept setup (WentOn before p) is l =
      let m = state_in setup before in
      let kept = life_kept setup before is l.0 in (
        legal_sound measures is_image m p kept.0 l.1,
        covered_behind m p (taken_out setup before) setup.workers kept.0 l.1 kept.1,
      )
  life_kept setup (Retired before) is l =
      let m = state_in setup before in
      let kept = life_kept setup before is l.0 in (
        sound_retired m kept.0 l.1,
        (kept.1.0, covered_retired m (taken_out setup before) setup.workers kept.0 kept.1.1),
      )

  pub life_demand_is : LifeDemandLaw measures is_image
  life_demand_is setup life d is l =
      let m = state_in setup life in
      let kept = life_kept setup life is l in
      all_fit m.clock d setup.workers m.streams (taken_out setup life) kept.0.streams kept.1.1

  -- a transcript is a life
  pub whole_demand_is : WholeDemandLaw measures is_image
  whole_demand_is setup p d v f l =
      subst (λ (m : State F). demand d m.streams ≤ d * setup.workers) (sym (from_opening setup p))
      (life_demand_is setup (WentOn Opened p) d (v, f) (tt, (opening_is measures is_image setup p).1.0 l))

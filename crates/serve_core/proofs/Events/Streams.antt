-- Each deed that can be keeps a stream sound.
use Rattle.std.proofs.Common.{ℕ, ◌+◌, ◌*◌, ◌≡◌, ◌≢◌, ◌≤◌, ◌<◌, ◌⊎◌, inl, inr, true, false, nat_eq}
use Rattle.std.proofs.Common.{if◌then◌else◌, refl, sym, ◌∙◌, ap, subst, arith, [], Option, Some, None}
use Rattle.std.proofs.Common.{length-drop}
use Rattle.std.proofs.lemmas.Bool.Decides.{nat_tests}
use Rattle.std.proofs.lemmas.List.{length_push}
use Rattle.cbs_account.specs.Rules.{after_idle}
use Rattle.serve_core.specs.Counts.{Back, Came, Deed, Ended, Lent, Shut, Taken, Worked}
use Rattle.serve_core.specs.Grants.{cost_of_first}
use Rattle.serve_core.specs.Setup.{HasBandwidth, IsWithinLimits, StreamSpec, cost, costs, steps}
use Rattle.serve_core.specs.Sound.{IsPaid, IsSound, out_count}
use Rattle.serve_core.specs.States.{StreamState, did, did_any, next_cost, stream_of}
use Rattle.serve_core.proofs.Bands.Costs.{cost_more, cost_all}
use Rattle.serve_core.proofs.Charges.Accounts.{paid_opened, paid_later, units_paid, paid_kept, paid_arrived}
use Rattle.serve_core.proofs.Events.Readiness.{IsReady}

pub same_or : (a b : ℕ) → ((a ≡ b) × (nat_eq a b ≡ true)) ⊎ ((a ≢ b) × (nat_eq a b ≡ false))
same_or a b = grind (arith, nat_tests)

-- a frame that is finished cost all that its bands cost
ended_charge : (f d : ℕ) (spec : StreamSpec) (c : ℕ) → d ≡ steps spec
    → c ≡ f * cost spec + cost_of_first d (costs spec)
    → c ≡ (f + 1) * cost spec + cost_of_first 0 (costs spec)
ended_charge f d spec c e h =
    let all : cost_of_first d (costs spec) ≡ cost spec = rw e (cost_all (costs spec)) in
    omega (arith, h, all)

module _ {F : Type 0} where
  -- what a deed takes
  abbrev pub Can : ℕ → StreamState F → Deed F → Type 0
  Can t x (Came r f) = (r ≡ t) × (x.is_closed ≡ false) × (x.accepted ≢ x.spec.frames)
      × (x.accepted < x.finished + x.spec.queue)
  Can t x Worked = (out_count x.holder ≡ 1) × (x.done < steps x.spec)
  Can t x (Lent w) = IsReady x
  Can t x Back = (out_count x.holder ≡ 1) × (x.done < steps x.spec)
  Can t x Ended = (out_count x.holder ≡ 1) × (x.done ≡ steps x.spec)
  Can t x Shut = Unit {0}
  Can t x Taken = x.collected < x.finished

  abbrev pub CanAny : ℕ → StreamState F → Option (Deed F) → Type 0
  CanAny t x None = Unit {0}
  CanAny t x (Some d) = Can t x d

  pub opened_sound : (spec : StreamSpec) → IsWithinLimits spec → HasBandwidth spec
      → IsSound 0 (stream_of {F = F} spec [])
  opened_sound spec k v = record {
    limits = k;
    bandwidth = v;
    account = paid_opened spec v;
    charged = omega arith;
    done = omega arith;
    rest = λ _. omega (arith, k.some_steps);
    idle = λ _. refl;
    in_order = omega arith;
    finished = omega arith;
    outbox = omega arith;
    queue = omega arith;
    limit = omega arith;
    frames = refl;
  }

  pub later_sound : (t u : ℕ) (x : StreamState F) → t ≤ u → IsSound t x → IsSound u x
  later_sound t u x l h = record {
    limits = h.limits;
    bandwidth = h.bandwidth;
    account = paid_later x.spec t u x.accepted x.charged x.account l h.account;
    charged = h.charged;
    done = h.done;
    rest = h.rest;
    idle = h.idle;
    in_order = h.in_order;
    finished = h.finished;
    outbox = h.outbox;
    queue = h.queue;
    limit = h.limit;
    frames = h.frames;
  }

  came_paid : (t : ℕ) (x : StreamState F) → IsSound t x
      → IsPaid x.spec t (x.accepted + 1) x.charged
      (if nat_eq x.accepted x.finished then after_idle t x.account else x.account)
  came_paid t x h =
      elim (same_or x.accepted x.finished) [
        | inl p ↦ rw p.1 (paid_arrived x.spec t x.accepted x.charged x.account h.bandwidth
            (λ z. let n : x.finished ≡ 0 = omega arith in let d : x.done ≡ 0 = h.idle (sym p.0) in h.charged
            ∙ rw (n, d) (omega arith)) h.account)
        | inr p ↦ rw p.1 (paid_kept x.spec t x.accepted x.charged x.account
            (omega (arith, h.finished)) h.account)
      ]

  pub did_sound : (t : ℕ) (x : StreamState F) (d : Deed F) → IsSound t x → Can t x d → IsSound t (did x d)
  did_sound t x (Came r f) h c =
      record {
        limits = h.limits;
        bandwidth = h.bandwidth;
        account = subst (λ (m : ℕ). IsPaid x.spec t (x.accepted + 1) x.charged
            (if nat_eq x.accepted x.finished then after_idle m x.account else x.account)) (sym c.0)
            (came_paid t x h);
        charged = h.charged;
        done = h.done;
        rest = h.rest;
        idle = λ e. absurd (omega (arith, h.finished));
        in_order = h.in_order;
        finished = omega (arith, h.finished);
        outbox = h.outbox;
        queue = omega (arith, c.3);
        limit = omega (arith, c.2, h.limit);
        frames = omega (arith, length_push x.frames f, h.frames);
      }
  did_sound t x Worked h c =
      record {
        limits = h.limits;
        bandwidth = h.bandwidth;
        account = units_paid x.spec t x.accepted x.charged (next_cost x) x.account h.bandwidth
            (omega (arith, h.finished, c.0)) h.account;
        charged = omega (arith, h.charged, cost_more x.done (costs x.spec) c.1);
        done = omega (arith, c.1);
        rest = λ e. absurd (let z : out_count x.holder ≡ 0 = ap out_count e in omega (arith, c.0, z));
        idle = λ e. absurd (omega (arith, h.finished, c.0));
        in_order = h.in_order;
        finished = h.finished;
        outbox = h.outbox;
        queue = h.queue;
        limit = h.limit;
        frames = h.frames;
      }
  did_sound t x (Lent w) h c =
      record {
        limits = h.limits;
        bandwidth = h.bandwidth;
        account = h.account;
        charged = h.charged;
        done = h.done;
        rest = λ e. absurd (cc);
        idle = h.idle;
        in_order = h.in_order;
        finished = omega (arith, c.0);
        outbox = omega (arith, c.2);
        queue = h.queue;
        limit = h.limit;
        frames = h.frames;
      }
  did_sound t x Back h c =
      record {
        limits = h.limits;
        bandwidth = h.bandwidth;
        account = h.account;
        charged = h.charged;
        done = h.done;
        rest = λ e. c.1;
        idle = h.idle;
        in_order = h.in_order;
        finished = omega (arith, h.finished);
        outbox = omega (arith, h.outbox);
        queue = h.queue;
        limit = h.limit;
        frames = h.frames;
      }
  did_sound t x Ended h c =
      record {
        limits = h.limits;
        bandwidth = h.bandwidth;
        account = h.account;
        charged = ended_charge x.finished x.done x.spec x.charged c.1 h.charged;
        done = omega arith;
        rest = λ e. omega (arith, h.limits.some_steps);
        idle = λ e. refl;
        in_order = omega (arith, h.in_order);
        finished = omega (arith, h.finished, c.0);
        outbox = omega (arith, h.outbox, c.0);
        queue = omega (arith, h.queue);
        limit = h.limit;
        frames = h.frames;
      }
  did_sound t x Shut h c =
      record {
        limits = h.limits;
        bandwidth = h.bandwidth;
        account = h.account;
        charged = h.charged;
        done = h.done;
        rest = h.rest;
        idle = h.idle;
        in_order = h.in_order;
        finished = h.finished;
        outbox = h.outbox;
        queue = h.queue;
        limit = h.limit;
        frames = h.frames;
      }
  did_sound t x Taken h c =
      record {
        limits = h.limits;
        bandwidth = h.bandwidth;
        account = h.account;
        charged = h.charged;
        done = h.done;
        rest = h.rest;
        idle = h.idle;
        in_order = omega (arith, c);
        finished = h.finished;
        outbox = omega (arith, h.outbox);
        queue = h.queue;
        limit = h.limit;
        frames = omega (arith, length-drop 1 x.frames, h.frames, h.finished, c);
      }

  pub did_any_sound : (t : ℕ) (x : StreamState F) (o : Option (Deed F)) → IsSound t x → CanAny t x o
      → IsSound t (did_any x o)
  did_any_sound t x None h c = h
  did_any_sound t x (Some d) h c = did_sound t x d h c

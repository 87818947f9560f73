-- Words that clap takes, and what they ask for.
use Rattle.std.proofs.Common.{◌≡◌, ◌≤◌, ap, arith, codes, refl, rules, subst, List, [], ◌∷◌, Some, false, length, true}
use Rattle.std.specs.Prelude.{All, slice_index_or}
use Rattle.clap.proofs.OnLiterals.{clap_on_literals}
use Rattle.clap.specs.Faults.{level_fault}
use Rattle.clap.specs.Kinds.{or_else}
use Rattle.clap.specs.Lexer.{usize_max}
use Rattle.clap.specs.Simple.{Shape, built, names_of}
use Rattle.clap.specs.Walk.{Text, Walk, after_step, finished, idle, nothing_held, value, walk, walk_from}
use Rattle.serve_words.specs.CommandLine.{y4mserve}
use Rattle.serve_words.specs.KnownWords.{AreKnown, IsNoOption, ToFilter, ToServe, no_option}
use Rattle.serve_words.specs.Options.{AreTaken, IsRequestOf}
use Rattle.serve_words.specs.declared.request.Request.TheVariants.{Replay}
use Rattle.serve_words.proofs.FoundWords.{to_filter, to_replay, to_serve}
use Rattle.serve_words.proofs.KnownStreams.{serve_met, serve_taken}
use Rattle.serve_words.proofs.PlainWords.{goes_on, level_passes, no_turn_fault}

abbrev filter : Shape
filter = slice_index_or (built y4mserve).subs 0 (built y4mserve).top

module _ (operations : Text) (plain : IsNoOption operations) where
  filter_walk : walk filter.rules [] nothing_held (operations ∷ [])
      ≡ after_step filter.rules operations (walk_from nothing_held) nothing_held value
  filter_walk = goes_on filter idle 1 nothing_held operations plain refl refl

  filter_taken : AreTaken (codes "filter" ∷ operations ∷ [])
  unfolding clap_on_literals
  filter_taken =
      let app = built y4mserve in
      let turn = no_turn_fault filter idle 1 nothing_held operations plain refl refl refl in
      let level = level_passes filter [] (operations ∷ []) false [] _ filter_walk (ap (λ kinds. or_else kinds []) turn) refl refl in
      ap (λ below. level_fault app.top (names_of app) nothing_held (codes "filter" ∷ operations ∷ []) true below) level

  pub filter_known : AreKnown (codes "filter" ∷ operations ∷ []) (ToFilter operations 16 2 false)
  unfolding clap_on_literals
  filter_known = (
    filter_taken,
    (λ request asked.
        let met = ap (λ (w : Walk). Some (codes "filter", finished filter.rules w.held)) filter_walk in
        to_filter _ request (subst (λ met. IsRequestOf met request) met asked.1) (record {
          operations_are = refl;
          writes_band = (codes "16", refl, search rules, refl, omega arith);
          writes_threads = (codes "2", refl, search rules, refl, omega arith);
          quiet_is = refl;
        })),
  )

pub filter_by_known : AreKnown (codes "filter" ∷ codes "--threads=1" ∷ codes "--band" ∷ codes "32" ∷ codes "-q" ∷ codes "invert" ∷ [])
    (ToFilter (codes "invert") 32 1 true)
unfolding clap_on_literals
filter_by_known = (
  refl,
  (λ request asked. to_filter _ request asked.1 (record {
    operations_are = refl;
    writes_band = (codes "32", refl, search rules, refl, omega arith);
    writes_threads = (codes "1", refl, search rules, refl, omega arith);
    quiet_is = refl;
  })),
)

pub replay_known : AreKnown (codes "replay" ∷ []) (λ request. request ≡ Replay)
unfolding clap_on_literals
replay_known = (refl, (λ request asked. to_replay _ request asked.1))

pub serve_known : (streams : List Text) → All IsNoOption streams → length streams ≤ usize_max
    → AreKnown (codes "serve" ∷ streams) (ToServe streams no_option)
unfolding clap_on_literals
serve_known [] plain fits = (
  refl,
  (λ request asked. to_serve _ request asked.1 (record {
    streams_are = refl;
    writes_workers = (codes "2", refl, search rules, refl, omega arith);
    writes_band = (codes "16", refl, search rules, refl, omega arith);
    writes_quantum = (codes "8", refl, search rules, refl, omega arith);
    writes_journal = (codes "65536", refl, search rules, refl, omega arith);
    control_is = refl;
    writes_moment = refl;
    trace_is = refl;
    quiet_is = refl;
    keeps_workers = refl;
    keeps_quantum = refl;
    keeps_journal = refl;
  })),
)
serve_known (word ∷ words) plain fits = (
  serve_taken word words plain fits,
  (λ request asked.
      to_serve _ request (subst (λ met. IsRequestOf met request) (serve_met word words plain fits) asked.1) (record {
        streams_are = refl;
        writes_workers = (codes "2", refl, search rules, refl, omega arith);
        writes_band = (codes "16", refl, search rules, refl, omega arith);
        writes_quantum = (codes "8", refl, search rules, refl, omega arith);
        writes_journal = (codes "65536", refl, search rules, refl, omega arith);
        control_is = refl;
        writes_moment = refl;
        trace_is = refl;
        quiet_is = refl;
        keeps_workers = refl;
        keeps_quantum = refl;
        keeps_journal = refl;
      })),
)

pub serve_by_known : AreKnown
    (codes "serve" ∷ codes "--workers" ∷ codes "1" ∷ codes "--quantum=4" ∷ codes "a:in:out:1:2:invert" ∷ [])
    (ToServe (codes "a:in:out:1:2:invert" ∷ []) (record no_option { workers = 1; quantum = 4 }))
unfolding clap_on_literals
serve_by_known = (
  refl,
  (λ request asked. to_serve _ request asked.1 (record {
    streams_are = refl;
    writes_workers = (codes "1", refl, search rules, refl, omega arith);
    writes_band = (codes "16", refl, search rules, refl, omega arith);
    writes_quantum = (codes "4", refl, search rules, refl, omega arith);
    writes_journal = (codes "65536", refl, search rules, refl, omega arith);
    control_is = refl;
    writes_moment = refl;
    trace_is = refl;
    quiet_is = refl;
    keeps_workers = refl;
    keeps_quantum = refl;
    keeps_journal = refl;
  })),
)

pub serve_live_known : AreKnown (codes "serve" ∷ codes "--control" ∷ codes "-" ∷ codes "--moment=40" ∷ [])
    (ToServe [] (record no_option { control = Some (codes "-"); moment = Some 40 }))
unfolding clap_on_literals
serve_live_known = (
  refl,
  (λ request asked. to_serve _ request asked.1 (record {
    streams_are = refl;
    writes_workers = (codes "2", refl, search rules, refl, omega arith);
    writes_band = (codes "16", refl, search rules, refl, omega arith);
    writes_quantum = (codes "8", refl, search rules, refl, omega arith);
    writes_journal = (codes "65536", refl, search rules, refl, omega arith);
    control_is = refl;
    writes_moment = (codes "40", refl, search rules, refl, omega arith);
    trace_is = refl;
    quiet_is = refl;
    keeps_workers = refl;
    keeps_quantum = refl;
    keeps_journal = refl;
  })),
)

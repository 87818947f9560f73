use Rattle.std.proofs.Common.{refl}
use Rattle.clap.proofs.OnLiterals.{clap_on_literals}
use Rattle.serve_words.proofs.KnownWords as known
use Rattle.serve_words.proofs.laws.known_words_law.Goals as goal

pub returns : goal.returns
unfolding clap_on_literals
returns c = record {
  filter = known.filter_known;
  filter_by = known.filter_by_known;
  replay = known.replay_known;
  serve = known.serve_known;
  serve_by = known.serve_by_known;
  serve_live = known.serve_live_known;
  help = refl;
  help_of = refl;
  version = refl;
  none = refl;
  no_operations = refl;
  unknown = refl;
  threads = refl;
  moment = refl;
}

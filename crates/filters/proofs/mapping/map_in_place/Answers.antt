use Rattle.std.proofs.Common.{◌≡◌, ℕ, get_or, arith, rules}
use Rattle.std.proofs.lemmas.List.{get_or_default}
use Rattle.std.proofs.lemmas.List.Edits.{map_over_more}
use Rattle.filters.proofs.mapping.map_in_place.Goals as goal

pub loop-i-preserved : goal.loop-i-preserved
loop-i-preserved g c =
    let f : ℕ → ℕ = g.M.Mapping.entry c.args.mapping in
    let entry : c.of.result ≡ f (get_or c.loop-i.samples c.loop-i.i 0) = search rules in
    let read = get_or_default c.loop-i.samples c.loop-i.i 0 _ (omega arith) in
    rw entry (map_over_more f _ _ c.loop-i.i _ c.loop-i-test.true c.loop-i.invariant read)

use Rattle.std.proofs.Common.{ℕ, suc, ◌+◌, ◌≡◌, List, Some, map, slice_get, slice_set}
use Rattle.std.proofs.Common.{◌∙◌, ap, subst, arith}
use Rattle.serve_core.specs.Retired.{new_number, stays}
use Rattle.serve_hub.specs.Retired.{renumbered}
use Rattle.serve_hub.specs.Seats.{StreamRest}
use Rattle.serve_hub.proofs.Retiring.{changed_all, changed_first, changed_next, filter_at, item_left, stays_within}
use Rattle.serve_hub.proofs.ended.keep_staying.Goals as goal

pub new_number-number-requires : goal.new_number-number-requires
new_number-number-requires c =
    let desk = c.args.desk.now in
    let ys = c.drop_released.new.rests.items in
    let rest = c.index.result.now in
    let here = item_left (renumbered desk) ys c.loop-i.rests.items c.loop-i.i rest c.loop-i.invariant
    (omega (arith, c.loop-i-test.true, c.len-i-end.ensures, c.drop_released.new.rests.ok.0)) c.index.ensures in
    let found = subst (λ (zs : List StreamRest). slice_get zs c.loop-i.i ≡ Some rest) c.drop_released.ensures here in
    let stays_still = filter_at (λ (rest : StreamRest). stays desk rest.number) c.args.rests.now.items c.loop-i.i rest found in
    let number = ap (λ (rest : StreamRest). rest.number) c.behind-rests.view_is in
    omega (arith, stays_within desk rest.number stays_still, number)

pub loop-i-preserved : goal.loop-i-preserved
loop-i-preserved c =
    let desk = c.args.desk.now in
    let ys = c.drop_released.new.rests.items in
    let i = c.loop-i.i in
    let read = c.index.result.now in
    let rest = c.index_mut.result.now in
    let was : slice_get ys i ≡ Some read =
    item_left (renumbered desk) ys c.loop-i.rests.items i read c.loop-i.invariant
    (omega (arith, c.loop-i-test.true, c.len-i-end.ensures, c.drop_released.new.rests.ok.0)) c.index.ensures in
    let here : slice_get ys i ≡ Some rest =
    item_left (renumbered desk) ys c.loop-i.rests.items i rest c.loop-i.invariant
    (omega (arith, c.loop-i-test.true, c.len-i-end.ensures, c.drop_released.new.rests.ok.0)) c.index_mut.ensures.value in
    let same : read ≡ rest = cc in
    let number : c.new_number-number.result ≡ new_number desk rest.number =
    c.new_number-number.ensures
    ∙ ap (λ (rest : StreamRest). new_number desk rest.number) (c.behind-rests.view_is ∙ same) in
    let new : c.renumber.new.self ≡ renumbered desk rest =
    c.renumber.ensures ∙ ap (λ (n : ℕ). record rest { number = n }) number in
    let next : suc i ≡ i + 1 = omega arith in
    ap (slice_set c.loop-i.rests.items i) new
    ∙ ap (λ (zs : List StreamRest). slice_set zs i (renumbered desk rest)) c.loop-i.invariant
    ∙ changed_next (renumbered desk) ys i rest here
    ∙ ap (λ (n : ℕ). changed_first (renumbered desk) n ys) next

pub returns : goal.returns
returns c =
    c.loop-i.invariant
    ∙ changed_all (renumbered c.args.desk.now) c.drop_released.new.rests.items c.loop-i.i
    (omega (arith, c.loop-i-test.false, c.len-i-end.ensures, c.drop_released.new.rests.ok.0))
    ∙ ap (map (renumbered c.args.desk.now)) c.drop_released.ensures

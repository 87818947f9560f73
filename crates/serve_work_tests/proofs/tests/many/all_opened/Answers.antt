use Rattle.std.proofs.Common.{◌++◌, ◌∷◌, List, []}
use Rattle.std.specs.List.{AllZip}
use Rattle.serve_work.specs.Sessions.{IsInput}
use Rattle.serve_work_tests.proofs.tests.many.all_opened.Goals as goal

zip_push : {A B : Type 0} (R : A → B → Type 0) (xs : List A) (ys : List B) (x : A) (y : B) → AllZip R xs ys → R x y
    → AllZip R (xs ++ x ∷ []) (ys ++ y ∷ [])
zip_push R [] [] x y p r = (r, tt)
zip_push R [] (v ∷ ys) x y p r = absurd p
zip_push R (u ∷ xs) [] x y p r = absurd p
zip_push R (u ∷ xs) (v ∷ ys) x y p r = (p.0, zip_push R xs ys x y p.1 r)

pub loop-stream-preserved : goal.loop-stream-preserved
loop-stream-preserved g c =
    let made = c.opened-spec.result in
    rw (c.put.ensures, c.put-in-loop-stream.ensures)
    (zip_push IsInput c.loop-stream.specs.items c.loop-stream.inputs.items made.0 made.1 c.loop-stream.invariant c.opened-spec.ensures)

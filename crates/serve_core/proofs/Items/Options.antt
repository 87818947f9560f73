-- What is found at a place.
use Rattle.std.proofs.Common.{◌≡◌, Err, IfErr, IfNone, IsErrAnd, IsSomeAnd, None, Ok, Option, Result}
use Rattle.std.proofs.Common.{Some, refl}

pub some_and : {X : Type 0} (o : Option X) (P : X → Type 0) → IsSomeAnd o P → (x : X) × (o ≡ Some x) × P x
some_and None P h = absurd h
some_and (Some x) P h = (x, refl, h)

pub and_some : {X : Type 0} (o : Option X) (P : X → Type 0) (x : X) → o ≡ Some x → P x → IsSomeAnd o P
and_some o P x e h = rw e h

-- what follows from what a clause says where there is no value
pub none_then : {X : Type 0} (o : Option X) {P Q : Type 0} → IfNone o P → (P → Q) → IfNone o Q
none_then None h f = f h
none_then (Some x) h f = h

-- and from what is known of an error
pub err_then : {T E : Type 0} (r : Result T E) {P Q : E → Type 0} → IsErrAnd r P → ((e : E) → P e → Q e)
    → IfErr r Q
err_then (Ok x) h f = absurd h
err_then (Err e) h f = f e h

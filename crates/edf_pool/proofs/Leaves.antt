-- The deadlines by stream, as the leaves of a tree show them.
use Rattle.std.proofs.Common.{◌≡◌, ℕ, zero, suc, ◌+◌, ◌-◌, ◌<◌, ◌≤◌, inl, inr, List, [], ◌∷◌, ◌++◌, length}
use Rattle.std.proofs.Common.{take, drop, map, get_or, set, replicate, slice_get, Option, Some, None, refl}
use Rattle.std.proofs.Common.{sym, ap, ◌∙◌, subst, arith, length-drop, length-set}
use Rattle.std.proofs.lemmas.List.{map-set, map_push, drop-set-add, take-replicate, take_more}
use Rattle.std.proofs.lemmas.List.{get_or-set_same, get_or-set_other, length-map, length-take-le, get_or-take}
use Rattle.std.proofs.lemmas.List.{get_or-drop}
use Rattle.std.proofs.Math.Seq.{take-set-lt}
use Rattle.std.proofs.lemmas.Option.{slice_get-map, slice_get-get_or, slice_get_within}
use Rattle.edf_pool.specs.declared.node.Ready.{Ready}
use Rattle.edf_pool.specs.Earliest.{IsReady}
use Rattle.edf_pool.specs.Node.{deadline_of, node_of}
use Rattle.edf_pool.specs.Tree.{node_at, AreLeaves, deadlines}
use Rattle.edf_pool.proofs.Winners.{same_or}

pub length-deadlines : (streams : ℕ) (nodes : List (Option Ready)) → length nodes ≡ 128 → streams ≤ 64
    → length (deadlines streams nodes) ≡ streams
length-deadlines streams nodes size most =
    rw (length-map, length-take-le streams (drop 64 nodes) (omega (arith, length-drop 64 nodes))) refl

-- a stream's deadline is that of its leaf
pub slice_get-deadlines : (streams : ℕ) (nodes : List (Option Ready)) (s : ℕ) → length nodes ≡ 128 → streams ≤ 64 → s < streams
    → slice_get (deadlines streams nodes) s ≡ Some (deadline_of (node_at nodes (64 + s)))
slice_get-deadlines streams nodes s size most within =
    let row = take streams (drop 64 nodes) in
    let long : s < length row = rw (length-take-le streams (drop 64 nodes) (omega (arith, length-drop 64 nodes))) within in
    let read : get_or row s None ≡ node_at nodes (64 + s) = get_or-take streams (drop 64 nodes) s None within
    ∙ get_or-drop 64 nodes s None in
    rw (slice_get-map deadline_of row s, slice_get-get_or row s None long, read) refl

-- a node that shows a deadline is of a ready stream
shown : (o : Option Ready) (d : ℕ) → Some (deadline_of o) ≡ Some (Some d) → (ready : Ready) × (o ≡ Some ready) × (ready.deadline ≡ d)
shown None d e = absurd (cc)
shown (Some ready) d e = (ready, refl, cc)

-- the leaf of a ready stream holds it
pub leaf_of_ready : (streams : ℕ) (nodes : List (Option Ready)) (s d : ℕ) → length nodes ≡ 128 → streams ≤ 64
    → IsReady (deadlines streams nodes) s d
    → (ready : Ready) × (node_at nodes (64 + s) ≡ Some ready) × (ready.deadline ≡ d)
leaf_of_ready streams nodes s d size most is =
    let within : s < streams =
    subst (λ (n : ℕ). s < n) (length-deadlines streams nodes size most)
    (slice_get_within (deadlines streams nodes) s (Some d) is) in
    shown (node_at nodes (64 + s)) d (sym (slice_get-deadlines streams nodes s size most within) ∙ is)

map-replicate : {A B : Type 0} (f : A → B) (n : ℕ) (a : A) → map f (replicate n a) ≡ replicate n (f a)
map-replicate f zero a = refl
map-replicate f (suc n) a = ap (λ xs. f a ∷ xs) (map-replicate f n a)

pub deadlines-replicate : (streams : ℕ) (empty : Option Ready) → streams ≤ 64
    → deadlines streams (replicate 128 empty) ≡ replicate streams (deadline_of empty)
deadlines-replicate streams empty most = rw (take-replicate streams 64 empty most) (map-replicate deadline_of streams empty)

-- the write of a leaf, seen among the leaves
pub drop-set_leaf : (nodes : List (Option Ready)) (leaf : ℕ) (v : Option Ready) → 64 ≤ leaf
    → drop 64 (set nodes leaf v) ≡ set (drop 64 nodes) (leaf - 64) v
drop-set_leaf nodes leaf v at =
    let there : 64 + (leaf - 64) ≡ leaf = omega arith in
    subst (λ (k : ℕ). drop 64 (set nodes k v) ≡ set (drop 64 nodes) (leaf - 64) v) there (drop-set-add 64 nodes (leaf - 64) v)

deadline_of-node_of : (s : ℕ) (deadline : Option ℕ) → deadline_of (node_of s deadline) ≡ deadline
deadline_of-node_of s None = refl
deadline_of-node_of s (Some d) = refl

stream_of_node : (s : ℕ) (deadline : Option ℕ) (ready : Ready) → node_of s deadline ≡ Some ready → ready.stream ≡ s
stream_of_node s None ready e = absurd (cc)
stream_of_node s (Some d) ready e = cc

-- the tree becomes one in which stream s is ready with this deadline, or isn't ready
pub record IsTold (nodes told : List (Option Ready)) (s : ℕ) (deadline : Option ℕ) : Type 0 where
  pub leaves : drop 64 told ≡ set (drop 64 nodes) s (node_of s deadline)

pub deadlines-told : (streams : ℕ) (nodes told : List (Option Ready)) (s : ℕ) (deadline : Option ℕ) → s < streams
    → IsTold nodes told s deadline → deadlines streams told ≡ set (deadlines streams nodes) s deadline
deadlines-told streams nodes told s deadline within is =
    rw (is.leaves, take-set-lt streams (drop 64 nodes) s (node_of s deadline) within)
    (map-set deadline_of (take streams (drop 64 nodes)) s (node_of s deadline)
    ∙ rw (deadline_of-node_of s deadline) refl)

pub length-told : (nodes told : List (Option Ready)) (s : ℕ) (deadline : Option ℕ) → length nodes ≡ 128
    → IsTold nodes told s deadline → length told ≡ 128
length-told nodes told s deadline size is =
    let long : length (drop 64 told) ≡ 64 = rw (is.leaves, length-set, length-drop 64 nodes) (omega arith) in
    omega (arith, length-drop 64 told)

pub leaves_told : (streams : ℕ) (nodes told : List (Option Ready)) (s : ℕ) (deadline : Option ℕ)
    → length nodes ≡ 128 → streams ≤ 64 → s < streams → IsTold nodes told s deadline
    → AreLeaves streams nodes → AreLeaves streams told
leaves_told streams nodes told s deadline size most within is leaves t ready e =
    let v = node_of s deadline in
    let read : get_or (set (drop 64 nodes) s v) t None ≡ Some ready =
    sym (sym (get_or-drop 64 told t None) ∙ ap (λ (xs : List (Option Ready)). get_or xs t None) is.leaves) ∙ e in
    elim (same_or t s) [
      | inl here ↦
          let long : s < length (drop 64 nodes) = omega (arith, length-drop 64 nodes) in
          let own : v ≡ Some ready =
          sym (get_or-set_same (drop 64 nodes) s v None long)
          ∙ subst (λ (k : ℕ). get_or (set (drop 64 nodes) s v) k None ≡ Some ready) here read in
          (stream_of_node s deadline ready own ∙ sym here, omega arith)
      | inr other ↦ leaves t ready (sym (get_or-drop 64 nodes t None) ∙ sym (get_or-set_other (drop 64 nodes) s t v None other) ∙ read)
    ]

-- the leaf behind all streams holds none
none_behind : (streams : ℕ) (nodes : List (Option Ready)) (o : Option Ready) → AreLeaves streams nodes
    → node_at nodes (64 + streams) ≡ o → o ≡ None
none_behind streams nodes None leaves e = refl
none_behind streams nodes (Some ready) leaves e = absurd (let own = leaves streams ready e in omega (arith, own.1))

-- one stream more is one that isn't ready
pub deadlines-grown : (streams : ℕ) (nodes : List (Option Ready)) → length nodes ≡ 128 → streams < 64
    → AreLeaves streams nodes → deadlines (streams + 1) nodes ≡ deadlines streams nodes ++ None ∷ []
deadlines-grown streams nodes size room leaves =
    let row = drop 64 nodes in
    let long : streams < length row = omega (arith, length-drop 64 nodes) in
    let last = get_or-drop 64 nodes streams None ∙ none_behind streams nodes (node_at nodes (64 + streams)) leaves refl in
    let more = take_more row streams None long ∙ ap (λ (o : Option Ready). take streams row ++ o ∷ []) last in
    ap (map deadline_of) more ∙ map_push deadline_of (take streams row) None

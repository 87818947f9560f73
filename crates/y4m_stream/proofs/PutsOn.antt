-- How far a text was written, in parts.
use Rattle.std.proofs.Common.{◌≡◌, ◌≢◌, ℕ, ◌+◌, ◌<◌, ◌≤◌, List, [], ◌∷◌, ◌++◌, length, take, drop, Option, Some, None, refl, sym}
use Rattle.std.proofs.Common.{ap, subst, ◌∙◌, append_assoc, arith, length-append}
use Rattle.std.proofs.Math.Seq.{take-add, take-append-add}
use Rattle.std.proofs.KnownBytes.{Appends-trans}
use Rattle.std.proofs.lemmas.List.{take-append-drop, take-append-le, take_all}
use Rattle.std.specs.Io.KnownBytes.{Appends, Keeps, append_known}
use Rattle.y4m_stream.specs.declared.put.Put.{Put}
use Rattle.y4m_stream.specs.declared.put.Way.{Way}
use Rattle.y4m_stream.specs.declared.put.Way.TheVariants.{Done, More, Fails}
use Rattle.y4m_stream.specs.Writer.{IsFar, PutsOn}
use Rattle.y4m_stream.proofs.Puts.{behind_line}

-- nothing more went out
pub kept_put : (before old new : Option (List ℕ)) (bytes : List ℕ) → Keeps old new → Appends before old bytes → Appends before new bytes
kept_put None old new bytes k p = tt
kept_put (Some x) None new bytes k p = absurd p
kept_put (Some x) (Some y) None bytes k p = absurd k
kept_put (Some x) (Some y) (Some z) bytes k p = k ∙ p

-- so many bytes more went out
pub more_put : (before old new : Option (List ℕ)) (text : List ℕ) (from n : ℕ) → Appends old new (take n (drop from text))
    → Appends before old (take from text) → Appends before new (take (from + n) text)
more_put before old new text from n more p = rw take-add
    (Appends-trans before old new (take from text) (take n (drop from text)) p more)

-- all that was left went out
pub rest_put : (before old new : Option (List ℕ)) (text : List ℕ) (from : ℕ) → Appends old new (drop from text)
    → Appends before old (take from text) → Appends before new text
rest_put before old new text from more p =
    subst (Appends before new) (take-append-drop from text)
    (Appends-trans before old new (take from text) (drop from text) p more)

split_known : (before old : Option (List ℕ)) (a b : List ℕ) → Appends before old (a ++ b) → Appends (append_known before a) old b
split_known None old a b p = tt
split_known (Some x) None a b p = absurd p
split_known (Some x) (Some y) a b p = p ∙ sym (append_assoc x a b)

join_known : (before new : Option (List ℕ)) (a b : List ℕ) → Appends (append_known before a) new b → Appends before new (a ++ b)
join_known None new a b p = tt
join_known (Some x) None a b p = absurd p
join_known (Some x) (Some y) a b p = p ∙ append_assoc x a b

-- what went out behind a line that had gone out
pub behind_put : (old new : Option (List ℕ)) (line bytes : List ℕ) (from written : ℕ)
    → ((before : Option (List ℕ)) → Appends before old (take from bytes) → Appends before new (take written bytes))
    → (before : Option (List ℕ)) → Appends before old (take (length line + 1 + from) (line ++ 10 ∷ bytes))
    → Appends before new (take (length line + 1 + written) (line ++ 10 ∷ bytes))
behind_put old new line bytes from written on before p =
    let text = line ++ 10 ∷ [] in
    let long : length text ≡ length line + 1 = length-append line (10 ∷ []) in
    let cut : (n : ℕ) → take (length line + 1 + n) (line ++ 10 ∷ bytes) ≡ text ++ take n bytes = λ n.
    subst (λ (l : List ℕ). take (length line + 1 + n) l ≡ text ++ take n bytes) (behind_line line bytes)
    (subst (λ (k : ℕ). take (k + n) (text ++ bytes) ≡ text ++ take n bytes) long (take-append-add text bytes n)) in
    rw (cut written) (join_known before new text (take written bytes)
    (on (append_known before text) (split_known before old text (take from bytes) (rw (cut from) at p))))

-- all of the text, where what was left of it went out
pub all_put : (before old new : Option (List ℕ)) (text : List ℕ) (from : ℕ) → Appends old new (drop from text)
    → Appends before old (take from text) → Appends before new (take (length text) text)
all_put before old new text from more p = rw (take_all (length text) text (omega arith)) (rest_put before old new text from more p)

far_less : (way : Way) (n len : ℕ) → way ≢ Done → IsFar way n len → n < len
far_less Done n len not far = absurd (not refl)
far_less More n len not far = far
far_less Fails n len not far = far

less_far : (way : Way) (n len : ℕ) → way ≢ Done → n < len → IsFar way n len
less_far Done n len not less = absurd (not refl)
less_far More n len not less = less
less_far Fails n len not less = less

done_all : (way : Way) (n len : ℕ) → way ≡ Done → IsFar way n len → n ≡ len
done_all way n len is far = subst (λ (w : Way). IsFar w n len) is far

-- behind a line, so many bytes of the line and what follows it are as far as so many of what follows it
far_behind : (way : Way) (n len more : ℕ) → IsFar way n len → IsFar way (more + n) (more + len)
far_behind Done n len more far = ap (λ (k : ℕ). more + k) far
far_behind More n len more far = omega (arith, far)
far_behind Fails n len more far = omega (arith, far)

length_behind : (line bytes : List ℕ) → length (line ++ 10 ∷ bytes) ≡ length line + 1 + length bytes
length_behind line bytes = length-append line (10 ∷ bytes) ∙ omega arith

-- the line and its line feed stand at the front
front_of_line : (line bytes : List ℕ) (n : ℕ) → n ≤ length line + 1 → take n (line ++ 10 ∷ bytes) ≡ take n (line ++ 10 ∷ [])
front_of_line line bytes n h =
    let within : n ≤ length (line ++ 10 ∷ []) = omega (arith, h, length-append line (10 ∷ [])) in
    subst (λ (l : List ℕ). take n l ≡ take n (line ++ 10 ∷ [])) (behind_line line bytes) (take-append-le n (line ++ 10 ∷ []) bytes within)

-- data behind a line
pub data_put : (old new : Option (List ℕ)) (line bytes : List ℕ) (from : ℕ) (put : Put) → PutsOn old new bytes from put
    → PutsOn old new (line ++ 10 ∷ bytes) (length line + 1 + from) (record { written = length line + 1 + put.written; way = put.way })
data_put old new line bytes from put p = record {
  later = omega (arith, p.later);
  far = rw (length_behind line bytes) (far_behind put.way put.written (length bytes) (length line + 1) p.far);
  front = behind_put old new line bytes from put.written p.front;
}

-- the line didn't go out whole
pub line_put : (old new : Option (List ℕ)) (line bytes : List ℕ) (from : ℕ) (put : Put) → put.way ≢ Done → from ≤ length line
    → PutsOn old new (line ++ 10 ∷ []) from put → PutsOn old new (line ++ 10 ∷ bytes) from put
line_put old new line bytes from put not within p =
    let less = far_less put.way put.written (length (line ++ 10 ∷ [])) not p.far in
    let line_len : length (line ++ 10 ∷ []) ≡ length line + 1 = length-append line (10 ∷ []) in
    record {
      later = p.later;
      far = less_far put.way put.written (length (line ++ 10 ∷ bytes)) not (omega (arith, less, line_len, length_behind line bytes));
      front = λ before q. rw (front_of_line line bytes put.written (omega (arith, less, line_len)))
          (p.front before (rw (front_of_line line bytes from (omega (arith, within))) at q));
    }

-- the line went out, and then its data went on
pub both_put : (old mid new : Option (List ℕ)) (line bytes : List ℕ) (from start : ℕ) (first second : Put) → first.way ≡ Done
    → from ≤ length line → start ≡ length line + 1 → PutsOn old mid (line ++ 10 ∷ []) from first
    → PutsOn mid new (line ++ 10 ∷ bytes) start second → PutsOn old new (line ++ 10 ∷ bytes) from second
both_put old mid new line bytes from start first second is within starts p q =
    let all = done_all first.way first.written (length (line ++ 10 ∷ [])) is p.far in
    let line_len : length (line ++ 10 ∷ []) ≡ length line + 1 = length-append line (10 ∷ []) in
    let reached : start ≡ first.written = omega (arith, starts, all, line_len) in
    record {
      later = omega (arith, within, starts, q.later);
      far = q.far;
      front = λ before r. q.front before
          (rw (front_of_line line bytes start (omega (arith, starts)), reached)
          (p.front before (rw (front_of_line line bytes from (omega (arith, within))) at r)));
    }

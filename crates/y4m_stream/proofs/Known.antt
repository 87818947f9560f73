-- What stays known of the bytes that are held and those that are still to come.
use Rattle.std.proofs.Common.{◌≡◌, ℕ, ◌+◌, ◌-◌, ◌<◌, ◌≤◌, List, [], ◌++◌, length, take, drop, None, Some}
use Rattle.std.proofs.Common.{refl, sym, ap, ◌∙◌, append_assoc, arith, length-append, Option, min, ◌⊎◌, inl}
use Rattle.std.proofs.Common.{inr, append-nil}
use Rattle.std.proofs.Common.{zero, suc}
use Rattle.std.specs.List.{copy_within}
use Rattle.std.proofs.KnownBytes.{Consumes-kept, Consumes-trans}
use Rattle.std.proofs.lemmas.List.{length-take, length-drop, length-take-le, take-append-le, take_at}
use Rattle.std.proofs.lemmas.List.{take-append-drop, drop_all, nil_from_length}
use borrow.Rule.Slice.PartMut.{put_mid, post_of}
use Rattle.std.proofs.Math.Seq.{take-append-add}
use Rattle.std.proofs.lemmas.Slice.{between_is}
use Rattle.std.specs.Io.KnownBytes.{Keeps, Consumes, prepend_known}
use Rattle.std.specs.Prelude.{IfSome}
use Rattle.y4m_stream.specs.Front.{HasGiven, HasNoLineFeed, IsLongLine}

-- bytes that are read behind those that are held
pub prepend_known-read : (a b : Option (List ℕ)) (held more now : List ℕ) → Consumes a b more → now ≡ held ++ more
    → Keeps (prepend_known held a) (prepend_known now b)
prepend_known-read None b held more now p e = tt
prepend_known-read (Some xs) None held more now p e = absurd p
prepend_known-read (Some xs) (Some ys) held more now p e = ap (λ l. l ++ ys) e ∙ append_assoc held more ys ∙ ap (λ l. held ++ l) (sym p)

-- 1,024 bytes without a line feed stand at the front
pub IsLongLine-front : (a b : Option (List ℕ)) (held : List ℕ) → Keeps a (prepend_known held b) → length held ≡ 1024
    → HasNoLineFeed held → IfSome a IsLongLine
IsLongLine-front None b held k full none = tt
IsLongLine-front (Some xs) None held k full none = absurd k
IsLongLine-front (Some xs) (Some ys) held k full none =
    let front : take 1024 xs ≡ held = rw (← k) (take_at held ys 1024 full) in
    record { long = rw (← k, length-append) (omega arith); no_feed = rw front none }

-- the part after the front, cut short
pub take-behind : (front read post : List ℕ) (n : ℕ) → n ≤ length read
    → take (length front + n) (front ++ (read ++ post)) ≡ front ++ take n read
take-behind front read post n k = rw (take-append-add, take-append-le) refl

-- n bytes are read behind the first ones of a buffer
pub take-put_mid_more : (bytes read : List ℕ) (len room n : ℕ) → len ≤ length bytes → n ≤ length read
    → take (len + n) (put_mid len room bytes read) ≡ take len bytes ++ take n read
take-put_mid_more bytes read len room n h k =
    rw (length-take-le len bytes h) at (take-behind (take len bytes) read (post_of len room bytes) n k)

-- the bytes from n on are moved to the front of a buffer
pub take-moved : (bytes : List ℕ) (n len : ℕ) → n ≤ len → len ≤ length bytes
    → take (len - n) (copy_within bytes n len 0) ≡ drop n (take len bytes)
take-moved bytes n len h k =
    let moved = take (len - n) (drop n bytes) in
    let long : length moved ≡ len - n = simp (length-take, length-drop) (omega arith) in
    take_at moved (drop (0 + (len - n)) bytes) (len - n) long ∙ between_is bytes n len

-- a further read behind what the reads so far put into a buffer
pub Consumes-more : (a b c : Option (List ℕ)) (bytes read : List ℕ) (at room n : ℕ) → at ≤ length bytes → n ≤ length read
    → Consumes a b (take at bytes) → Consumes b c (take n read) → Consumes a c (take (at + n) (put_mid at room bytes read))
Consumes-more a b c bytes read at room n h k so_far now =
    rw (take-put_mid_more bytes read at room n h k) (Consumes-trans a b c (take at bytes) (take n read) so_far now)

le_or_ge : (a b : ℕ) → (a ≤ b) ⊎ (b ≤ a)
le_or_ge zero b = inl (omega arith)
le_or_ge (suc a) zero = inr (omega arith)
le_or_ge (suc a) (suc b) = elim (le_or_ge a b) [ inl h ↦ inl (omega arith) | inr h ↦ inr (omega arith) ]

none_between : (left more ys : List ℕ) → (left ≡ []) ⊎ (more ≡ []) → left ++ (more ++ ys) ≡ more ++ (left ++ ys)
none_between left more ys (inl e) = rw e refl
none_between left more ys (inr e) = rw e refl

-- what is held comes first, and the reader gives only what is then missing
pub Consumes-both : (a b : Option (List ℕ)) (held left out more : List ℕ) (n : ℕ) → n ≡ min (length held) (length out)
    → take n out ≡ take n held → left ≡ drop n held
    → length more ≡ length out - n → Consumes a b more
    → Consumes (prepend_known held a) (prepend_known left b) (take n out ++ (more ++ post_of n (length out - n) out))
Consumes-both None b held left out more n few same rest missing read = tt
Consumes-both (Some xs) None held left out more n few same rest missing read = absurd read
Consumes-both (Some xs) (Some ys) held left out more n few same rest missing read =
    let one : (left ≡ []) ⊎ (more ≡ []) = elim (le_or_ge (length held) (length out)) [
      | inl h ↦ inl (rest ∙ drop_all n held (omega arith))
      | inr h ↦ inr (nil_from_length more (omega arith))
    ] in
    let past : post_of n (length out - n) out ≡ [] = drop_all (length out - n) (drop n out) (simp length-drop (omega arith)) in
    rw (past, append-nil, read, same)
    (ap (λ l. l ++ (more ++ ys)) (sym (take-append-drop n held) ∙ ap (λ l. take n held ++ l) (sym rest))
    ∙ append_assoc (take n held) left (more ++ ys) ∙ ap (λ l. take n held ++ l) (none_between left more ys one)
    ∙ sym (append_assoc (take n held) more (left ++ ys)))

-- what is held was given, where the rest is as it was
pub Consumes-held : (a b : Option (List ℕ)) (held : List ℕ) → Keeps a (prepend_known held b) → Consumes a b held
Consumes-held None b held k = tt
Consumes-held (Some xs) None held k = absurd k
Consumes-held (Some xs) (Some ys) held k = sym k

-- what is given behind the bytes that are held
pub Consumes-behind : (a b : Option (List ℕ)) (held bytes : List ℕ) → Consumes a b bytes → Consumes (prepend_known held a) b (held ++ bytes)
Consumes-behind None b held bytes p = tt
Consumes-behind (Some xs) None held bytes p = absurd p
Consumes-behind (Some xs) (Some ys) held bytes p = ap (λ l. held ++ l) p ∙ sym (append_assoc held bytes ys)

-- the rest was kept, and then bytes were taken off it
pub Consumes-later : (a b c : Option (List ℕ)) (bytes : List ℕ) → Keeps a b → Consumes b c bytes → Consumes a c bytes
Consumes-later None b c bytes k p = tt
Consumes-later (Some xs) None c bytes k p = absurd k
Consumes-later (Some xs) (Some ys) None bytes k p = absurd p
Consumes-later (Some xs) (Some ys) (Some zs) bytes k p = sym k ∙ p

-- a read that took nothing
pub Keeps-none : (a b : Option (List ℕ)) → Consumes a b [] → Keeps a b
Keeps-none None b p = tt
Keeps-none (Some xs) None p = absurd p
Keeps-none (Some xs) (Some ys) p = sym p

-- fewer bytes came than were asked for
pub given_so_far : (a b c : Option (List ℕ)) (bytes : List ℕ) (at len : ℕ) → Consumes a b (take at bytes) → Keeps b c
    → at < len → HasGiven a c (λ given. length given < len)
given_so_far a b c bytes at len so_far kept few =
    (take at bytes, Consumes-kept a b c (take at bytes) so_far kept, rw length-take (omega (arith, few)))

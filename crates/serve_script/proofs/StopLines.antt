-- The line of a stop, which goes out piece by piece.
use Rattle.std.proofs.Common.{◌≡◌, ℕ, List, [], ◌∷◌, ◌++◌, ◌∙◌, Option, Some, Result, codes, decimal, append_assoc, ap, sym, subst}
use Rattle.std.proofs.lemmas.List.{append-nil}
use Rattle.std.specs.Io.KnownBytes.{Appends}
use Rattle.serve_script.specs.ScriptFault.{fault_name, fault_word, name_text}
use Rattle.serve_script.specs.ScriptReport.{Stop, stop_text}
use Rattle.serve_script.specs.Writing.{AppendsFront, Writes}
use Rattle.serve_script.proofs.Fronts.{first_cut, later_cut, later_written}

-- what stands before the name of a fault's stream
abbrev pub stop_front : Stop → List ℕ
stop_front stop = codes "line " ++ decimal stop.line ++ codes ": " ++ fault_word stop.fault

-- the name, and the line's end
abbrev stop_rest : Stop → List ℕ
stop_rest stop = name_text (fault_name stop.fault) ++ 10 ∷ []

regroup : (line number colon word name feed : List ℕ)
    → line ++ number ++ colon ++ (word ++ name) ++ feed ≡ line ++ number ++ colon ++ word ++ (name ++ feed)
regroup line number colon word name feed = simp append_assoc

stop_apart : (stop : Stop) → stop_text (Some stop) ≡ stop_front stop ++ stop_rest stop
stop_apart stop =
    regroup (codes "line ") (decimal stop.line) (codes ": ") (fault_word stop.fault) (name_text (fault_name stop.fault)) (10 ∷ [])

join : (line number colon word : List ℕ) → line ++ (number ++ (colon ++ (word ++ []))) ≡ line ++ number ++ colon ++ word
join line number colon word = simp (append_assoc, append-nil)

-- the pieces before the name
pub stop_pieces : (stop : Stop) (line number colon word : List ℕ) → line ≡ codes "line " → number ≡ decimal stop.line → colon ≡ codes ": "
    → word ≡ fault_word stop.fault → line ++ (number ++ (colon ++ (word ++ []))) ≡ stop_front stop
stop_pieces stop line number colon word a b c d =
    join line number colon word
    ∙ ap (λ (text : List ℕ). text ++ number ++ colon ++ word) a
    ∙ ap (λ (text : List ℕ). codes "line " ++ text ++ colon ++ word) b
    ∙ ap (λ (text : List ℕ). codes "line " ++ decimal stop.line ++ text ++ word) c
    ∙ ap (λ (text : List ℕ). codes "line " ++ decimal stop.line ++ codes ": " ++ text) d

-- a text that is the line of a stop was cut short before the name
pub front_cut : (stop : Stop) (text pieces : List ℕ) (a b : Option (List ℕ)) → text ≡ stop_text (Some stop) → pieces ≡ stop_front stop
    → AppendsFront a b pieces → AppendsFront a b text
front_cut stop text pieces a b whole front cut =
    subst (AppendsFront a b) (sym (whole ∙ stop_apart stop))
    (first_cut a b (stop_front stop) (stop_rest stop) (subst (AppendsFront a b) front cut))

-- it was cut short in the name
pub name_cut : (stop : Stop) (text pieces name : List ℕ) (a b c : Option (List ℕ)) → text ≡ stop_text (Some stop) → pieces ≡ stop_front stop
    → name ≡ name_text (fault_name stop.fault) → Appends a b pieces → AppendsFront b c name → AppendsFront a c text
name_cut stop text pieces name a b c whole front same out cut =
    let rest = first_cut b c (name_text (fault_name stop.fault)) (10 ∷ []) (subst (AppendsFront b c) same cut) in
    subst (AppendsFront a c) (sym (whole ∙ stop_apart stop))
    (later_cut a b c (stop_front stop) (stop_rest stop) (subst (Appends a b) front out) rest)

-- all pieces but its end went out
pub stop_written : {T E : Type 0} (stop : Stop) (text pieces name feed : List ℕ) (a b c d : Option (List ℕ)) (result : Result T E)
    → text ≡ stop_text (Some stop) → pieces ≡ stop_front stop → name ≡ name_text (fault_name stop.fault) → feed ≡ 10 ∷ []
    → Appends a b pieces → Appends b c name → Writes c d feed result → Writes a d text result
stop_written stop text pieces name feed a b c d result whole front same end out named wrote =
    let last = subst (λ (more : List ℕ). Writes c d more result) end wrote in
    let rest = later_written b c d (name_text (fault_name stop.fault)) (10 ∷ []) result (subst (Appends b c) same named) last in
    subst (λ (all : List ℕ). Writes a d all result) (sym (whole ∙ stop_apart stop))
    (later_written a b d (stop_front stop) (stop_rest stop) result (subst (Appends a b) front out) rest)

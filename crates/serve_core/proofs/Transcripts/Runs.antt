-- A run goes on by one event.
use Rattle.std.proofs.Common.{◌≡◌, List, [], ◌∷◌, ◌++◌, length, map, refl, sym, ◌∙◌, ap, subst, arith}
use Rattle.std.proofs.lemmas.List.{map-append, length-map}
use Rattle.filters.specs.ChainImage.{FrameValue}
use Rattle.serve_core.specs.declared.event.Event as code
use Rattle.serve_core.specs.declared.event.Reply as answer
use Rattle.serve_core.specs.Events.{Event, Reply, Transcript, Start, Then, told}
use Rattle.serve_core.specs.Frames.{measures, is_image}
use Rattle.serve_core.specs.Headline.{IsRun}
use Rattle.serve_core.specs.Leads.{Leads, opening_state}
use Rattle.serve_core.specs.Rules.{Allows}
use Rattle.serve_core.specs.Seen.{heard, seen}
use Rattle.serve_core.specs.Setup.{IsWithin, Setup}
use Rattle.serve_core.specs.States.{State, after}
use Rattle.serve_core.proofs.Transcripts.Headlines.{headline_is}
use Rattle.serve_core.proofs.Transcripts.Openings.{opening_is}

told_more : {F G : Type 0} (p : Transcript F G) (es : List (Event F)) (rs : List (Reply F G)) (e : Event F)
    (r : Reply F G) → length es ≡ length rs → told p (es ++ e ∷ []) (rs ++ r ∷ []) ≡ Then (told p es rs) e r
told_more p [] [] e r l = refl
told_more p [] (s ∷ rs) e r l = absurd (omega arith)
told_more p (f ∷ es) [] e r l = absurd (omega arith)
told_more p (f ∷ es) (s ∷ rs) e r l = told_more (Then p f s) es rs e r (omega arith)

-- one more turn, the events so far being es
pub turn : (o : State FrameValue) (es : List code.Event) (e : code.Event) (rs ts : List answer.Reply)
    (r : answer.Reply) (m n : State FrameValue) → length rs ≡ length es → ts ≡ rs ++ r ∷ []
    → Leads measures is_image o (told Start (map seen es) (map heard rs)) m
    → Allows measures is_image m (seen e) (heard r) → n ≡ after m (seen e) (heard r)
    → Leads measures is_image o (told Start (map seen (es ++ e ∷ [])) (map heard ts)) n
turn o es e rs ts r m n c t h w q =
    let firsts : map seen (es ++ e ∷ []) ≡ map seen es ++ seen e ∷ [] = map-append seen es (e ∷ []) in
    let seconds : map heard ts ≡ map heard rs ++ heard r ∷ [] = rw t (map-append heard rs (r ∷ [])) in
    let lengths : length (map seen es) ≡ length (map heard rs) =
    length-map es seen ∙ sym c ∙ sym (length-map rs heard) in
    let told_is = told_more Start (map seen es) (map heard rs) (seen e) (heard r) lengths in
    rw (firsts, seconds, told_is) (
      (h.0, subst (λ (s : State FrameValue). Allows measures is_image s (seen e) (heard r)) (sym h.1) w),
      ap (λ (s : State FrameValue). after s (seen e) (heard r)) h.1 ∙ sym q,
    )

-- what is run from the state before any event is a run as it is promised
pub is_run : (setup : Setup) (es : List code.Event) (rs : List answer.Reply) (n : State FrameValue)
    → IsWithin setup → length rs ≡ length es
    → Leads measures is_image (opening_state FrameValue FrameValue setup)
    (told Start (map seen es) (map heard rs)) n
    → IsRun measures is_image setup (map seen es) (map heard rs)
is_run setup es rs n v c h =
    let p : Transcript FrameValue FrameValue = told Start (map seen es) (map heard rs) in
    let legal = (opening_is measures is_image setup p).1.1 h.0 in
    record {
      answered = length-map es seen ∙ sym c ∙ sym (length-map rs heard);
      legal = legal;
      promised = headline_is measures is_image setup p v legal;
    }

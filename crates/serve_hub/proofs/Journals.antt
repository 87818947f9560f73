-- One entry more on a journal, and one journal behind another.
use Rattle.std.proofs.Common.{◌≡◌, List, [], ◌∷◌, ◌++◌, refl, sym, ◌∙◌, ap, subst}
use Rattle.serve_core.specs.Bare.{Blank, measures_any, is_any_image}
use Rattle.serve_core.specs.Events.{Transcript, joined}
use Rattle.serve_core.specs.Leads.{Leads, state_from}
use Rattle.serve_core.specs.Setup.{StreamSpec}
use Rattle.serve_core.specs.States.{State}
use Rattle.serve_core.proofs.Transcripts.Openings.{join_is, joined_state}
use Rattle.serve_core.proofs.Transcripts.Reached.{joined_again}
use Rattle.serve_hub.specs.declared.entry.Act.{Act}
use Rattle.serve_hub.specs.declared.entry.Entry.{Entry}
use Rattle.serve_hub.specs.declared.entry.Seat.{Seat}
use Rattle.serve_hub.specs.Journal.{AreEntries, IsEntry, IsJournal, JoinedLaw, entry_of, events_of, transcript_of}
use Rattle.serve_hub.proofs.Specs.{same_transcript, still_entries}

pub one_more_entry : (specs : List StreamSpec) (opening m n : State Blank) (past : List Entry) (seat : Seat)
    (act : Act) → IsJournal specs opening past m → IsEntry specs m seat act
    → Leads measures_any is_any_image m (events_of specs m seat act) n
    → IsJournal specs opening (entry_of seat act ∷ past) n
one_more_entry specs opening m n past seat act j is led = record {
  entries = (j.entries, subst (λ (x : State Blank). IsEntry specs x seat act) (sym j.leads.1) is);
  leads = subst (λ (x : State Blank). Leads measures_any is_any_image opening
      (joined (transcript_of specs opening past) (events_of specs x seat act)) n) (sym j.leads.1)
      (join_is measures_any is_any_image opening m n (transcript_of specs opening past) (events_of specs m seat act)
      j.leads led);
}

-- the transcript of one journal behind another
pub joined_transcript : (specs : List StreamSpec) (l m : State Blank) (first second : List Entry)
    → state_from l (transcript_of specs l first) ≡ m
    → transcript_of specs l (second ++ first) ≡ joined (transcript_of specs l first) (transcript_of specs m second)
joined_transcript specs l m first [] e = refl
joined_transcript specs l m first (entry ∷ second) e =
    let p = transcript_of specs l first in
    let q = transcript_of specs m second in
    let all = transcript_of specs l (second ++ first) in
    let same = joined_transcript specs l m first second e in
    let at : state_from l all ≡ state_from m q =
    ap (state_from l) same ∙ joined_state l p q ∙ ap (λ (n : State Blank). state_from n q) e in
    ap (λ (t : Transcript Blank Blank). joined t (events_of specs (state_from l all) entry.seat entry.act)) same
    ∙ ap (λ (n : State Blank). joined (joined p q) (events_of specs n entry.seat entry.act)) at
    ∙ joined_again p q (events_of specs (state_from m q) entry.seat entry.act)

joined_entries : (specs : List StreamSpec) (l m : State Blank) (first second : List Entry)
    → state_from l (transcript_of specs l first) ≡ m → AreEntries specs l first → AreEntries specs m second
    → AreEntries specs l (second ++ first)
joined_entries specs l m first [] e a b = a
joined_entries specs l m first (entry ∷ second) e a b =
    let p = transcript_of specs l first in
    let q = transcript_of specs m second in
    let at : state_from l (transcript_of specs l (second ++ first)) ≡ state_from m q =
    ap (state_from l) (joined_transcript specs l m first second e) ∙ joined_state l p q
    ∙ ap (λ (n : State Blank). state_from n q) e in (
      joined_entries specs l m first second e a b.0,
      subst (λ (n : State Blank). IsEntry specs n entry.seat entry.act) (sym at) b.1,
    )

-- a journal is one where more streams are behind its own too, with the same transcript
pub journal_behind : (specs more : List StreamSpec) (l m : State Blank) (past : List Entry)
    → IsJournal specs l past m
    → IsJournal (specs ++ more) l past m × (transcript_of (specs ++ more) l past ≡ transcript_of specs l past)
journal_behind specs more l m past j =
    let same = same_transcript specs more l past j.entries in (
      record {
        entries = still_entries specs more l past j.entries;
        leads = subst (λ (q : Transcript Blank Blank). Leads measures_any is_any_image l q m) (sym same) j.leads;
      },
      same,
    )

pub joined_is : JoinedLaw
joined_is specs more l m n first second j k =
    let all = specs ++ more in
    let still = journal_behind specs more l m first j in
    let p = transcript_of all l first in
    let q = transcript_of all m second in
    let same = joined_transcript all l m first second still.0.leads.1 in (
      record {
        entries = joined_entries all l m first second still.0.leads.1 still.0.entries k.entries;
        leads = subst (λ (t : Transcript Blank Blank). Leads measures_any is_any_image l t n) (sym same)
            (join_is measures_any is_any_image l m n p q still.0.leads k.leads);
      },
      same ∙ ap (λ (t : Transcript Blank Blank). joined t q) still.1,
    )

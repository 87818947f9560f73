use Rattle.std.proofs.Common.{◌≡◌, ◌∙◌, ◌+◌, ◌-◌, ◌++◌, ℕ, ap, append-nil, arith, drop, take}
use Rattle.std.proofs.lemmas.Bool.Decides.{nat_tests}
use Rattle.std.proofs.lemmas.List.{length-drop, length-take}
use borrow.Rule.Slice.PartMut.{put_mid}
use Rattle.y4m_stream.proofs.Known.{prepend_known-read}
use Rattle.serve_report.proofs.Feeding.{keeps_held, moved_held}
use Rattle.serve_report.proofs.control.feed.Feed.read_more.Goals as goal

pub returns-in_err-count-clause-bytes : goal.returns-in_err-count-clause-bytes
returns-in_err-count-clause-bytes g c =
    let inside = c.self.inside in
    let held = inside.to - inside.from in
    let now = moved_held inside.room inside.from inside.to (1025 - held) c.copy_within.new.self c.copy_within.ensures.after
    c.read.new.buf 0 (omega arith) (omega arith) (omega (arith, c.copy_within.ensures.len)) (omega arith) in
    let none : held ≡ held + 0 = omega arith in
    rw (← c.self.view_is)
    (keeps_held _ _ (drop inside.from (take inside.to inside.room)) _
    (ap (λ n. take n (put_mid held (1025 - held) c.copy_within.new.self c.read.new.buf)) none ∙ now ∙ append-nil _)
    c.in_err-count.ensures.bytes)

pub returns-clause-bytes : goal.returns-clause-bytes
returns-clause-bytes g c =
    let inside = c.self.inside in
    let now = moved_held inside.room inside.from inside.to (1025 - (inside.to - inside.from)) c.copy_within.new.self
    c.copy_within.ensures.after c.read.new.buf c.in_ok-count.count (omega arith) (omega arith)
    (omega (arith, c.copy_within.ensures.len)) c.in_ok-count.ensures.bound.0 in
    rw (← c.self.view_is)
    (prepend_known-read _ _ (drop inside.from (take inside.to inside.room)) (take c.in_ok-count.count c.read.new.buf) _
    c.in_ok-count.ensures.bytes.0 now)

pub returns-clause-none : goal.returns-clause-none
returns-clause-none g c = λ none.
    let inside = c.self.inside in
    let count = c.in_ok-count.count in
    let is : count ≡ 0 = grind (arith, nat_tests) in
    let within = rw (← c.self.view_is) at c.requires in
    let now = moved_held inside.room inside.from inside.to (1025 - (inside.to - inside.from)) c.copy_within.new.self
    c.copy_within.ensures.after c.read.new.buf count (omega arith) (omega arith)
    (omega (arith, c.copy_within.ensures.len)) c.in_ok-count.ensures.bound.0 in
    rw (← c.self.view_is) (
      now ∙ ap (λ n. drop inside.from (take inside.to inside.room) ++ take n c.read.new.buf) is ∙ append-nil _,
      c.in_ok-count.ensures.bytes.1 is
          (omega (arith, within, c.read.auto.buf, c.copy_within.ensures.len, length-drop {A = ℕ}, length-take {A = ℕ})),
    )

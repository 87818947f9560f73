use Rattle.std.proofs.Common.{◌≡◌, ap, ◌∙◌, List, ℕ}
use Rattle.y4m_header.specs.Header.{HeaderValue}
use Rattle.y4m_header.specs.HeaderLine.{IsHeaderLine}
use Rattle.y4m_header.specs.Resized.{resized_line}
use Rattle.y4m_header.proofs.HeaderFacts.{header_from_invariant}
use Rattle.y4m_header.proofs.ResizedLine.{resized_is_header, resized_shorter, resizes_header}
use Rattle.y4m_header.proofs.header.Header.resized.Goals as goal

pub invariant_of-result : goal.invariant_of-result
invariant_of-result c =
    let old = c.args.self.now in
    let w = c.args.width in
    let h = c.args.height in
    let asked = c.requires in
    let is : IsHeaderLine old.line old.width old.height old.chroma =
    rw (← c.self.view_is) (header_from_invariant _ _ _ _ c.self.invariant) in
    let kept = c.deref.ensures.value ∙ ap (λ (v : HeaderValue). v.line) c.self.view_is in
    let line : c.in_ok-resized_line.field-0.items ≡ resized_line old.line w h =
    c.in_ok-resized_line.ensures ∙ ap (λ (l : List ℕ). resized_line l w h) kept in
    let chroma : c.self.inside.chroma ≡ old.chroma = ap (λ (v : HeaderValue). v.chroma) c.self.view_is in
    let new = resized_is_header old.line old.width old.height w h old.chroma is
    asked.some_width asked.within_width asked.some_height asked.within_height asked.divided in
    ∣ rw (line, chroma) new ∣₁

pub returns-clause-never_longer : goal.returns-clause-never_longer
returns-clause-never_longer c =
    let old = c.args.self.now in
    let w = c.args.width in
    let h = c.args.height in
    let asked = c.requires in
    let is : IsHeaderLine old.line old.width old.height old.chroma =
    rw (← c.self.view_is) (header_from_invariant _ _ _ _ c.self.invariant) in
    let kept = c.deref.ensures.value ∙ ap (λ (v : HeaderValue). v.line) c.self.view_is in
    let line : c.in_ok-resized_line.field-0.items ≡ resized_line old.line w h =
    c.in_ok-resized_line.ensures ∙ ap (λ (l : List ℕ). resized_line l w h) kept in
    let resizes = resizes_header old.line old.width old.height w h old.chroma is
    asked.some_width asked.within_width asked.some_height asked.within_height in
    rw line (resized_shorter old.line old.width old.height w h old.chroma is
    asked.within_width asked.within_height resizes)

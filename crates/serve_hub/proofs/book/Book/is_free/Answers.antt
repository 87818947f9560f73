use Rattle.std.proofs.Common.{ℕ, ◌≡◌, ◌≢◌, ◌∙◌, length, Some, slice_get, refl, sym, subst, arith}
use Rattle.std.proofs.lemmas.Option.{slice_get_within}
use Rattle.serve_core.specs.declared.held.Held.{Held}
use Rattle.serve_hub.specs.Books.{BookValue}
use Rattle.serve_hub.specs.Ends.{AreFree}
use Rattle.serve_hub.proofs.Freeing.{held_here, not_held}
use Rattle.serve_hub.proofs.Seating.{one_more_number}
use Rattle.serve_hub.proofs.book.Book.is_free.Goals as goal

pub loop-w-preserved : goal.loop-w-preserved
loop-w-preserved c w held less =
    let b = c.args.self.now in
    let free = λ (n : ℕ). (held : Held) → slice_get b.desk.workers n ≢ Some (Some held) in
    let here = subst (λ (b : BookValue). (held : Held) → slice_get b.desk.workers c.loop-w.w ≢ Some (Some held))
    c.self.view_is
    (not_held c.self.inside.desk c.loop-w.w c.lease_of_worker.result (sym c.is_ok.ensures.value ∙ c.if-is_ok.false) c.lease_of_worker.ensures.err)
    in
    one_more_number free c.loop-w.w (λ n l held. c.loop-w.invariant n held l) here w less held

-- there are fewer workers than a u32 counts
pub returns-in_default : goal.returns-in_default
returns-in_default c = (
  λ yes. absurd (cc),
  λ free.
      absurd (omega (
        arith,
        c.self.invariant.is_book.sound.workers,
        c.self.invariant.is_book.workers,
        c.len.ensures,
        c.self.inside.units.ok.0,
      )),
)

pub returns-then-is_ok : goal.returns-then-is_ok
returns-then-is_ok c = (
  λ yes. absurd (cc),
  λ free.
      absurd (held_here c.self.inside.desk c.loop-w.w c.lease_of_worker.result (sym c.is_ok.ensures.value ∙ c.if-is_ok.true)
      c.lease_of_worker.ensures.ok (subst (λ (b : BookValue). AreFree b.desk.workers) (sym c.self.view_is) free)),
)

pub returns : goal.returns
returns c = (
  λ yes w held here.
      let b = c.args.self.now in
      let count = subst (λ (b : BookValue). length c.self.inside.units.items ≡ length b.desk.workers) c.self.view_is
      c.self.invariant.is_book.workers in
      c.loop-w.invariant w held
      (omega (
        arith,
        slice_get_within b.desk.workers w (Some held) here,
        count,
        c.len.ensures,
        c.in-Ok.ensures.1,
        c.self.inside.units.ok.0,
      ))
      here,
  λ free. refl,
)

use Rattle.std.proofs.Common.{◌<◌, ◌∙◌}
use Rattle.std.proofs.lemmas.List.Quantifiers.{all_pairs_remove}
use Rattle.serve_report.proofs.TakenBack.{left_below, stands_not, taken}
use Rattle.serve_report.proofs.control.tickets.Tickets.take.Goals as goal

pub invariant_of-self : goal.invariant_of-self
invariant_of-self c =
    let given = c.self.inside.given.items in
    let less = rw (← c.self.view_is) at c.in-Some.ensures.0 in
    rw c.remove.ensures.items (
      all_pairs_remove (λ one later. one < later) given c.in-Some.place less c.self.invariant.0,
      left_below given c.in-Some.place _ c.self.invariant.1,
    )

pub returns-in-Some : goal.returns-in-Some
returns-in-Some c = λ before after is.
    let less = rw (← c.self.view_is) at c.in-Some.ensures.0 in
    let stands = rw (← c.self.view_is) at c.in-Some.ensures.1 in
    rw c.remove.ensures.items
    (taken c.self.inside.given.items before after _ c.in-Some.place c.self.invariant.0 less stands (c.self.view_is ∙ is))

pub returns-in_default : goal.returns-in_default
returns-in_default c = λ before after is. absurd (stands_not _ before after _ c.in_default.ensures is)

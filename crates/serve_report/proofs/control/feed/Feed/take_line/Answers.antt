use Rattle.std.proofs.Common.{◌+◌, ℕ, arith, refl}
use Rattle.std.proofs.lemmas.List.{length-drop, length-take}
use Rattle.serve_report.proofs.Feeding.{front_taken, rest_taken}
use Rattle.serve_report.proofs.control.feed.Feed.take_line.Goals as goal

pub returns : goal.returns
returns g c =
    let inside = c.self.inside in
    let within = rw (← c.self.view_is) at c.requires in
    rw (
      ← c.self.view_is,
      front_taken inside.room inside.from inside.to c.args.place
          (omega (arith, length-drop {A = ℕ}, length-take {A = ℕ}, within)),
      rest_taken inside.room inside.from inside.to (c.args.place + 1),
    ) refl

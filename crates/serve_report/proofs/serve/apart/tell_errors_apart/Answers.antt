use Rattle.std.proofs.Common.{◌≡◌, ◌-◌, arith, codes, drop, length, take, true}
use Rattle.std.proofs.lemmas.Bool.{iff_false}
use Rattle.std.proofs.lemmas.List.{length-drop, take_all}
use Rattle.serve_words.specs.ServeChecks.{all_told}
use Rattle.serve_report.specs.Apart.{name_used}
use Rattle.serve_report.proofs.Apart.{errors_apart}
use Rattle.serve_report.proofs.serve.apart.tell_errors_apart.Goals as goal

pub returns : goal.returns
returns g c =
    let uses = c.in-Ok.uses.items in
    let errors = c.use_of-errors.result in
    let named : name_used errors ≡ (codes "/dev/stderr", true) = cc in
    let behind : take (length uses - 1) (drop 1 uses) ≡ drop 1 uses =
    take_all (length uses - 1) (drop 1 uses) (omega (arith, length-drop 1 uses)) in
    let none = rw c.deref.ensures.value at (iff_false c.has_clash.ensures c.if-has_clash.false) in
    errors_apart g.F.Files.place_gives (all_told c.args.streams.now) uses errors
    c.in-Ok.ensures named c.use_of-errors.ensures.place (rw behind at none)

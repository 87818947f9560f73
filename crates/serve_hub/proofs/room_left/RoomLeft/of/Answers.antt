use Rattle.std.proofs.Common.{ℕ, Bool, ◌∙◌, ap, sym}
use Rattle.serve_hub.specs.Books.{RoomValue, room_of}
use Rattle.serve_hub.proofs.room_left.RoomLeft.of.Goals as goal

pub invariant_of-result : goal.invariant_of-result
invariant_of-result g c =
    let b = c.shared.inside.book in
    let told : RoomValue = record { entries = c.left.result; is_ending = c.is_ending.result } in record {
      book = b;
      is_book = c.journal-recalled.ensures.book;
      opened = c.shared.invariant.4.same;
      room = sym (ap (λ (n : ℕ). record told { entries = n }) c.left.ensures
          ∙ ap (λ (e : Bool). record (room_of b) { is_ending = e }) c.is_ending.ensures);
    }

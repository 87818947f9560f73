-- What a book keeps, and what it stands for.
use Rattle.std.specs.Prelude.{ℕ, ◌*◌, ◌≡◌, ◌≤◌, ◌^◌, length, reverse, slice_get, Some}
use Rattle.std.specs.Vec.{vec_capacity}
use Rattle.serve_hub.specs.declared.book.Book.TheInside.{Inside}
use Rattle.cbs_account.specs.declared.limits.TheConstants.{MOST_ENTRIES}
use Rattle.serve_hub.specs.Books.{BookValue, IsBook, taken}

abbrev pub book : Inside → BookValue
book a = record {
  opening = a.opening.value;
  past = reverse a.journal.items;
  desk = a.desk;
  limit = a.limit;
  units = a.units.items;
  is_ending = a.is_ending;
}

pub record IsKept (a : Inside) : Type 0 where
  pub is_book : IsBook (book a)
  pub counted : a.taken ≡ taken (book a)
  pub limit : a.limit ≤ MOST_ENTRIES
  -- the journal is reserved
  pub reserved : a.limit ≤ vec_capacity a.journal
  -- a settlement adds less than 2^32 units
  pub few : (w n : ℕ) → slice_get a.units.items w ≡ Some n → n ≤ length a.journal.items * 2 ^ 32

-- The numbers and the words that refusals are told by.
use Rattle.std.specs.Prelude.{ℕ, List, codes}
use Rattle.serve_core.specs.declared.refusal.Refusal.{Refusal}
use Rattle.serve_core.specs.declared.refusal.Refusal.TheVariants as refusals

abbrev pub refusal_code : Refusal → ℕ
refusal_code refusals.NoStream = 1
refusal_code refusals.Closed = 2
refusal_code refusals.WrongSize = 3
refusal_code refusals.TooManyFrames = 4
refusal_code refusals.Full = 5
refusal_code refusals.NoMemory = 6
refusal_code refusals.NoWorker = 7
refusal_code refusals.Busy = 8
refusal_code refusals.NoneReady = 9
refusal_code refusals.NoLease = 10
refusal_code refusals.GrantSpent = 11
refusal_code refusals.Past = 12
refusal_code refusals.ClockEnd = 13
refusal_code refusals.AlreadyClosed = 14
refusal_code refusals.Empty = 15
refusal_code refusals.Drained = 16
refusal_code refusals.TooManyStreams = 20
refusal_code refusals.BadLimits = 21
refusal_code refusals.BadBandwidth = 22
refusal_code refusals.Overload = 23

abbrev pub refusal_word : Refusal → List ℕ
refusal_word refusals.NoStream = codes "NoStream"
refusal_word refusals.Closed = codes "Closed"
refusal_word refusals.WrongSize = codes "WrongSize"
refusal_word refusals.TooManyFrames = codes "TooManyFrames"
refusal_word refusals.Full = codes "Full"
refusal_word refusals.NoMemory = codes "NoMemory"
refusal_word refusals.NoWorker = codes "NoWorker"
refusal_word refusals.Busy = codes "Busy"
refusal_word refusals.NoneReady = codes "NoneReady"
refusal_word refusals.NoLease = codes "NoLease"
refusal_word refusals.GrantSpent = codes "GrantSpent"
refusal_word refusals.Past = codes "Past"
refusal_word refusals.ClockEnd = codes "ClockEnd"
refusal_word refusals.AlreadyClosed = codes "AlreadyClosed"
refusal_word refusals.Empty = codes "Empty"
refusal_word refusals.Drained = codes "Drained"
refusal_word refusals.TooManyStreams = codes "TooManyStreams"
refusal_word refusals.BadLimits = codes "BadLimits"
refusal_word refusals.BadBandwidth = codes "BadBandwidth"
refusal_word refusals.Overload = codes "Overload"

-- The commands of a session script, and the lines that write them.
use Rattle.std.specs.Prelude.{ℕ, ◌≡◌, ⊤, true, ◌&&◌, nat_le, if◌then◌else◌, List, [], ◌∷◌, length, codes}
use Rattle.std.specs.Prelude.{Option, Some, None, option_and_then}
use Rattle.std.specs.Option.{option_map}
use Rattle.std.specs.Str.{bytes_eq}
use Rattle.serve_script.specs.ScriptCommand.{word_number}
use Rattle.serve_script.specs.SessionWords.{behind_word, cut_at_spaces, first_word, is_hex}
use Rattle.y4m_header.specs.Text.{is_name}
use Rattle.serve_script.specs.SessionWords.{name_of, worker_of}
use Rattle.serve_script.specs.declared.session.run_command.RunCommand.{RunCommand}
use Rattle.serve_script.specs.declared.session.run_command.RunCommand.TheVariants as run
use Rattle.serve_script.specs.declared.session.setup_command.SetupCommand.{SetupCommand}
use Rattle.serve_script.specs.declared.session.setup_command.SetupCommand.TheVariants as setup
use Rattle.serve_script.specs.declared.session.stream_command.StreamCommand.{StreamCommand}
use Rattle.serve_script.specs.declared.session.stream_command.StreamWords.{StreamWords}

-- a stream, as its line asks for it
pub record StreamForm : Type 0 where
  pub name : List ℕ
  pub q : ℕ
  pub t : ℕ
  pub queue : ℕ
  pub outbox : ℕ
  pub operations : List ℕ
  pub header : List ℕ

-- what a line asks for before `start`
pub data SetupForm : Type 0 where
  Workers : (count : ℕ) → SetupForm
  Quantum : (bands : ℕ) → SetupForm
  Band : (rows : ℕ) → SetupForm
  Frames : (most : ℕ) → SetupForm
  Stream : (stream : StreamForm) → SetupForm
  Start : SetupForm

-- what a line asks for after `start`
pub data RunForm : Type 0 where
  Arrive : (name hex : List ℕ) → RunForm
  Lease : (worker : ℕ) → RunForm
  Step : (worker : ℕ) → RunForm
  Settle : (worker : ℕ) → RunForm
  Tick : (moment : ℕ) → RunForm
  Close : (name : List ℕ) → RunForm
  Collect : (name : List ℕ) → RunForm
  Admit : (stream : StreamForm) → RunForm
  State : (name : List ℕ) → RunForm

-- a stream by its texts and the numbers that were read, if all of them are numbers
abbrev pub stream_by : (name operations header : List ℕ) → (q t queue outbox : Option ℕ) → Option StreamForm
stream_by name operations header (Some q) (Some t) (Some queue) (Some outbox) = Some (record {
  name = name;
  q = q;
  t = t;
  queue = queue;
  outbox = outbox;
  operations = operations;
  header = header;
})
stream_by name operations header q t queue outbox = None

-- NAME Q T QUEUE OUTBOX OPS HEADER
abbrev pub stream_of_parts : List (List ℕ) → Option StreamForm
stream_of_parts (name ∷ q ∷ t ∷ queue ∷ outbox ∷ operations ∷ header ∷ []) =
    if is_name name && nat_le 1 (length operations)
    then stream_by name operations header
    (word_number q) (word_number t) (word_number queue) (word_number outbox)
    else None
stream_of_parts _ = None

-- the stream that the text behind `stream` or `admit` asks for: the header is all that follows the sixth
-- space
abbrev pub stream_of : List ℕ → Option StreamForm
stream_of text = stream_of_parts (cut_at_spaces 6 text)

-- the setup command of this first word, with what stands behind it
abbrev pub setup_with : List ℕ → List ℕ → Option SetupForm
setup_with word rest =
    if bytes_eq word (codes "workers") then option_map (λ count. Workers count) (word_number rest)
    else if bytes_eq word (codes "quantum") then option_map (λ bands. Quantum bands) (word_number rest)
    else if bytes_eq word (codes "band") then option_map (λ rows. Band rows) (word_number rest)
    else if bytes_eq word (codes "frames") then option_map (λ most. Frames most) (word_number rest)
    else if bytes_eq word (codes "stream") then option_map (λ stream. Stream stream) (stream_of rest)
    else None

abbrev pub setup_by : List ℕ → Option (List ℕ) → Option SetupForm
setup_by word None = if bytes_eq word (codes "start") then Some Start else None
setup_by word (Some rest) = setup_with word rest

-- the command that a line before `start` writes, if it is one
abbrev pub setup_of : List ℕ → Option SetupForm
setup_of line = setup_by (first_word line) (behind_word line)

-- NAME HEX
abbrev pub arrival_by : List ℕ → Option (List ℕ) → Option RunForm
arrival_by name None = None
arrival_by name (Some hex) = if is_name name && is_hex hex then Some (Arrive name hex) else None

abbrev pub arrival_of : List ℕ → Option RunForm
arrival_of text = arrival_by (first_word text) (behind_word text)

-- the command of this first word after `start`, with what stands behind it
abbrev pub run_with : List ℕ → List ℕ → Option RunForm
run_with word rest =
    if bytes_eq word (codes "arrive") then arrival_of rest
    else if bytes_eq word (codes "lease") then option_map (λ worker. Lease worker) (worker_of rest)
    else if bytes_eq word (codes "band") then option_map (λ worker. Step worker) (worker_of rest)
    else if bytes_eq word (codes "settle") then option_map (λ worker. Settle worker) (worker_of rest)
    else if bytes_eq word (codes "tick") then option_map (λ moment. Tick moment) (word_number rest)
    else if bytes_eq word (codes "close") then option_map (λ name. Close name) (name_of rest)
    else if bytes_eq word (codes "collect") then option_map (λ name. Collect name) (name_of rest)
    else if bytes_eq word (codes "admit") then option_map (λ stream. Admit stream) (stream_of rest)
    else if bytes_eq word (codes "state") then option_map (λ name. State name) (name_of rest)
    else None

-- the command that a line after `start` writes, if it is one
abbrev pub run_of : List ℕ → Option RunForm
run_of line = option_and_then (run_with (first_word line)) (behind_word line)

-- commands of the program as lines ask for them
abbrev pub stream_told : StreamCommand → StreamForm
stream_told stream = record {
  name = stream.name.now;
  q = stream.q;
  t = stream.t;
  queue = stream.queue;
  outbox = stream.outbox;
  operations = stream.operations.now;
  header = stream.header.now;
}

abbrev pub setup_told : SetupCommand → SetupForm
setup_told (setup.Workers count) = Workers count
setup_told (setup.Quantum bands) = Quantum bands
setup_told (setup.Band rows) = Band rows
setup_told (setup.Frames most) = Frames most
setup_told (setup.Stream stream) = Stream (stream_told stream)
setup_told setup.Start = Start

abbrev pub run_told : RunCommand → RunForm
run_told (run.Arrive name hex) = Arrive name.now hex.now
run_told (run.Lease worker) = Lease worker
run_told (run.Step worker) = Step worker
run_told (run.Settle worker) = Settle worker
run_told (run.Tick moment) = Tick moment
run_told (run.Close name) = Close name.now
run_told (run.Collect name) = Collect name.now
run_told (run.Admit stream) = Admit (stream_told stream)
run_told (run.State name) = State name.now

-- the words of a stream's line, in order
abbrev pub parts_of : StreamWords → List (List ℕ)
parts_of words =
    words.name.now ∷ words.q.now ∷ words.t.now ∷ words.queue.now ∷ words.outbox.now
    ∷ words.operations.now ∷ words.header.now ∷ []

-- the data of an arrival are pairs of hexadecimal digits
abbrev pub HasHex : RunForm → Type 0
HasHex (Arrive name hex) = is_hex hex ≡ true
HasHex form = ⊤

-- The records of a trace: objects of the Trace Event Format. Workers are the lanes of process 1, and streams
-- those of process 2. A name is a stream's, of letters, digits, `_` and `-` alone, so that none needs an
-- escape.
use Rattle.std.specs.Prelude.{ℕ, ◌-◌, List, ◌++◌, Option, None, Some, codes, decimal, nat_le, if◌then◌else◌}
use Rattle.serve_watch.specs.declared.trace.record.Client.{Client}
use Rattle.serve_watch.specs.declared.trace.record.Doing.{Doing}
use Rattle.serve_watch.specs.declared.trace.record.Doing.TheVariants.{Reading, Waiting, Writing}
use Rattle.serve_watch.specs.declared.trace.record.Frames.{Frames}
use Rattle.serve_watch.specs.declared.trace.record.Lead.{Lead}
use Rattle.serve_watch.specs.declared.trace.record.Leads.{Leads}
use Rattle.serve_watch.specs.declared.trace.record.Leased.{Leased}
use Rattle.serve_watch.specs.declared.trace.record.StreamName.{StreamName}
use Rattle.serve_watch.specs.declared.trace.record.WorkerName.{WorkerName}

-- the name of a worker's lane
abbrev pub worker_text : WorkerName → List ℕ
worker_text worker =
    codes "{\"name\":\"thread_name\",\"ph\":\"M\",\"pid\":1,\"tid\":" ++ decimal worker.lane
    ++ codes ",\"args\":{\"name\":\"worker " ++ decimal worker.number ++ codes "\"}}"

-- the name of a stream's lane
abbrev pub stream_text : StreamName → List ℕ
stream_text stream =
    codes "{\"name\":\"thread_name\",\"ph\":\"M\",\"pid\":2,\"tid\":" ++ decimal stream.lane
    ++ codes ",\"args\":{\"name\":\"" ++ stream.name.now ++ codes "\"}}"

-- a lease, of a frame of the stream of this name, with what was done under it
abbrev pub leased_text : Leased → List ℕ
leased_text leased =
    codes "{\"name\":\"" ++ leased.name.now ++ codes " " ++ decimal leased.number
    ++ codes "\",\"ph\":\"X\",\"pid\":1,\"tid\":" ++ decimal leased.lane
    ++ codes ",\"ts\":" ++ decimal leased.begin ++ codes ",\"dur\":" ++ decimal leased.time
    ++ codes ",\"args\":{\"bands\":" ++ decimal leased.bands
    ++ codes ",\"units\":" ++ decimal leased.units
    ++ codes ",\"epoch\":" ++ decimal leased.epoch ++ codes "}}"

abbrev pub doing_word : Doing → List ℕ
doing_word Reading = codes "reading"
doing_word Waiting = codes "waiting"
doing_word Writing = codes "writing"

-- what the client of a stream does for a time
abbrev pub client_text : Client → List ℕ
client_text client =
    codes "{\"name\":\"" ++ doing_word client.doing
    ++ codes "\",\"ph\":\"X\",\"pid\":2,\"tid\":" ++ decimal client.lane
    ++ codes ",\"ts\":" ++ decimal client.begin ++ codes ",\"dur\":" ++ decimal client.time ++ codes "}"

-- the frames of a stream that aren't finished, and its images that wait to be written
abbrev pub frames_text : Frames → List ℕ
frames_text frames =
    codes "{\"name\":\"" ++ frames.name.now
    ++ codes " frames\",\"ph\":\"C\",\"pid\":2,\"ts\":" ++ decimal frames.at
    ++ codes ",\"args\":{\"unfinished\":" ++ decimal frames.unfinished
    ++ codes ",\"waiting\":" ++ decimal frames.waiting ++ codes "}}"

-- the deadline less the clock
abbrev pub lead_text : Lead → List ℕ
lead_text lead =
    if nat_le lead.clock lead.deadline then decimal (lead.deadline - lead.clock)
    else codes "-" ++ decimal (lead.clock - lead.deadline)

-- how far a stream's deadline lies ahead, in moments
abbrev pub leads_text : Leads → List ℕ
leads_text leads =
    codes "{\"name\":\"" ++ leads.name.now
    ++ codes " deadline\",\"ph\":\"C\",\"pid\":2,\"ts\":" ++ decimal leads.at
    ++ codes ",\"args\":{\"moments\":" ++ lead_text leads.lead ++ codes "}}"

-- what a file holds, where there is one and its bytes are known
abbrev pub held_in : {W : Type 0} → (contents : W → Option (List ℕ)) → Option W → Option (List ℕ)
held_in contents None = None
held_in contents (Some output) = contents output

-- Events and replies of the machine as transcripts have them.
use Rattle.std.specs.Prelude.{◌≡◌, ⊤}
use Rattle.std.specs.Global.{Global}
use Rattle.std.specs.Arc.{arc_value}
use Rattle.std.specs.declared.sync.Arc.{Arc}
use Rattle.frame_view.specs.declared.frame.Frame.{Frame}
use Rattle.filters.specs.ChainImage.{FrameValue, value_of}
use Rattle.serve_core.specs.declared.event.Event as code
use Rattle.serve_core.specs.declared.event.Event.TheVariants as events
use Rattle.serve_core.specs.declared.event.Reply as answer
use Rattle.serve_core.specs.declared.event.Reply.TheVariants as replies
use Rattle.serve_core.specs.Events.{Event, Arrive, Lease, Band, Settle, Tick, Close, Collect, Admit}
use Rattle.serve_core.specs.Events.{Image, Admitted, Refused, GivenBack, SpecBack}
use Rattle.serve_core.specs.Events.{Reply, Accepted, Leased, Stepped, Returned, Finished, Ticked, Closing}

abbrev pub seen : code.Event → Event FrameValue
seen (events.Arrive s frame) = Arrive s (value_of (arc_value frame))
seen (events.Lease w) = Lease w
seen (events.Band w) = Band w
seen (events.Settle w) = Settle w
seen (events.Tick to) = Tick to
seen (events.Close s) = Close s
seen (events.Collect s) = Collect s
seen (events.Admit spec) = Admit spec

abbrev pub heard : answer.Reply → Reply FrameValue FrameValue
heard (replies.Accepted n) = Accepted n
heard (replies.Leased s n g) = Leased s n g
heard replies.Stepped = Stepped
heard replies.Returned = Returned
heard (replies.Finished n) = Finished n
heard replies.Ticked = Ticked
heard replies.Closing = Closing
heard (replies.Image image) = Image (value_of image)
heard (replies.Admitted s) = Admitted s
heard (replies.Refused k) = Refused k
heard (replies.GivenBack k frame) = GivenBack k (value_of (arc_value frame))
heard (replies.SpecBack k spec) = SpecBack k spec

-- a frame that comes back is the one that was handed over
abbrev pub IsGivenBack : Arc Frame Global → answer.Reply → Type 0
IsGivenBack frame (replies.GivenBack k back) = back ≡ frame
IsGivenBack frame r = ⊤

abbrev pub GivesBack : code.Event → answer.Reply → Type 0
GivesBack (events.Arrive s frame) r = IsGivenBack frame r
GivesBack e r = ⊤

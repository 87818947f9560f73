use Rattle.y4m_stream.specs.Reader.{frame_text_of}
use Rattle.y4m_stream.proofs.MoreFrames.{made_text}
use Rattle.y4m_stream.proofs.overlapped.paint_and_put.Goals as goal

pub returns-clause-put : goal.returns-clause-put
returns-clause-put g c = record {
  image = frame_text_of c.image.result.now;
  made = made_text _ c.paint.new.self c.args.filter.now.frame c.paint.new.source c.image.result.now c.paint.ensures.chain
      c.requires.geometry c.paint.ensures.made c.image.ensures.last;
  holds = c.put.ensures.is_open c.requires.writing;
}

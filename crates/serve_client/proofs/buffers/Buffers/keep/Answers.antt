use Rattle.serve_client.proofs.buffers.Buffers.keep.Goals as goal

pub returns-clause-sized : goal.returns-clause-sized
returns-clause-sized c = λ chain all size image.
    c.keep_image.ensures.sized chain (c.keep_source.ensures.sized chain all size) image

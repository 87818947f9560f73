use Rattle.std.proofs.Common.{◌∙◌, ap}
use Rattle.serve_report.proofs.host.Host.open_stream.Goals as goal

pub returns-in-Err-job_of-clause-stop : goal.returns-in-Err-job_of-clause-stop
returns-in-Err-job_of-clause-stop g c =
    let size = c.of-geometry.ensures in
    record {
      reader = c.in-Ok-open_reader.reader;
      input = record { bytes = _; input = c.in-Ok.ensures.file; behind = c.in-Ok-open_reader.ensures.reader };
      geometry = c.of-geometry.result;
      size = record {
        width = size.width ∙ ap (λ header. header.width) c.header.ensures;
        height = size.height ∙ ap (λ header. header.height) c.header.ensures;
        chroma = size.chroma ∙ ap (λ header. header.chroma) c.header.ensures;
      };
      refused = c.in-Err-job_of.ensures.refused;
    }

-- What a job keeps, and what it stands for.
use Rattle.std.specs.Arc.{arc_value}
use Rattle.lease.specs.declared.job.Job.TheInside.{Inside}
use Rattle.lease.specs.Job.{JobValue}

abbrev pub job_of : Inside → JobValue
job_of a = record {
  chain = arc_value a.spec;
  source = arc_value a.source;
  scratch = a.scratch;
  canvas = a.canvas;
  done = a.done;
}

use Rattle.serve_report.proofs.host.Host.run_serve.Goals as goal

pub returns-in_default-trace-clause-well : goal.returns-in_default-trace-clause-well
returns-in_default-trace-clause-well g c = λ well none. record {
  checked = c.in-Ok.checked;
  asked = c.in-Ok.ensures.passed;
  options = c.in-Ok.ensures.options;
  said = c.in-Ok.ensures.ops;
  apart = rw c.deref.ensures.value at c.in_default.ensures.apart;
  errors_apart = rw c.deref.ensures.value at c.in_default.ensures.errors;
  reported = rw (c.tell_served.ensures.well well) at c.serve.ensures;
}

pub returns-clause-well : goal.returns-clause-well
returns-clause-well g c = λ well none. record {
  checked = c.in-Ok.checked;
  asked = c.in-Ok.ensures.passed;
  options = c.in-Ok.ensures.options;
  said = c.in-Ok.ensures.ops;
  apart = rw c.deref.ensures.value at c.in_default.ensures.apart;
  errors_apart = rw c.deref.ensures.value at c.in_default.ensures.errors;
  reported = rw (c.tell_traced.ensures.well well) at c.serve_traced.ensures;
}

pub serve_traced-requires-clause-apart : goal.serve_traced-requires-clause-apart
serve_traced-requires-clause-apart g c κs within = rw c.deref.ensures.value at c.in_default.ensures.apart

use Rattle.std.proofs.Common.{rules}
use Rattle.serve_core.proofs.stream.Stream.arrival_refusal.Goals as goal

pub returns-then-not-is_sized-clause-refusal : goal.returns-then-not-is_sized-clause-refusal
returns-then-not-is_sized-clause-refusal c = search rules fits 200

pub returns-then-accepted-self-clause-refusal : goal.returns-then-accepted-self-clause-refusal
returns-then-accepted-self-clause-refusal c = search rules

pub returns-clause-refusal : goal.returns-clause-refusal
returns-clause-refusal c = search rules

pub returns-clause-place : goal.returns-clause-place
returns-clause-place c = search rules fits 200

pub returns-then-accepted-finished-clause-refusal : goal.returns-then-accepted-finished-clause-refusal
returns-then-accepted-finished-clause-refusal c = search rules

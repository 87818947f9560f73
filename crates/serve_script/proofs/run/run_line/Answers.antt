use Rattle.std.proofs.Common.{sym, ◌∙◌}
use Rattle.serve_script.proofs.ScriptSteps.{account_ends, begun_ends, first_ends, prepared_ends, unprepared_ends}
use Rattle.serve_script.proofs.run.run_line.Goals as goal

pub returns-then-begins_account : goal.returns-then-begins_account
returns-then-begins_account c =
    rw c.in-Fresh.is (first_ends _ _ _ _ (sym c.begins_account.ensures ∙ c.if-begins_account.true) c.run_account_line.ensures)

pub returns-else-begins_account : goal.returns-else-begins_account
returns-else-begins_account c =
    rw c.in-Fresh.is
    (unprepared_ends _ _ _ _ (sym c.begins_account.ensures ∙ c.if-begins_account.false) (rw c.new.ensures at c.run_setup_line.ensures))

pub returns-in-Account : goal.returns-in-Account
returns-in-Account c = rw c.in-Account.is (account_ends _ _ _ c.in-Account.account _ c.run_account_line-in-Account.ensures)

pub returns-in-Preparation : goal.returns-in-Preparation
returns-in-Preparation c =
    rw c.in-Preparation.is (prepared_ends _ _ _ c.in-Preparation.preparation _ c.run_setup_line-in-Preparation.ensures)

pub returns-in-Session : goal.returns-in-Session
returns-in-Session c = rw c.in-Session.is (begun_ends _ _ _ c.in-Session.session _ c.run_session_line.ensures)

use Rattle.std.proofs.Common.{sym, ◌∙◌}
use Rattle.y4m_header.proofs.Numbers.{digits_value-lt}
use Rattle.y4m_header.proofs.text.decimal_number.Goals as goal

pub returns-clause-small : goal.returns-clause-small
returns-clause-small c =
    let digits = sym c.are_digits.ensures.value ∙ c.if-not-are_digits.false in
    rw c.digits_value.ensures (digits_value-lt _ _ digits c.if-digits-most.false)

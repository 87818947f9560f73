-- What is left of operations that are read from the left.
use Rattle.std.specs.Prelude.{ℕ, List, Option}
use Rattle.y4m_header.specs.Text.{parts_left}
use Rattle.filters.specs.declared.op.Op.{Op}
use Rattle.filters.specs.OpsText.{all_ops}

abbrev pub ops_left : Option (List ℕ) → Option (List Op)
ops_left rest = all_ops (parts_left 43 rest)

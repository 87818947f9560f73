use Rattle.std.proofs.Common.{arith}
use Rattle.y4m_header.proofs.Sizes.{size_small}
use Rattle.y4m_header.proofs.size.stated_size.Goals as goal

pub overflow_cast-result : goal.overflow_cast-result
overflow_cast-result c = omega (arith, c.digits_value.ensures, size_small c.requires)

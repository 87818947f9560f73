use Rattle.std.specs.Prelude.{ℕ, Bool, true, false, ◌&&◌, ◌||◌, nat_eq, nat_lt, Option, Some, None}
use Rattle.std.specs.Prelude.{if◌then◌else◌}
use Rattle.std.specs.Option.{option_map}
use Rattle.edf_pool.specs.declared.node.Ready.{Ready}

-- the node of stream s, which is ready with this deadline or isn't ready
abbrev pub node_of : ℕ → Option ℕ → Option Ready
node_of s = option_map (λ d. record { deadline = d; stream = s })

abbrev pub deadline_of : Option Ready → Option ℕ
deadline_of = option_map (λ ready. ready.deadline)

-- whether a node goes first: the earlier deadline, then the lower number, and last where no stream is ready
abbrev pub is_less : Option Ready → Option Ready → Bool
is_less None b = false
is_less (Some a) None = true
is_less (Some a) (Some b) =
    nat_lt a.deadline b.deadline || (nat_eq a.deadline b.deadline && nat_lt a.stream b.stream)

abbrev pub lesser : Option Ready → Option Ready → Option Ready
lesser a b = if is_less b a then b else a

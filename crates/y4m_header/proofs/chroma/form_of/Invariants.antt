use Rattle.std.proofs.Common.{◌≡◌, Some, drop}
use Rattle.y4m_header.specs.Chroma.{chroma_table}
use Rattle.y4m_header.proofs.ChromaTable.{form_in, form_of_texts}
use Rattle.y4m_header.proofs.chroma.form_of.Given as goal

abbrev pub invariant-loop-value : goal.invariant-loop-value
invariant-loop-value l = form_in chroma_table (Some l.fn.name) ≡ form_of_texts (drop l.value-index l.value-items) l.fn.name

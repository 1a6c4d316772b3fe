-- `by_peptides` meets its contract. Assumes nothing.
use Rattle.protein_groups_tables.specs.PeptideLaws.{evidence_planned, by_peptides}
use Rattle.protein_groups_tables.proofs.grouping.by_peptides.Goals as goal

pub distinct_runs-metas-requires : goal.distinct_runs-metas-requires
distinct_runs-metas-requires c = let a = c.args in let e = c.evidences-found in evidence_planned a.w.now e.new.w a.k a.plan e.result e.auto.w c.requires e.ensures

pub returns : goal.returns
returns c =
    let a = c.args in let e = c.evidences-found in let d = c.distinct_runs-metas in
    by_peptides a.w.now e.new.w a.k a.plan e.result e.auto.w c.requires e.ensures d.new.w d.result.entries d.result.count d.auto.w d.ensures

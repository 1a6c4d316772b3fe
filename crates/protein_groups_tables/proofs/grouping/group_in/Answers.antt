-- `group_in` meets its contract. Assumes nothing.
use Rattle.protein_groups_tables.specs.Placed.{peptide_plan}
use Rattle.protein_groups_tables.specs.PeptideLaws.{ByPeptides}
use Rattle.protein_groups_tables.specs.PlacedLaws.{peptides_asked, proteins-asked, grouping-fits, grouping-placed}
use Rattle.protein_groups_tables.proofs.grouping.group_in.Goals.{After-by_peptides-half}
use Rattle.protein_groups_tables.proofs.grouping.group_in.Goals as goal

pub by_peptides-half-requires : goal.by_peptides-half-requires
by_peptides-half-requires c = let a = c.args in rw c.peptide_plan-first.ensures (peptides_asked a.w.now a.k a.m a.n c.requires)

half : (c : After-by_peptides-half)
    → ByPeptides c.args.w.now c.by_peptides-half.new.w c.args.k (peptide_plan c.args.k c.args.m c.args.n) c.by_peptides-half.result.found c.by_peptides-half.result.entries c.by_peptides-half.result.metas
half c = rw c.peptide_plan-first.ensures at c.by_peptides-half.ensures

pub by_proteins-made-requires : goal.by_proteins-made-requires
by_proteins-made-requires c =
    let a = c.args in let p = c.by_peptides-half in
    rw c.peptide_plan-first.ensures (proteins-asked a.w.now a.k a.m a.n c.requires p.new.w p.result.found p.result.entries p.result.metas p.auto.w (half (goal.at.by_proteins-made-requires c).After-by_peptides-half))

pub returns : goal.returns
returns c =
    let a = c.args in let g = c.requires in let p = c.by_peptides-half in let q = c.by_proteins-made in
    let d = rw c.peptide_plan-first.ensures at q.ensures in
    rw c.wide.ensures.0 (
      grouping-fits a.w.now a.k a.m a.n g p.new.w p.result.found p.result.entries p.result.metas p.auto.w (half (goal.at.returns c).After-by_peptides-half) q.new.w q.result.entries q.result.count q.auto.w d,
      grouping-placed a.w.now a.k a.m a.n g p.new.w p.result.found p.result.entries p.result.metas p.auto.w (half (goal.at.returns c).After-by_peptides-half) q.new.w q.result.entries q.result.count q.auto.w d,
    )

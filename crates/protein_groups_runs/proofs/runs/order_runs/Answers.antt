-- `order_runs` meets its contract: the texts stand where the plan says. Assumes nothing.
use Prim.Native.Nat.{◌+◌, ◌-◌}
use mathlib.Core.Path.{◌≡◌}
use mathlib.Core.List.{[]}
use native.Mathlib.Omega.{arith}
use Rattle.protein_groups_runs.specs.OrderingLaws.{counts, runs_ordered}
use Rattle.protein_groups_runs.proofs.runs.order_runs.Goals as goal

pub returns : goal.returns
returns c =
    let w = c.args.w.now in let p = c.args.plan in let t = c.args.t in let q = c.requires.tables in
    let f = c.sort_range in let g = c.number_runs-numbered in
    let e : p.bounds + (p.texts - p.bounds) ≡ p.texts = omega (arith, q.bounds) in
    let n = counts w f.new.w g.new.w [] p.things t p.runs p.bounds (p.texts - p.bounds) g.result f.auto.w g.auto.w q.order q.ranks (omega (arith, q.bounds, q.lists, q.keys, q.fits)) q.few f.ensures g.ensures in
    rw e at
    (runs_ordered w f.new.w g.new.w [] p.things t p.runs p.bounds (p.texts - p.bounds) g.result f.auto.w g.auto.w q.order q.ranks (omega (arith, q.bounds, q.lists, q.keys, q.fits)) q.few f.ensures g.ensures c.unwrap_or.result (rw (c.unwrap_or.ensures, n)))

-- `link` meets its contract. Assumes nothing.
use Prim.Native.Nat.{ℕ, ◌+◌}
use mathlib.Core.Path.{◌≡◌}
use lib.ListN.{length, get_or}
use Rattle.lists.specs.FrameLaws.{Out}
use Rattle.cover_edges.specs.Chains.{Chains}
use Rattle.cover_edges.proofs.linking.link.Given as goal

abbrev pub invariant-loop-i : goal.invariant-loop-i
invariant-loop-i l = (length l.w ≡ length l.initial.w) × Chains l.w l.edges.bytes.now l.f l.i l.size l.h l.nx × ((j : ℕ) → Out j l.h (l.h + l.size) → Out j l.nx (l.nx + l.edges.count) → get_or l.w j 0 ≡ get_or l.initial.w j 0)

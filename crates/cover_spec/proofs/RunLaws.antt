-- The run of the cover in its fewest steps: the first pass, then choices. Assumes nothing.
use Rattle.std.specs.Prelude.{Bool, List, ◌≡◌}
use Rattle.std.proofs.Math.Bool.{true, false}
use Prim.Native.Nat.{ℕ, suc, ◌<◌}
use Rattle.std.proofs.Math.Dec.{leb}
use Rattle.std.proofs.Math.ListN.{length}
use Rattle.std.proofs.Math.Path.{refl, sym, ap}
use Rattle.std.proofs.Common.{◌∙◌, arith}
use borrow.Author.Tests.{leb-true, leb-false, eq-eqb, ne_eqb}
use Rattle.cover_spec.specs.Cover.{Edge, State, pass, trim, choice, turn, turns, start, cover}
use Rattle.cover_spec.specs.TrimLaws.{iter, iter-after, iter_still, trim-le}
use Rattle.cover_spec.proofs.ChoiceLaws.{GroupsUnder}
use Rattle.cover_spec.proofs.TurnLaws.{trim-done, turns-iter, turns_end}
use Rattle.cover_spec.proofs.CoverLaws.{begin}
use Rattle.cover_spec.proofs.OneTrimLaws.{trim-once}
use Rattle.cover_spec.proofs.TakeLaws.{taken_by, take_turn, trim-turns}

module _ (n : ℕ) (all : List Edge) where
  -- after the first pass and t choices
  abbrev pub after_turns : ℕ → State
  after_turns t = iter (take_turn n all) t (pass (start all))

  pub after-trim : (t : ℕ) → trim (iter (turn all n) t (start all)) ≡ after_turns t
  after-trim t = trim-turns n all t (start all) begin ∙ ap (iter (take_turn n all) t) (trim-once n all (start all) begin)

  fast_done : (s : State) → length s.edges ≡ 0 → take_turn n all s ≡ s
  unfolding take_turn
  fast_done s h = rw (eq-eqb (length s.edges) 0 h)

  fast_more : (s : State) → 0 < length s.edges → take_turn n all s ≡ taken_by (choice all s.edges n) s
  unfolding take_turn
  fast_more s h = rw (ne_eqb (length s.edges) 0 (λ e. omega arith))

  pub after_more : (t : ℕ) → 0 < length (after_turns t).edges → after_turns (suc t) ≡ taken_by (choice all (after_turns t).edges n) (after_turns t)
  unfolding iter
  after_more t h = iter-after (take_turn n all) t (pass (start all)) ∙ fast_more (after_turns t) h

  -- where no edge is left the marks are the cover
  pub after_last : GroupsUnder n all → (t : ℕ) → length (after_turns t).edges ≡ 0 → (g : ℕ) → (after_turns t).marked g ≡ cover n all g
  unfolding cover
  after_last u t h g =
      let k : ℕ = suc (length all) in
      let z : length (iter (turn all n) k (start all)).edges ≡ 0 = turns_end all n (length all) (start all) u (trim-le (start all)) in
      let f : turns all n k (start all) ≡ after_turns k = turns-iter all n k (start all) ∙ sym (trim-done all n (iter (turn all n) k (start all)) z) ∙ after-trim k in
      let y : length (after_turns k).edges ≡ 0 = ap (λ (s : State). length s.edges) (sym f ∙ turns-iter all n k (start all)) ∙ z in
      ap (λ (s : State). s.marked g) (meet t k h y ∙ sym f)
    where
      meet : (i j : ℕ) → length (after_turns i).edges ≡ 0 → length (after_turns j).edges ≡ 0 → after_turns i ≡ after_turns j
      meet i j p q = go (leb i j) refl
        where
          go : (b : Bool) → leb i j ≡ b → after_turns i ≡ after_turns j
          go true e = sym (iter_still (take_turn n all) i j (pass (start all)) (leb-true i j e) (fast_done (after_turns i) p))
          go false e = iter_still (take_turn n all) j i (pass (start all)) (omega (arith, leb-false i j e)) (fast_done (after_turns j) q)

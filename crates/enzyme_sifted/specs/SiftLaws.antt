-- A turn of each loop, and what both leave. Assumes nothing.
use Rattle.std.specs.Prelude.{ℕ, ◌+◌, ◌≤◌, ◌<◌, ◌≡◌, Bool, true, false, cond, ◌⊎◌, List, length, get_or, set}
use Rattle.std.proofs.Common.{sym, ap, subst, ◌∙◌, true≢false, inl, inr, arith, lt-ltb, le-ltb, le-leb, get_or-set_same, get_or-set_other}
use Rattle.std.proofs.Math.ListN.{get_or-eq_default}
use Rattle.std.proofs.lemmas.List.{set-get_or}
use Rattle.std.proofs.Math.Seq.{set_out}
use Rattle.lists.specs.FrameLaws.{set_more}
use Rattle.lists.specs.Tests.{same?, below?}
use Rattle.enzyme_rows.specs.Steps.{AmongFirst}
use Rattle.enzyme_codes.specs.Codes.{code_of, code_at}
use Rattle.enzyme_sifted.specs.Sifted.{Sifted, one_more, raised, CodesSeen, seen_twice, RepeatsPicked}

-- ---- a code counted

-- inside a list it does not matter what is read past its end
pub any_default : (l : List ℕ) (i d e : ℕ) → i < length l → get_or l i d ≡ get_or l i e
any_default l i d e h = sym (get_or-set_same l i (get_or l i d) e h) ∙ ap (λ (x : List ℕ). get_or x i e) (set-get_or l i d)

more : (n : ℕ) → (n ≤ one_more n) × (1 ≤ one_more n) × (1 ≤ n → 2 ≤ one_more n)
more n = go (below? n 2)
  where
    go : (n < 2) ⊎ (2 ≤ n) → (n ≤ one_more n) × (1 ≤ one_more n) × (1 ≤ n → 2 ≤ one_more n)
    go (inl h) = rw (lt-ltb n 2 h) (omega arith, omega arith, λ k. omega arith)
    go (inr h) = rw (le-ltb n 2 h) (omega arith, omega arith, λ k. omega arith)

raised_here : (seen : List ℕ) (c : ℕ) → get_or (raised seen c) c 2 ≡ one_more (get_or seen c 2)
raised_here seen c = go (below? c (length seen))
  where
    go : (c < length seen) ⊎ (length seen ≤ c) → get_or (raised seen c) c 2 ≡ one_more (get_or seen c 2)
    go (inl h) = get_or-set_same seen c (one_more (get_or seen c 2)) 2 h
    go (inr h) = rw (set_out seen c (one_more (get_or seen c 2)) h, get_or-eq_default seen 2 h)

-- no count falls
raised-least : (seen : List ℕ) (c j : ℕ) → get_or seen j 2 ≤ get_or (raised seen c) j 2
raised-least seen c j = go (same? j c)
  where
    go : (j ≡ c) ⊎ (j ≡ c → ⊥) → get_or seen j 2 ≤ get_or (raised seen c) j 2
    go (inl e) = rw (e, raised_here seen c) (more (get_or seen c 2)).0
    go (inr d) = rw (get_or-set_other seen c j (one_more (get_or seen c 2)) 2 d) (omega arith)

pub seen_none : (code : ℕ → ℕ) (codes seen : List ℕ) → CodesSeen code codes seen 0
seen_none code codes seen = record { coded = λ z h. absurd (omega arith); once = λ z h. absurd (omega arith); twice = λ z v l h. absurd (omega arith) }

pub seen_more : (code : ℕ → ℕ) (codes seen : List ℕ) (i v : ℕ) → i < length codes → v ≡ code i → CodesSeen code codes seen i → CodesSeen code (set codes i v) (raised seen v) (i + 1)
seen_more code codes seen i v room e c = record {
  coded = set_more code codes i v room e c.coded;
  once = λ z h. first z h (below? z i);
  twice = λ z w l h s. second z w l h s (below? w i);
}
  where
    here : (n : ℕ) → n ≤ one_more (get_or seen v 2) → n ≤ get_or (raised seen v) (code i) 2
    here n h = rw (sym e, raised_here seen v) h

    first : (z : ℕ) → z < i + 1 → (z < i) ⊎ (i ≤ z) → 1 ≤ get_or (raised seen v) (code z) 2
    first z h (inl l) = omega (arith, c.once z l, raised-least seen v (code z))
    first z h (inr l) = let q : z ≡ i = omega arith in rw q (here 1 (more (get_or seen v 2)).1)

    second : (z w : ℕ) → z < w → w < i + 1 → code z ≡ code w → (w < i) ⊎ (i ≤ w) → 2 ≤ get_or (raised seen v) (code w) 2
    second z w k h s (inl l) = omega (arith, c.twice z w k l s, raised-least seen v (code w))
    second z w k h s (inr l) =
        let q : w ≡ i = omega arith in
        let o : 1 ≤ get_or seen v 2 = subst (λ (x : ℕ). 1 ≤ get_or seen x 2) (s ∙ ap code q ∙ sym e) (c.once z (omega arith)) in
        rw q (here 2 ((more (get_or seen v 2)).2 o))

-- ---- sites picked

pub repeats-picked-none : (codes seen order : List ℕ) → RepeatsPicked codes seen order 0 0
repeats-picked-none codes seen order = record {
  few = omega arith;
  inside = λ p h. absurd (omega arith);
  each = λ z h. absurd (omega arith);
  rises = λ p q l h. absurd (omega arith);
}

module _ (codes seen order : List ℕ) (i k : ℕ) (room : i < length order) (c : RepeatsPicked codes seen order i k) where
  front : (p : ℕ) → p < k → get_or (set order k i) p 0 ≡ get_or order p 0
  front p h = get_or-set_other order k p i 0 (λ (z : p ≡ k). omega arith)

  seat : get_or (set order k i) k 0 ≡ i
  seat = let f = c.few in get_or-set_same order k i 0 (omega arith)

  still : (z : ℕ) → AmongFirst order k z → AmongFirst (set order k i) k z
  still z (p, h, e) = (p, h, front p h ∙ e)

  left : seen_twice seen (get_or codes i 0) ≡ false → RepeatsPicked codes seen (set order k i) (i + 1) k
  left s = record {
    few = omega (arith, c.few);
    inside = λ p h. omega (arith, front p h, c.inside p h);
    each = λ z h t. old z h t (below? z i);
    rises = λ p q l h. omega (arith, front p (omega arith), front q h, c.rises p q l h);
  }
    where
      old : (z : ℕ) → z < i + 1 → seen_twice seen (get_or codes z 0) ≡ true → (z < i) ⊎ (i ≤ z) → AmongFirst (set order k i) k z
      old z h t (inl l) = still z (c.each z l t)
      old z h t (inr l) = let q : z ≡ i = omega arith in absurd (true≢false (sym t ∙ rw q s))

  taken : RepeatsPicked codes seen (set order k i) (i + 1) (k + 1)
  taken = record {
    few = omega (arith, c.few);
    inside = λ p h. within p h (below? p k);
    each = λ z h t. both z h t (below? z i);
    rises = λ p q l h. rise p q l h (below? q k);
  }
    where
      within : (p : ℕ) → p < k + 1 → (p < k) ⊎ (k ≤ p) → get_or (set order k i) p 0 < i + 1
      within p h (inl l) = omega (arith, front p l, c.inside p l)
      within p h (inr l) = let q : p ≡ k = omega arith in rw (q, seat) (omega arith)

      both : (z : ℕ) → z < i + 1 → seen_twice seen (get_or codes z 0) ≡ true → (z < i) ⊎ (i ≤ z) → AmongFirst (set order k i) (k + 1) z
      both z h t (inl l) = let o = still z (c.each z l t) in (o.0, omega (arith, o.1), o.2)
      both z h t (inr l) = (k, omega arith, seat ∙ (let q : i ≡ z = omega arith in q))

      rise : (p q : ℕ) → p < q → q < k + 1 → (q < k) ⊎ (k ≤ q) → get_or (set order k i) p 0 < get_or (set order k i) q 0
      rise p q l h (inl o) = omega (arith, front p (omega arith), front q o, c.rises p q l o)
      rise p q l h (inr o) =
          let e : q ≡ k = omega arith in
          rw (e, seat) (omega (arith, front p (omega arith), c.inside p (omega arith)))

  pub repeats-picked-turn : (t : Bool) → t ≡ seen_twice seen (get_or codes i 0) → RepeatsPicked codes seen (set order k i) (i + 1) (cond t (k + 1) k)
  repeats-picked-turn true e = taken
  repeats-picked-turn false e = left (sym e)

-- ---- both together

pub sifted : (s starts codes seen order : List ℕ) (size m g : ℕ) → CodesSeen (code_at size s starts) codes seen m → RepeatsPicked codes seen order m g → Sifted s starts order m g
sifted s starts codes seen order size m g c d = record {
  few = d.few;
  apart = λ i j l h e. omega (arith, d.rises i j l h);
  inside = λ z (p, h, e). omega (arith, d.inside p h);
  each = λ z v h k n e. d.each z h (le-leb 2 (get_or seen (get_or codes z 0) 2) (rw (c.coded z h) (seen-both z v h k n (ap (code_of size) e) (below? z v) (below? v z))));
}
  where
    seen-both : (z v : ℕ) → z < m → v < m → (z ≡ v → ⊥) → code_at size s starts z ≡ code_at size s starts v → (z < v) ⊎ (v ≤ z) → (v < z) ⊎ (z ≤ v) → 2 ≤ get_or seen (code_at size s starts z) 2
    seen-both z v h k n e (inl l) o = rw e (c.twice z v l k e)
    seen-both z v h k n e (inr l) (inl o) = c.twice v z o h (sym e)
    seen-both z v h k n e (inr l) (inr o) = absurd (n (omega arith))

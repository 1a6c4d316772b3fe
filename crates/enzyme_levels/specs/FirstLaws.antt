-- Windows of one site. Assumes nothing.
use Rattle.std.specs.Prelude.{ℕ, ◌+◌, ◌≤◌, ◌<◌, ◌≡◌, ◌⊎◌, List, [], ◌++◌, length, get_or, take, drop}
use Rattle.std.proofs.Common.{sym, ap, ◌∙◌, inl, inr, arith, add-zero, add-one, length-append, take-append-drop}
use Rattle.lists.specs.Tests.{same?}
use Rattle.enzyme_cuts.specs.declared.kinds.Knife.{Knife}
use Rattle.enzyme_windows.specs.Pieces.{end_to_end, pieces}
use Rattle.enzyme_windows.specs.Shared.{SameWindow, Named}
use Rattle.enzyme_windows.specs.PieceLaws.{end_to_end_pieces}
use Rattle.enzyme_windows.specs.NameLaws.{window-none, window_on, window_back}
use Rattle.enzyme_windows.specs.WindowLaws.{end_to_end_append}
use Rattle.enzyme_windows.specs.StartLaws.{piece_start, start-next, site-letters}
use Rattle.enzyme_keys.specs.Keys.{SiteWithin, letters_at}
use Rattle.enzyme_rows.specs.Steps.{AmongFirst, RunsRanked, OneName}
use Rattle.enzyme_sifted.specs.Sifted.{Sifted}
use Rattle.enzyme_levels.specs.Levels.{TextsPlaced, LevelRanked}
use Rattle.enzyme_levels.specs.ReadyLaws.{ready_sifted}
use Rattle.enzyme_levels.specs.LevelLaws.{has?, level_ranked}

start_low : (ts : List (List ℕ)) (i : ℕ) → piece_start ts i ≤ length (end_to_end ts)
start_low ts i =
    let e : end_to_end ts ≡ end_to_end (take i ts) ++ end_to_end (drop i ts) = ap end_to_end (sym (take-append-drop i ts)) ∙ end_to_end_append (take i ts) (drop i ts) in
    let l : length (end_to_end ts) ≡ length (end_to_end (take i ts)) + length (end_to_end (drop i ts)) = ap length e ∙ length-append (end_to_end (take i ts)) (end_to_end (drop i ts)) in
    omega arith

module _ (ts : List (List ℕ)) (s starts : List ℕ) (m : ℕ) (pl : TextsPlaced ts s starts m) where
  -- each is a site
  pub placed-site : (z : ℕ) → z < m → SiteWithin s starts z
  placed-site z h =
      let a = pl.start z (omega arith) in
      let b = pl.start (z + 1) (omega arith) in
      let n : piece_start ts (z + 1) ≡ piece_start ts z + length (get_or ts z []) = rw (add-one z) (start-next ts z (omega (arith, pl.many))) in
      let l = start_low ts (z + 1) in
      let e = ap length pl.letters in
      record { placed = omega (arith, pl.room); rises = omega arith; within = omega arith }

  -- with the letters of its text
  site-text : (z : ℕ) → z < m → letters_at s starts z ≡ get_or ts z []
  site-text z h = rw (pl.start z (omega arith), pl.start (z + 1) (omega arith), ← pl.letters) (site-letters ts z 0 (omega (arith, pl.many)))

  -- y has the sifted sites, and before these got names each site was its own
  module _ (y x r name name' rank rank' share share' : List ℕ) (g : ℕ) (small : m ≤ 65536) (sf : Sifted s starts y m g) (own : (i : ℕ) → i < m → (get_or name i 0 ≡ i) × (get_or share i 0 ≡ 0))
      (rk : RunsRanked (letters_at s starts) y x r rank rank' share share' g 1) (on : OneName (letters_at s starts) y name name' g)
    where
      -- a site has the letters of the one that is its name
      like : (z : ℕ) → z < m → letters_at s starts (get_or name' z 0) ≡ letters_at s starts z
      like z l = go (has? y g z)
        where
          go : AmongFirst y g z ⊎ (AmongFirst y g z → ⊥) → letters_at s starts (get_or name' z 0) ≡ letters_at s starts z
          go (inl h) = on.like z h
          go (inr h) = ap (letters_at s starts) (on.rest z h ∙ (own z l).0)

      -- two sites with the same letters were sifted, and so have one name
      one : (z v : ℕ) → z < m → v < m → letters_at s starts z ≡ letters_at s starts v → get_or name' z 0 ≡ get_or name' v 0
      one z v h l t = go (same? z v)
        where
          go : (z ≡ v) ⊎ (z ≡ v → ⊥) → get_or name' z 0 ≡ get_or name' v 0
          go (inl e) = ap (λ (i : ℕ). get_or name' i 0) e
          go (inr d) = on.same z v (sf.each z v h l d t) (sf.each v z l h (λ (e : v ≡ z). d (sym e)) (sym t)) t

      named : Named ts (λ i. get_or name' i 0)
      named = let l = pl.many in record {
        letters = λ p j hp hj e.
            let a : p < m = omega arith in
            let b : j < m = omega arith in
            sym (site-text p a) ∙ sym (like p a) ∙ ap (letters_at s starts) e ∙ like j b ∙ site-text j b;
        number = λ p j hp hj e.
            let a : p < m = omega arith in
            let b : j < m = omega arith in
            one p j a b (site-text p a ∙ e ∙ sym (site-text j b));
      }

      texts : (z v : ℕ) → SameWindow ts 1 z v → letters_at s starts z ≡ letters_at s starts v
      texts z v w =
          let l = pl.many in
          let a = w.first in
          let b = w.second in
          let q = (window_back ts (λ i. get_or name' i 0) named 0 z v w).3 in
          let f : get_or name' z 0 ≡ get_or name' v 0 = rw (add-zero z, add-zero v) at q in
          sym (like z (omega arith)) ∙ ap (letters_at s starts) f ∙ like v (omega arith)

      windows : (z v : ℕ) → z < m → v < m → letters_at s starts z ≡ letters_at s starts v → SameWindow ts 1 z v
      windows z v a b t =
          let l = pl.many in
          let q : get_or name' (z + 0) 0 ≡ get_or name' (v + 0) 0 = rw (add-zero z, add-zero v) (one z v a b t) in
          window_on ts (λ i. get_or name' i 0) named 0 z v (window-none ts (λ i. get_or name' i 0) named z v (omega arith) (omega arith)) (omega arith) (omega arith) q

      pub level_one : LevelRanked ts s starts x r name' rank' share' 1 g m
      level_one =
          let l = pl.many in
          level_ranked ts s starts (letters_at s starts) y x r name' rank rank' share share' g m 0 pl (ready_sifted s starts y m g small placed-site sf) rk named
          (λ z v d w. let a = w.first in let b = w.second in sf.each z v (omega arith) (omega arith) d (texts z v w))
          (λ z v h j w. texts z v w)
          (λ z v h j t. windows z v (sf.inside z h) (sf.inside v j) t)
          (λ i h. let b = (own i (omega arith)).1 in omega arith)

-- the sites of a knife, by the table of their starts
pub pieces-placed : (k : Knife) (s starts : List ℕ) (m : ℕ) → m ≡ length (pieces k s) → m < length starts → ((i : ℕ) → i ≤ m → get_or starts i 0 ≡ piece_start (pieces k s) i)
    → TextsPlaced (pieces k s) s starts m
pieces-placed k s starts m e h at = record { letters = end_to_end_pieces k s; many = sym e; room = h; start = at }

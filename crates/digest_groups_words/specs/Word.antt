-- A number that orders digests before their letters are looked at: the place of position and decoy, then the first six
-- letters to the base 27. The public statement does not cite this.
use Rattle.std.specs.Prelude.{ℕ, zero, suc, ◌+◌, ◌-◌, ◌*◌, List, [], ◌∷◌}

-- k letters behind h; past the end a digit is 0, below that of every letter
abbrev pub packed : ℕ → ℕ → List ℕ → ℕ
packed h zero xs = h
packed h (suc k) [] = packed (h * 27) k []
packed h (suc k) (x ∷ xs) = packed (h * 27 + (x - 64)) k xs

abbrev pub digest_word : ℕ → ℕ → List ℕ → ℕ
digest_word position decoy xs = packed (position * 2 + decoy) 6 xs

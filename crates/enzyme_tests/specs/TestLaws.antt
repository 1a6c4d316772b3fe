-- What is known where a test failed or all passed. Assumes nothing.
use Rattle.std.specs.Prelude.{ℕ, ◌≤◌, ◌≡◌, refl, Bool, true, false, cond, ◌||◌, List, length, ltb, Err}
use Rattle.std.proofs.Common.{sym, true≢false, arith, ltb-false}
use Rattle.lists.specs.Tests.{neither}
use Rattle.records.specs.declared.refusal.Refusal.TheVariants.{Size}
use Rattle.letters.specs.declared.letter_set.LetterSet.{LetterSet}
use Rattle.enzyme_cuts.specs.declared.kinds.Enzyme.{Enzyme}
use Rattle.enzyme_spec.specs.declared.settings.Settings.{Settings}
use Rattle.enzyme_spec.specs.Digestion.{too_large, tested}
use Rattle.records.specs.Answers.{Passed, Tested}

first-refused : (t : Bool) (rest : Tested) → t ≡ true → Err Size ≡ cond t (Err Size) rest
first-refused true rest e = refl
first-refused false rest e = absurd (true≢false (sym e))

-- a size above its limit is refused before anything else
pub refused-size : (s : List ℕ) (alphabet : LetterSet) (e : Enzyme) (st : Settings) → too_large s st ≡ true → Err Size ≡ tested s alphabet e st
refused-size s alphabet e st t = first-refused (too_large s st) _ t

first-passed : (t : Bool) (rest : Tested) → cond t (Err Size) rest ≡ Passed → t ≡ false
first-passed true rest e = let z : ◌≡◌ {A = ℕ} 0 1 = cc in absurd (omega arith)
first-passed false rest e = cc

pub passed-sizes : (s : List ℕ) (alphabet : LetterSet) (e : Enzyme) (st : Settings) → tested s alphabet e st ≡ Passed → (length s ≤ 65536) × (st.missed ≤ 16) × (st.maximum ≤ 65536)
passed-sizes s alphabet e st p =
    let w = neither (ltb 65536 (length s) || ltb 16 st.missed || ltb 65536 st.minimum) (ltb 65536 st.maximum) (first-passed (too_large s st) _ p) in
    let y = (neither (ltb 65536 (length s) || ltb 16 st.missed) (ltb 65536 st.minimum) w.0).0 in
    let z = neither (ltb 65536 (length s)) (ltb 16 st.missed) y in
    (ltb-false _ _ z.0, ltb-false _ _ z.1, ltb-false _ _ w.1)

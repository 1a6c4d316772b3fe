-- From the answers of `digest` and of its tests to what the call leaves. Assumes nothing.
use Rattle.std.specs.Prelude.{ℕ, ◌≤◌, ◌<◌, ◌≡◌, true, false, List, [], ◌∷◌}
use Rattle.std.proofs.Common.{ap, ◌∙◌, lt-ltb, le-ltb}
use Rattle.enzyme_cuts.specs.declared.kinds.Enzyme.{Enzyme}
use Rattle.enzyme_spec.specs.Digestion.{tested, digest_outcome}
use Rattle.records.specs.declared.refusal.Refusal.TheVariants.{Size}
use Rattle.records.specs.Outcome.{Outcome, outcome}
use Rattle.sendumaal_calls.specs.Calls.{set_of, refused, with_lent, count_call}
use Rattle.sendumaal_calls.specs.CallLaws.{count_said}
use Rattle.sendumaal_calls.specs.DigestCalls.{is_enzyme, field_call, DigestArguments, enzyme_of, settings_in, digest_call}
use Rattle.records.specs.Answers.{Counted}

module _ (a : DigestArguments) where
  pub digest-size : 16 < a.missed → refused Size ((a.count ∷ []) ∷ a.out ∷ []) ≡ digest_call a
  digest-size h = rw (lt-ltb 16 a.missed h)

  module _ (few : a.missed ≤ 16) (cutter : Enzyme) (is : cutter ≡ enzyme_of a) (n p : ℕ) where
    pub digest-done : is_enzyme a.kind a.side a.semi ≡ true → (q : ℕ) (r : Counted) (b : List ℕ) → outcome n ((p ∷ []) ∷ (q ∷ []) ∷ []) ≡ count_call r a.count
        → outcome r (b ∷ []) ≡ digest_outcome a.letters (set_of a.alphabet) cutter (settings_in a) a.protein a.out
        → outcome n ((p ∷ []) ∷ (q ∷ []) ∷ b ∷ []) ≡ digest_call a
    digest-done h q r b e f =
        count_said r n p q a.count e (b ∷ []) (digest_outcome a.letters (set_of a.alphabet) (enzyme_of a) (settings_in a) a.protein a.out)
        (f ∙ ap (λ (x : Enzyme). digest_outcome a.letters (set_of a.alphabet) x (settings_in a) a.protein a.out) is)
        ∙ rw (le-ltb 16 a.missed few, h)

    pub digest-field : is_enzyme a.kind a.side a.semi ≡ false → outcome n ((p ∷ []) ∷ []) ≡ field_call (tested a.letters (set_of a.alphabet) cutter (settings_in a))
        → outcome n ((p ∷ []) ∷ (a.count ∷ []) ∷ a.out ∷ []) ≡ digest_call a
    digest-field h e =
        ap (λ (o : Outcome ℕ). with_lent o ((a.count ∷ []) ∷ a.out ∷ [])) (e ∙ ap (λ (x : Enzyme). field_call (tested a.letters (set_of a.alphabet) x (settings_in a))) is)
        ∙ rw (le-ltb 16 a.missed few, h)

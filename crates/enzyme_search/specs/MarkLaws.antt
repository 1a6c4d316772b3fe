-- Laws of samples. Assumes nothing.
use Rattle.std.specs.Prelude.{ℕ, ◌+◌, ◌-◌, ◌*◌, ◌≤◌, ◌<◌, ◌≡◌, refl, ◌⊎◌, List, length, get_or, set}
use Rattle.std.proofs.Common.{◌∙◌, inl, inr, ⊎_elim, arith, length-set, get_or-set_same, get_or-set_other, eq-eqb, ne_eqb}
use Rattle.lists.specs.FrameLaws.{framed_none, framed_then, framed_within, framed_set}
use Rattle.lists.specs.Tests.{same?, below?}
use Rattle.enzyme_cuts.specs.Cutting.{Range}
use Rattle.enzyme_keep.specs.Buffer.{ranges_in, links_in}
use Rattle.std.specs.declared.cmp.Ordering.TheVariants.{Less}
use Rattle.enzyme_order.specs.Order.{compared}
use Rattle.enzyme_list.specs.Chain.{record_text, next_of, Begun}
use Rattle.enzyme_list.specs.Offer.{Keeps, Has}
use Rattle.enzyme_list.specs.OfferLaws.{keeps_begun, has_begun, has_within, has_first, has-next}
use Rattle.enzyme_search.specs.Marks.{mark_at, sample_of, SamplesListed, SamplesNumbered, Below, Chained, Has0, SameSamples, First, MovedUp, PutIn, Thinned, Thinning}

-- ---- samples as they are read

pub sample_none : (marks : List ℕ) (k : ℕ) → k ≡ 0 → sample_of marks k ≡ 0
sample_none marks k e = rw (eq-eqb k 0 e)

pub sample_at : (marks : List ℕ) (k : ℕ) → (k ≡ 0 → ⊥) → sample_of marks k ≡ mark_at marks (k - 1)
sample_at marks k e = rw (ne_eqb k 0 e)

module _ (count head : ℕ) (out marks : List ℕ) (samples : ℕ) (m : SamplesListed count head out marks samples) where
  pub listed-numbered : SamplesNumbered count marks samples
  listed-numbered = record {
    room = m.room;
    some = λ i l. (has_within count head out (mark_at marks i) (m.listed i l)).0;
    few = λ i l. (has_within count head out (mark_at marks i) (m.listed i l)).1;
  }

  -- a search may begin at a sample that is below
  pub below_begun : (s new : List ℕ) (k : ℕ) → Keeps s count head out → Below s (ranges_in count out) marks samples new k → Begun s (ranges_in count out) (links_in count out) head (sample_of marks k) new
  below_begun s new k g b = go (same? k 0)
    where
      go : (k ≡ 0) ⊎ (k ≡ 0 → ⊥) → Begun s (ranges_in count out) (links_in count out) head (sample_of marks k) new
      go (inl e) = rw (sample_none marks k e) (keeps_begun s count head out new g)
      go (inr e) =
          let w = b.within in
          let l : k - 1 < samples = ⊎_elim (λ (y : 0 < k). omega arith) (λ (y : k ≤ 0). absurd (e (omega arith))) (below? 0 k) in
          let p : 0 < k = ⊎_elim (λ (y : 0 < k). y) (λ (y : k ≤ 0). absurd (e (omega arith))) (below? 0 k) in
          rw (sample_at marks k e) (has_begun s count head out (mark_at marks (k - 1)) new g (m.listed (k - 1) l) (b.below p))

  pub sample_has : (j : ℕ) → j < samples → Has count head out (sample_of marks (j + 1))
  sample_has j l =
      let e : j + 1 - 1 ≡ j = omega arith in
      rw (sample_at marks (j + 1) (λ z. omega arith), e) (m.listed j l)

  pub same_samples_listed : (new : List ℕ) → SameSamples marks new → SamplesListed count head out new samples
  same_samples_listed new a = let l = a.long in let r = m.room in record { room = omega arith; listed = λ i h. rw (a.marks i) (m.listed i h) }

  pub first-marked : (t k : ℕ) (new : List ℕ) (n : ℕ) → Has count head out t → First marks samples t k new n → SamplesListed count head out new n
  first-marked t k new n h f = let l = f.long in let r = f.room in record { room = omega arith; listed = λ i b. go i (f.marks i b) }
    where
      go : (i : ℕ) → (mark_at new i ≡ t) ⊎ ((i < samples) × (mark_at new i ≡ mark_at marks i)) → Has count head out (mark_at new i)
      go i (inl e) = rw e h
      go i (inr e) = rw e.1 (m.listed i e.0)

  pub put-marked : (t : ℕ) (new : List ℕ) → Has count head out t → 3 * samples + 3 ≤ length marks → PutIn marks samples t new → SamplesListed count head out new (samples + 1)
  put-marked t new h room f = let l = f.long in record { room = omega arith; listed = λ i b. go i (f.marks i b) }
    where
      go : (i : ℕ) → (mark_at new i ≡ t) ⊎ ((j : ℕ) × (j < samples) × (mark_at new i ≡ mark_at marks j)) → Has count head out (mark_at new i)
      go i (inl e) = rw e h
      go i (inr e) = rw e.2 (m.listed e.0 e.1)

  pub thin_marked : (new : List ℕ) (n : ℕ) → Thinned marks samples n new → SamplesListed count head out new n
  thin_marked new n f = record { room = room (below? 0 n); listed = λ i b. rw (f.marks i b) (m.listed (2 * i) (f.few i b)) }
    where
      room : (0 < n) ⊎ (n ≤ 0) → 3 * n ≤ length new
      room (inr z) = omega arith
      room (inl z) = let l = f.long in let r = m.room in let q = f.few (n - 1) (omega arith) in omega arith

-- ---- along the list

pub next-has : (count head : ℕ) (out : List ℕ) (t : ℕ) → Has0 count head out t → (t ≡ 0 → ⊥) → Has0 count head out (next_of (links_in count out) head t)
next-has count head out t h z p = has-next count head out t (h (⊎_elim (λ (y : 0 < t). y) (λ (y : t ≤ 0). absurd (z (omega arith))) (below? 0 t))) p

pub has_few : (count head : ℕ) (out : List ℕ) (t : ℕ) → Has0 count head out t → t ≤ count
has_few count head out t h = ⊎_elim (λ (y : 0 < t). (has_within count head out t (h y)).1) (λ (y : t ≤ 0). let z : t ≤ 0 = y in omega arith) (below? 0 t)

pub chained_first : (count head : ℕ) (out : List ℕ) → Chained count head out → Has0 count head out head
chained_first count head out c p = has_first count head out c.0 c.1 p

pub below_here : (s : List ℕ) (ks : List Range) (marks : List ℕ) (samples : ℕ) (new : List ℕ) (m : ℕ) → m < samples → compared (record_text s ks (mark_at marks m)) new ≡ Less → Below s ks marks samples new (m + 1)
below_here s ks marks samples new m l o =
    let e : m + 1 - 1 ≡ m = omega arith in
    record { within = omega arith; below = λ p. rw e o }

-- ---- what stands behind a sample's record is stored

-- numbers at a place that is no sample's record
abbrev Beside : ℕ → Type 0
Beside p = (x : ℕ) → 3 * x ≡ p → ⊥

stored-beside : (m : List ℕ) (p v : ℕ) → Beside p → (x : ℕ) → mark_at (set m p v) x ≡ mark_at m x
stored-beside m p v b x = get_or-set_other m p (3 * x) v 0 (b x)

pub sized_alike : (m : List ℕ) (i v : ℕ) → SameSamples m (set m (3 * i + 1) v)
sized_alike m i v = record { long = length-set m (3 * i + 1) v; marks = stored-beside m (3 * i + 1) v (λ x e. omega arith) }

-- a sample is stored
module _ (m : List ℕ) (i t v w : ℕ) where
  stored_long : length (set (set (set m (3 * i) t) (3 * i + 1) v) (3 * i + 2) w) ≡ length m
  stored_long = length-set (set (set m (3 * i) t) (3 * i + 1) v) (3 * i + 2) w ∙ length-set (set m (3 * i) t) (3 * i + 1) v ∙ length-set m (3 * i) t

  stored_record : (x : ℕ) → mark_at (set (set (set m (3 * i) t) (3 * i + 1) v) (3 * i + 2) w) x ≡ mark_at (set m (3 * i) t) x
  stored_record x = stored-beside (set (set m (3 * i) t) (3 * i + 1) v) (3 * i + 2) w (λ y e. omega arith) x ∙ stored-beside (set m (3 * i) t) (3 * i + 1) v (λ y e. omega arith) x

  stored_here : 3 * i < length m → mark_at (set (set (set m (3 * i) t) (3 * i + 1) v) (3 * i + 2) w) i ≡ t
  stored_here h = stored_record i ∙ get_or-set_same m (3 * i) t 0 h

  stored_other : (x : ℕ) → (x ≡ i → ⊥) → mark_at (set (set (set m (3 * i) t) (3 * i + 1) v) (3 * i + 2) w) x ≡ mark_at m x
  stored_other x n = stored_record x ∙ get_or-set_other m (3 * i) (3 * x) t 0 (λ e. n (omega arith))

-- ---- those from a place on move up

pub moved_none : (old : List ℕ) (high : ℕ) → MovedUp old high high old
moved_none old high = record { long = refl; rest = framed_none high (high + 3) old; on = λ x h l. absurd (omega arith) }

pub moved_on : (old new : List ℕ) (i high : ℕ) → 0 < i → i ≤ high → high + 3 ≤ length old → MovedUp old i high new → MovedUp old (i - 1) high (set new (i - 1 + 3) (get_or new (i - 1) 0))
moved_on old new i high p q room m = record {
  long = length-set new (i - 1 + 3) (get_or new (i - 1) 0) ∙ m.long;
  rest = framed_then (i - 1) (high + 3) old new (set new (i - 1 + 3) (get_or new (i - 1) 0)) (framed_within (i - 1) i (high + 3) (high + 3) old new (omega arith) (omega arith) m.rest)
      (framed_set (i - 1) (high + 3) (i - 1 + 3) (get_or new (i - 1) 0) new (omega arith) (omega arith));
  on = λ x h l. on x h l (same? x (i - 1));
}
  where
    on : (x : ℕ) → i - 1 ≤ x → x < high → (x ≡ i - 1) ⊎ (x ≡ i - 1 → ⊥) → get_or (set new (i - 1 + 3) (get_or new (i - 1) 0)) (x + 3) 0 ≡ get_or old x 0
    on x h l (inl e) =
        let n = m.long in
        rw e (get_or-set_same new (i - 1 + 3) (get_or new (i - 1) 0) 0 (omega arith) ∙ m.rest (i - 1) (inl (omega arith)))
    on x h l (inr n) =
        let k : i ≤ x = ⊎_elim (λ (y : x < i). absurd (n (omega arith))) (λ (y : i ≤ x). y) (below? x i) in
        get_or-set_other new (i - 1 + 3) (x + 3) (get_or new (i - 1) 0) 0 (λ e. omega arith) ∙ m.on x k l

-- ---- every second one

pub thinning_none : (old : List ℕ) (samples : ℕ) → Thinning old samples 0 old
thinning_none old samples = record { done = record { long = refl; few = λ i h. absurd (omega arith); marks = λ i h. absurd (omega arith) }; rest = λ i h. refl }

pub thinning_on : (old new : List ℕ) (i samples v w : ℕ) → 2 * i < samples → 3 * samples ≤ length old → Thinning old samples i new
    → Thinning old samples (i + 1) (set (set (set new (3 * i) (get_or new (3 * (2 * i)) 0)) (3 * i + 1) v) (3 * i + 2) w)
thinning_on old new i samples v w p room m = record {
  done = record {
    long = stored_long new i (mark_at new (2 * i)) v w ∙ m.done.long;
    few = λ x h. ⊎_elim (λ (y : x < i). m.done.few x y) (λ (y : i ≤ x). omega arith) (below? x i);
    marks = λ x h. at x h (same? x i);
  };
  rest = λ x h. stored_other new i (mark_at new (2 * i)) v w x (λ e. omega arith) ∙ m.rest x (omega arith);
}
  where
    at : (x : ℕ) → x < i + 1 → (x ≡ i) ⊎ (x ≡ i → ⊥) → mark_at (set (set (set new (3 * i) (mark_at new (2 * i))) (3 * i + 1) v) (3 * i + 2) w) x ≡ mark_at old (2 * x)
    at x h (inl e) =
        let n = m.done.long in
        rw e (stored_here new i (mark_at new (2 * i)) v w (omega arith) ∙ m.rest (2 * i) (omega arith))
    at x h (inr n) =
        let k : x < i = ⊎_elim (λ (y : x < i). y) (λ (y : i ≤ x). absurd (n (omega arith))) (below? x i) in
        stored_other new i (mark_at new (2 * i)) v w x n ∙ m.done.marks x k

-- ---- the first one

pub first_other : (old : List ℕ) (samples t k : ℕ) → 3 * samples ≤ length old → k ≤ samples → 0 < k → First old samples t k old samples
first_other old samples t k room w p = record { long = refl; room = room; there = omega arith; marks = λ i h. inr (h, refl) }

pub first-new : (old : List ℕ) (samples t k v : ℕ) → 3 ≤ length old → k ≤ samples → samples ≡ 0 → First old samples t k (set (set (set old 0 t) 2 v) 1 0) 1
first-new old samples t k v room w z = record {
  long = length-set (set (set old 0 t) 2 v) 1 0 ∙ length-set (set old 0 t) 2 v ∙ length-set old 0 t;
  room = room;
  there = omega arith;
  marks = λ i h. inl (go i (omega arith));
}
  where
    go : (i : ℕ) → i ≡ 0 → mark_at (set (set (set old 0 t) 2 v) 1 0) i ≡ t
    go i e =
        stored-beside (set (set old 0 t) 2 v) 1 0 (λ x y. omega arith) i ∙ stored-beside (set old 0 t) 2 v (λ x y. omega arith) i
        ∙ rw e (get_or-set_same old 0 t 0 (omega arith))

pub first_over : (old : List ℕ) (samples t k v : ℕ) → 3 ≤ length old → 3 * samples ≤ length old → (0 < k → ⊥) → (samples ≡ 0 → ⊥) → First old samples t k (set (set old 0 t) 2 v) samples
first_over old samples t k v room all n z = record {
  long = length-set (set old 0 t) 2 v ∙ length-set old 0 t;
  room = all;
  there = there (below? 0 samples) (below? 0 k);
  marks = λ i h. go i h (same? i 0);
}
  where
    there : (0 < samples) ⊎ (samples ≤ 0) → (0 < k) ⊎ (k ≤ 0) → k - 1 < samples
    there (inl p) (inl q) = absurd (n q)
    there (inl p) (inr q) = omega arith
    there (inr p) q = absurd (z (omega arith))

    go : (i : ℕ) → i < samples → (i ≡ 0) ⊎ (i ≡ 0 → ⊥) → (mark_at (set (set old 0 t) 2 v) i ≡ t) ⊎ ((i < samples) × (mark_at (set (set old 0 t) 2 v) i ≡ mark_at old i))
    go i h (inl e) = inl (stored-beside (set old 0 t) 2 v (λ x y. omega arith) i ∙ rw e (get_or-set_same old 0 t 0 (omega arith)))
    go i h (inr e) = inr (h, stored-beside (set old 0 t) 2 v (λ x y. omega arith) i ∙ get_or-set_other old 0 (3 * i) t 0 (λ y. e (omega arith)))

-- ---- one more

module _ (old up : List ℕ) (samples j t head left right : ℕ) (room : 3 * samples + 3 ≤ length old) (p : 0 < j) (q : j ≤ samples) (m : MovedUp old (3 * j) (3 * samples) up) where
  abbrev put : List ℕ
  put = set (set (set (set up (3 * j) t) (3 * j + 1) right) (3 * j + 2) head) (3 * j - 2) left

  past : (i : ℕ) → mark_at put i ≡ mark_at (set (set (set up (3 * j) t) (3 * j + 1) right) (3 * j + 2) head) i
  past i = stored-beside (set (set (set up (3 * j) t) (3 * j + 1) right) (3 * j + 2) head) (3 * j - 2) left (λ x e. omega arith) i

  put-at : (i : ℕ) → i < samples + 1 → (i ≡ j) ⊎ (i ≡ j → ⊥) → (i < j) ⊎ (j ≤ i) → (mark_at put i ≡ t) ⊎ ((x : ℕ) × (x < samples) × (mark_at put i ≡ mark_at old x))
  put-at i h (inl e) b = let n = m.long in inl (past i ∙ rw e (stored_here up j t right head (omega arith)))
  put-at i h (inr n) (inl b) = inr (i, omega arith, past i ∙ stored_other up j t right head i n ∙ m.rest (3 * i) (inl (omega arith)))
  put-at i h (inr n) (inr b) =
      let k : j ≤ i - 1 = ⊎_elim (λ (y : j < i). omega arith) (λ (y : i ≤ j). absurd (n (omega arith))) (below? j i) in
      let e : 3 * (i - 1) + 3 ≡ 3 * i = omega arith in
      let z = m.on (3 * (i - 1)) (omega arith) (omega arith) in
      inr (i - 1, omega arith, past i ∙ stored_other up j t right head i n ∙ (rw e at z))

  pub put_in_more : PutIn old samples t put
  put_in_more = record {
    long = length-set (set (set (set up (3 * j) t) (3 * j + 1) right) (3 * j + 2) head) (3 * j - 2) left ∙ stored_long up j t right head ∙ m.long;
    marks = λ i h. put-at i h (same? i j) (below? i j);
  }

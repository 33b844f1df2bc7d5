-- Words of a row's content written: the row that they make.
-- Assumes nothing.
use mathlib.Core.Path.{◌≡◌, refl, sym, ◌∙◌, ap}
use mathlib.Core.Bool.{false}
use mathlib.Core.List.{List, [], ◌∷◌, ◌++◌}
use Prim.Native.Nat.{ℕ, zero, suc, ◌+◌, ◌-◌, ◌≤◌, ◌<◌}
use native.Mathlib.Omega.{arith}
use lib.ListN.{length, get_or, set, replicate, length-append, length-set, length-replicate}
use lib.Seq.{sets, length-sets, ext_get_or, get_or-set_same, get_or-set_other}
use Rattle.moves.specs.Moves.{Cleared}
use Rattle.probe.specs.Cells.{readings}
use Rattle.probe.proofs.Probe.{readings_at, length_readings}
use Rattle.store.specs.Held.{held, content_of, no_row}
use Rattle.store.specs.Valid.{Valid}
use Rattle.store.specs.Edits.{Left, Rewritten, filled}
use Rattle.store.proofs.Rewriting.{rewritten}
use Rattle.versioned_data.specs.Layout.{StoreRow, content_width, padded}

-- ---- a run of stores, word by word

pub sets_under : (vs l : List ℕ) (i k : ℕ) → k < i → get_or (sets l i vs) k 0 ≡ get_or l k 0
sets_under [] l i k h = refl
sets_under (v ∷ vs) l i k h = sets_under vs (set l i v) (suc i) k (omega arith) ∙ get_or-set_other l i k v 0 (λ e. omega arith)

pub sets_past : (vs l : List ℕ) (i k : ℕ) → i + length vs ≤ k → get_or (sets l i vs) k 0 ≡ get_or l k 0
sets_past [] l i k h = refl
sets_past (v ∷ vs) l i k h = sets_past vs (set l i v) (suc i) k (omega arith) ∙ get_or-set_other l i k v 0 (λ e. omega arith)

pub sets_within : (vs l : List ℕ) (i j : ℕ) → i + length vs ≤ length l → j < length vs → get_or (sets l i vs) (i + j) 0 ≡ get_or vs j 0
sets_within [] l i j h g = absurd (omega arith)
sets_within (v ∷ vs) l i zero h g =
    let e : i + 0 ≡ i = omega arith in
    rw e (sets_under vs (set l i v) (suc i) i (omega arith) ∙ get_or-set_same l i v 0 (omega arith))
sets_within (v ∷ vs) l i (suc j) h g =
    let e : i + suc j ≡ suc i + j = omega arith in
    rw e (sets_within vs (set l i v) (suc i) j (omega (arith, length-set l i v)) (omega arith))

-- ---- words with zeros after them

pub get_d_zeros : (m j : ℕ) → ◌≡◌ {A = ℕ} (get_or (replicate m 0) j 0) 0
get_d_zeros zero j = refl
get_d_zeros (suc m) zero = refl
get_d_zeros (suc m) (suc j) = get_d_zeros m j

get_d_after : (vs : List ℕ) (m j : ℕ) → get_or (vs ++ replicate m 0) j 0 ≡ get_or vs j 0
get_d_after [] m j = get_d_zeros m j
get_d_after (v ∷ vs) m zero = refl
get_d_after (v ∷ vs) m (suc j) = get_d_after vs m j

pub get_d_padded : (vs : List ℕ) (j : ℕ) → get_or (padded vs) j 0 ≡ get_or vs j 0
unfolding padded
get_d_padded vs j = get_d_after vs (content_width - length vs) j

pub length_padded : (vs : List ℕ) → length vs ≤ 20 → length (padded vs) ≡ 20
unfolding padded
length_padded vs h = length-append vs (replicate (content_width - length vs) 0) ∙ ap (λ (n : ℕ). length vs + n) (length-replicate (content_width - length vs) 0) ∙ omega arith

-- a content by its words
pub content_is : (t : List ℕ) (b : ℕ) (vs : List ℕ) → length vs ≤ 20 → ((j : ℕ) → j < 20 → get_or t (b + j) 0 ≡ get_or vs j 0) → readings (λ j. get_or t (b + j) 0) 20 ≡ padded vs
content_is t b vs h g =
    ext_get_or 0 (readings (λ j. get_or t (b + j) 0) 20) (padded vs) (length_readings 20 (λ j. get_or t (b + j) 0) ∙ sym (length_padded vs h))
    (λ j l.
    let m : j < 20 = omega (arith, length_readings 20 (λ j. get_or t (b + j) 0)) in
    readings_at 20 (λ j. get_or t (b + j) 0) j 0 m ∙ g j m ∙ sym (get_d_padded vs j))

-- ---- what is left of one edit after another

pub left_then : (n : ℕ) (rs qs : List StoreRow) (s t r : List ℕ) → Left 22 false n rs s t → Left 22 false n qs t r → Left 22 false n qs s r
left_then n rs qs s t r f g =
    record { valid = g.valid; holds = g.holds; size = g.size ∙ f.size; past = λ k h. g.past k h ∙ f.past k h }

-- ---- the words of one content written

module _ (n i : ℕ) (s : List ℕ) (valid : Valid 22 false n s) (inside : i < length (held 22 n s)) where
  pub filled_left : (t vs : List ℕ) → Rewritten false (content_of 22 n s i) 20 s t → length vs ≤ 20 → ((j : ℕ) → j < 20 → get_or t (content_of 22 n s i + j) 0 ≡ get_or vs j 0) →
      Left 22 false n (set (held 22 n s) i (filled (padded vs) (get_or (held 22 n s) i no_row))) s t
  filled_left t vs w h g =
      let e : readings (λ j. get_or t (content_of 22 n s i + j) 0) 20 ≡ padded vs = content_is t (content_of 22 n s i) vs h g in
      rw e at (rewritten 22 n i false s t valid inside w).0

-- stores into a content
pub sets_rewritten : (b : ℕ) (s t x vs : List ℕ) (at : ℕ) → Rewritten false b 20 s x → b ≤ at → at + length vs ≤ b + 20 → t ≡ sets x at vs → Rewritten false b 20 s t
sets_rewritten b s t x vs at w h g e =
    record {
      size = ap length e ∙ length-sets x at vs ∙ w.size;
      under = λ k l. ap (λ (m : List ℕ). get_or m k 0) e ∙ sets_under vs x at k (omega arith) ∙ w.under k l;
      past = λ k l. ap (λ (m : List ℕ). get_or m k 0) e ∙ sets_past vs x at k (omega arith) ∙ w.past k l;
      part = λ z. absurd (let y : ◌≡◌ {A = ℕ} 0 1 = cc in omega arith);
    }

pub cleared_rewritten : (b at m : ℕ) (s t x : List ℕ) → Rewritten false b 20 s x → b ≤ at → at + m ≤ b + 20 → Cleared at m x t → Rewritten false b 20 s t
cleared_rewritten b at m s t x w h g c =
    record {
      size = c.size ∙ w.size;
      under = λ k l. c.under k (omega arith) ∙ w.under k l;
      past = λ k l. c.past k (omega arith) ∙ w.past k l;
      part = λ z. absurd (let y : ◌≡◌ {A = ℕ} 0 1 = cc in omega arith);
    }

pub same_rewritten : (b : ℕ) (s : List ℕ) → Rewritten false b 20 s s
same_rewritten b s = record { size = refl; under = λ k l. refl; past = λ k l. refl; part = λ z. refl }

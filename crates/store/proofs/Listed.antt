-- Lists of cells that name payloads: one payload rewritten, one more, one less.
-- Assumes nothing.
use mathlib.Core.Path.{◌≡◌, refl, sym, ◌∙◌, ap}
use mathlib.Core.Bool.{false}
use mathlib.Core.List.{List, [], ◌∷◌, map}
use Prim.Native.Nat.{ℕ, zero, suc, ◌+◌, ◌-◌, ◌*◌, ◌/◌, ◌%◌, ◌≤◌, ◌<◌}
use native.Mathlib.Omega.{arith}
use native.Mathlib.Nat.{mul-suc}
use native.Mathlib.Decide.{ℕ_discrete, dec_lt}
use lib.ListN.{length, get_or, set, length-map}
use borrow.Author.Tests.{eq-eqb, ne_eqb}
use Rattle.probe.specs.Cells.{insert_at, erase_at}
use Rattle.numbers.specs.Numbers.{Cell, Row, spot_of, number_of, part_of, rank_of, row_rank, spots, ranks, numbers, has, Below, Distinct, Tied, row_of, rows, give_number, renamed}
use Rattle.numbers.proofs.Distinct.{absent_head}
use Rattle.numbers.proofs.Rows.{given}

-- payloads lie apart
pub up_to : (w a b : ℕ) → a < b → w * a + w ≤ w * b
up_to w a zero h = absurd (omega arith)
up_to w a (suc b) h = go (dec_lt a b) (up_to w a b)
  where
    go : Dec (a < b) → (a < b → w * a + w ≤ w * b) → w * a + w ≤ w * suc b
    go (yes k) ih = omega (arith, ih k, mul-suc w b)
    go (no k) ih = let e : a ≡ b = omega arith in rw e (omega (arith, mul-suc w b))

pub up_to_most : (w a b : ℕ) → a ≤ b → w * a ≤ w * b
up_to_most w a b h = go (ℕ_discrete a b)
  where
    go : Dec (a ≡ b) → w * a ≤ w * b
    go (yes e) = rw e (omega arith)
    go (no e) = omega (arith, up_to w a b (omega arith))

pub get_d_map : {A B : Type 0} (f : A → B) (xs : List A) (i : ℕ) (a : A) (b : B) → i < length xs → get_or (map f xs) i b ≡ f (get_or xs i a)
get_d_map f [] i a b h = absurd (omega arith)
get_d_map f (x ∷ xs) zero a b h = refl
get_d_map f (x ∷ xs) (suc i) a b h = get_d_map f xs i a b (omega arith)

pub map_insert : {A B : Type 0} (f : A → B) (xs : List A) (i : ℕ) (x : A) → map f (insert_at i x xs) ≡ insert_at i (f x) (map f xs)
unfolding insert_at
map_insert f xs zero x = refl
map_insert f [] (suc i) x = refl
map_insert {B = B} f (y ∷ xs) (suc i) x = ap (λ (l : List B). f y ∷ l) (map_insert f xs i x)

pub map_set : {A B : Type 0} (f : A → B) (xs : List A) (i : ℕ) (x : A) → map f (set xs i x) ≡ set (map f xs) i (f x)
map_set f [] i x = refl
map_set f (y ∷ xs) zero x = refl
map_set {B = B} f (y ∷ xs) (suc i) x = ap (λ (l : List B). f y ∷ l) (map_set f xs i x)

pub insert_length : {A : Type 0} (xs : List A) (i : ℕ) (x : A) → length (insert_at i x xs) ≡ suc (length xs)
unfolding insert_at
insert_length xs zero x = refl
insert_length [] (suc i) x = refl
insert_length (y ∷ xs) (suc i) x = ap suc (insert_length xs i x)

pub erase_length : {A : Type 0} (xs : List A) (i : ℕ) → i < length xs → suc (length (erase_at i xs)) ≡ length xs
unfolding erase_at
erase_length [] i h = absurd (omega arith)
erase_length (y ∷ xs) zero h = refl
erase_length (y ∷ xs) (suc i) h = ap suc (erase_length xs i (omega arith))

pub insert_here : {A : Type 0} (xs : List A) (i : ℕ) (x nil : A) → i ≤ length xs → get_or (insert_at i x xs) i nil ≡ x
unfolding insert_at
insert_here xs zero x nil h = refl
insert_here [] (suc i) x nil h = absurd (omega arith)
insert_here (y ∷ xs) (suc i) x nil h = insert_here xs i x nil (omega arith)

pub set_at : {A : Type 0} (xs : List A) (i : ℕ) (x nil : A) → i < length xs → get_or (set xs i x) i nil ≡ x
set_at [] i x nil h = absurd (omega arith)
set_at (y ∷ xs) zero x nil h = refl
set_at (y ∷ xs) (suc i) x nil h = set_at xs i x nil (omega arith)

pub set_same : {A : Type 0} (xs : List A) (i : ℕ) (x nil : A) → x ≡ get_or xs i nil → set xs i x ≡ xs
set_same [] i x nil e = refl
set_same {A} (y ∷ xs) zero x nil e = ap (λ (z : A). z ∷ xs) e
set_same {A} (y ∷ xs) (suc i) x nil e = ap (λ (l : List A). y ∷ l) (set_same xs i x nil e)

pub below_at : (n : ℕ) (xs : List ℕ) (i : ℕ) → Below n xs → i < length xs → get_or xs i 0 < n
unfolding Below
below_at n [] i b h = absurd (omega arith)
below_at n (x ∷ xs) zero b h = b.0
below_at n (x ∷ xs) (suc i) b h = below_at n xs i b.1 (omega arith)

pub below_more : (m : ℕ) (xs : List ℕ) → Below m xs → Below (suc m) xs
unfolding Below
below_more m [] b = b
below_more m (x ∷ xs) b = (omega (arith, b.0), below_more m xs b.1)

pub below_insert : (n : ℕ) (xs : List ℕ) (i x : ℕ) → Below n xs → x < n → Below n (insert_at i x xs)
unfolding Below insert_at
below_insert n xs zero x b h = (h, b)
below_insert n [] (suc i) x b h = (h, b)
below_insert n (y ∷ xs) (suc i) x b h = (b.0, below_insert n xs i x b.1 h)

pub below_erase : (n : ℕ) (xs : List ℕ) (i : ℕ) → Below n xs → Below n (erase_at i xs)
unfolding Below erase_at
below_erase n [] zero b = b
below_erase n [] (suc i) b = b
below_erase n (x ∷ xs) zero b = b.1
below_erase n (x ∷ xs) (suc i) b = (b.0, below_erase n xs i b.1)

-- a number below m + 1 that does not occur is not the last
pub below_less : (m : ℕ) (xs : List ℕ) → has m xs ≡ false → Below (suc m) xs → Below m xs
unfolding Below
below_less m [] e b = b
below_less m (x ∷ xs) e b = let h = absent_head m x xs e in (less h.0 b.0, below_less m xs h.1 b.1)
  where
    less : (m ≡ x → ⊥) → x < suc m → x < m
    less n l = omega arith

-- the rank of a cell's row is the cell's
rank_of_row : {P : Type 0} (c : Cell) (p : P) → row_rank (row_of c p) ≡ rank_of c
unfolding row_rank row_of rank_of part_of
rank_of_row c p = omega arith

pub row_ranks : {P : Type 0} (pay : ℕ → P) (cs : List Cell) → map row_rank (rows pay cs) ≡ ranks cs
unfolding rows
row_ranks pay [] = refl
row_ranks pay (c ∷ cs) = rw (rank_of_row c (pay (number_of c)), row_ranks pay cs)

pub row_spots_lem : {P : Type 0} (pay : ℕ → P) (cs : List Cell) → map (λ (r : Row P). r.spot) (rows pay cs) ≡ spots cs
unfolding rows row_of spot_of
row_spots_lem pay [] = refl
row_spots_lem {P} pay (c ∷ cs) = ap (λ (l : List ℕ). c.spot ∷ l) (row_spots_lem pay cs)

module _ (old new : ℕ → ℕ) where
  -- payloads in use carry what they carried
  pub tied_same : (m : ℕ) (cs : List Cell) → ((q : ℕ) → q < m → new q ≡ old q) → Below m (numbers cs) → Tied old cs → Tied new cs
  unfolding Below Tied
  tied_same m [] same b t = t
  tied_same m (c ∷ cs) same b t = (same (number_of c) b.0 ∙ t.0, tied_same m cs same b.1 t.1)

  -- and one more
  pub tied_added : (m : ℕ) (cs : List Cell) (i : ℕ) (x : Cell) → ((q : ℕ) → q < m → new q ≡ old q) → Below m (numbers cs) → Tied old cs →
      new (number_of x) ≡ rank_of x → Tied new (insert_at i x cs)
  unfolding Below Tied insert_at
  tied_added m cs zero x same b t e = (e, tied_same m cs same b t)
  tied_added m [] (suc i) x same b t e = (e, t)
  tied_added m (c ∷ cs) (suc i) x same b t e = (same (number_of c) b.0 ∙ t.0, tied_added m cs i x same b.1 t.1 e)

pub tied_erase : (carried : ℕ → ℕ) (cs : List Cell) (i : ℕ) → Tied carried cs → Tied carried (erase_at i cs)
unfolding Tied erase_at
tied_erase carried [] zero t = t
tied_erase carried [] (suc i) t = t
tied_erase carried (c ∷ cs) zero t = t.1
tied_erase carried (c ∷ cs) (suc i) t = (t.0, tied_erase carried cs i t.1)

-- the last payload, l, moved to q, which no cell names
given_rank : (l q : ℕ) (c : Cell) → q ≤ l → number_of c ≡ l → rank_of (give_number l q c) ≡ rank_of c
unfolding rank_of part_of number_of give_number
given_rank l q c h e =
    let d : (c.word - (l - q)) / 16777216 % 256 ≡ c.word / 16777216 % 256 = omega arith in
    rw d

module _ (old new : ℕ → ℕ) (l q : ℕ) (low : q < l) (same : (i : ℕ) → i < l → (q ≡ i → ⊥) → new i ≡ old i) (put : new q ≡ old l) where
  tied_one : (c : Cell) → number_of c < suc l → (q ≡ number_of c → ⊥) → old (number_of c) ≡ rank_of c →
      (number_of (renamed l q c) < l) × (new (number_of (renamed l q c)) ≡ rank_of (renamed l q c))
  unfolding renamed
  tied_one c b n t = go (ℕ_discrete (number_of c) l)
    where
      go : Dec (number_of c ≡ l) → (number_of (renamed l q c) < l) × (new (number_of (renamed l q c)) ≡ rank_of (renamed l q c))
      go (yes e) =
          rw (eq-eqb (number_of c) l e, given l q c (omega arith) e, given_rank l q c (omega arith) e) (low, put ∙ ap old (sym e) ∙ t)
      go (no e) = rw (ne_eqb (number_of c) l e) (omega arith, same (number_of c) (omega arith) n ∙ t)

  pub moved_tied : (cs : List Cell) → Below (suc l) (numbers cs) → has q (numbers cs) ≡ false → Tied old cs → Tied new (map (renamed l q) cs)
  unfolding Below Tied
  moved_tied [] b e t = t
  moved_tied (c ∷ cs) b e t =
      let h = absent_head q (number_of c) (numbers cs) e in
      ((tied_one c b.0 h.0 t.0).1, moved_tied cs b.1 h.1 t.1)

  pub moved_below : (cs : List Cell) → Below (suc l) (numbers cs) → has q (numbers cs) ≡ false → Tied old cs → Below l (numbers (map (renamed l q) cs))
  unfolding Below Tied
  moved_below [] b e t = b
  moved_below (c ∷ cs) b e t =
      let h = absent_head q (number_of c) (numbers cs) e in
      ((tied_one c b.0 h.0 t.0).0, moved_below cs b.1 h.1 t.1)

-- the payload of one cell rewritten
module _ {P : Type 0} (pay new : ℕ → P) where
  pub rows_set : (cs : List Cell) (i : ℕ) (nil : Cell) → Distinct (numbers cs) → i < length cs →
      ((q : ℕ) → (number_of (get_or cs i nil) ≡ q → ⊥) → new q ≡ pay q) →
      rows new cs ≡ set (rows pay cs) i (row_of (get_or cs i nil) (new (number_of (get_or cs i nil))))
  unfolding rows Distinct
  rows_set [] i nil d h same = absurd (omega arith)
  rows_set (c ∷ cs) zero nil d h same = ap (λ (l : List (Row P)). row_of c (new (number_of c)) ∷ l) (rest cs d.0)
    where
      rest : (ds : List Cell) → has (number_of c) (numbers ds) ≡ false → rows new ds ≡ rows pay ds
      rest [] e = refl
      rest (b ∷ ds) e =
          let a = absent_head (number_of c) (number_of b) (numbers ds) e in
          rw (same (number_of b) a.0, rest ds a.1)
  rows_set (c ∷ cs) (suc i) nil d h same =
      rw (same (number_of c) (λ e. other cs i (number_of c) d.0 (omega arith) e), rows_set cs i nil d.1 (omega arith) same)
    where
      other : (ds : List Cell) (k x : ℕ) → has x (numbers ds) ≡ false → k < length ds → number_of (get_or ds k nil) ≡ x → ⊥
      other [] k x e g f = omega arith
      other (b ∷ ds) zero x e g f = (absent_head x (number_of b) (numbers ds) e).0 (sym f)
      other (b ∷ ds) (suc k) x e g f = other ds k x (absent_head x (number_of b) (numbers ds) e).1 (omega arith) f

-- a row in the list
pub rows_at : {P : Type 0} (pay : ℕ → P) (cs : List Cell) (i : ℕ) (none : Row P) (nil : Cell) → i < length cs →
    get_or (rows pay cs) i none ≡ row_of (get_or cs i nil) (pay (number_of (get_or cs i nil)))
unfolding rows
rows_at {P} pay cs i none nil h = get_d_map (λ (c : Cell). row_of c (pay (number_of c))) cs i nil none h

pub rows_length : {P : Type 0} (pay : ℕ → P) (cs : List Cell) → length (rows pay cs) ≡ length cs
unfolding rows
rows_length {P} pay cs = length-map cs (λ (c : Cell). row_of c (pay (number_of c)))

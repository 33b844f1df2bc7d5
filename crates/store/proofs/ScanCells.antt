-- What the scan's small tests tell: of one cell, of two, of a page, of the whole.
-- Assumes nothing.
use mathlib.Core.Path.{◌≡◌, refl, sym, ◌∙◌, ap}
use mathlib.Core.Bool.{Bool, true, false, cond, ◌&&◌}
use Rattle.std.specs.Prelude.{Option, Some, None}
use mathlib.Core.List.{List}
use Prim.Native.Nat.{ℕ, suc, ◌+◌, ◌-◌, ◌*◌, ◌/◌, ◌%◌, ◌≤◌, ◌<◌}
use native.Mathlib.Omega.{arith}
use native.Mathlib.Nat.{mul-le-mul_left, mul-add}
use native.Mathlib.Decide.{dec_lt, ℕ_discrete}
use lib.Dec.{ltb, eqb}
use lib.ListN.{length, get_or, take, drop}
use borrow.Author.Tests.{lt-ltb, le-ltb, eq-eqb, ne_eqb, le-leb, lt-leb}
use Rattle.moves.specs.Moves.{all_zero}
use Rattle.probe.specs.Cells.{spot_at}
use Rattle.numbers.specs.Numbers.{rank_of, part_of, number_of, fine}
use Rattle.directory.specs.Cells.{cell_at}
use Rattle.directory.specs.Directory.{room_of, most_pages}
use Rattle.directory.proofs.Directories.{sizes}
use Rattle.store.specs.Held.{base_of, carried_at}
use Rattle.store.specs.Scan.{zero_from, page_test, cells_test, valid_test, limit_at}
use Rattle.store.proofs.Scanning.{page_told, layout_fits}

zero_is : (from to : ℕ) (s : List ℕ) (y b : Bool) → y ≡ all_zero (take (to - from) (drop from s)) → y ≡ b → zero_from from to s ≡ b
unfolding zero_from
zero_is from to s y b e f = sym e ∙ f

-- two tests of order that say the same
same_less : (a b c d : ℕ) → (a < b → c < d) → (b ≤ a → d ≤ c) → ltb a b ≡ ltb c d
same_less a b c d f g = go (dec_lt a b)
  where
    go : Dec (a < b) → ltb a b ≡ ltb c d
    go (yes h) = lt-ltb a b h ∙ sym (lt-ltb c d (f h))
    go (no h) = le-ltb a b (omega arith) ∙ sym (le-ltb c d (g (omega arith)))

-- ranks in order by spot, and by part where spots are equal
pub by_spot : (s : List ℕ) (last at x y : ℕ) → x ≡ spot_at s last → y ≡ spot_at s at → (x ≡ y → ⊥) →
    ltb y x ≡ ltb (rank_of (cell_at s at)) (rank_of (cell_at s last))
unfolding rank_of part_of cell_at
by_spot s last at x y e f n =
    same_less y x (rank_of (cell_at s at)) (rank_of (cell_at s last)) (λ h. omega arith) (λ h. omega arith)

pub by_part : (s : List ℕ) (last at x y u v : ℕ) → x ≡ spot_at s last → y ≡ spot_at s at → x ≡ y → u ≡ get_or s (at + 2) 0 → v ≡ get_or s (last + 2) 0 →
    u < 4294967296 → v < 4294967296 → ltb (u / 16777216) (v / 16777216) ≡ ltb (rank_of (cell_at s at)) (rank_of (cell_at s last))
unfolding rank_of part_of cell_at
by_part s last at x y u v e f n g i j k =
    same_less (u / 16777216) (v / 16777216) (rank_of (cell_at s at)) (rank_of (cell_at s last)) (λ h. omega arith) (λ h. omega arith)

-- a cell and its payload
module _ (w : ℕ) (parted : Bool) (s : List ℕ) (at h v : ℕ) (held : h ≡ get_or s 0 0) (third : v ≡ get_or s (at + 2) 0) where
  abbrev named : Bool
  named = ltb (number_of (cell_at s at)) (get_or s 0 0) && eqb (carried_at w parted s (number_of (cell_at s at))) (rank_of (cell_at s at))

  number_is : number_of (cell_at s at) ≡ v % 65536
  unfolding number_of cell_at
  number_is = ap (λ (k : ℕ). k % 65536) (sym third)

  pub named_over : h ≤ v % 65536 → false ≡ named
  named_over l = rw (number_is, le-ltb (v % 65536) (get_or s 0 0) (omega arith))

  module _ (under : v % 65536 < h) where
    named_rest : named ≡ eqb (carried_at w parted s (v % 65536)) (rank_of (cell_at s at))
    named_rest = rw (number_is, lt-ltb (v % 65536) (get_or s 0 0) (omega arith))

    module _ (x y c : ℕ) (p : x ≡ spot_at s (6 + w * (v % 65536))) (q : y ≡ spot_at s at) (r : c ≡ cond parted (get_or s (6 + w * (v % 65536) + 2) 0) 0)
        (small : c < 4294967296) where
      carried_is : carried_at w parted s (v % 65536) ≡ 4294967296 * x + c
      unfolding carried_at
      carried_is = rw (← p, ← r)

      rank_is : rank_of (cell_at s at) ≡ 4294967296 * y + v / 16777216 % 256
      unfolding rank_of part_of cell_at
      rank_is = rw (← q, ← third)

      pub named_else : (x ≡ y → ⊥) → false ≡ named
      named_else n =
          sym (named_rest ∙ rw (carried_is, rank_is) (ne_eqb (4294967296 * x + c) (4294967296 * y + v / 16777216 % 256) (λ e. n (omega arith))))

      pub named_part : x ≡ y → v < 4294967296 → eqb c (v / 16777216) ≡ named
      named_part e l = sym (named_rest ∙ rw (carried_is, rank_is) (go (ℕ_discrete c (v / 16777216))))
        where
          go : Dec (c ≡ v / 16777216) → eqb (4294967296 * x + c) (4294967296 * y + v / 16777216 % 256) ≡ eqb c (v / 16777216)
          go (yes f) =
              eq-eqb (4294967296 * x + c) (4294967296 * y + v / 16777216 % 256) (omega arith) ∙ sym (eq-eqb c (v / 16777216) f)
          go (no f) =
              ne_eqb (4294967296 * x + c) (4294967296 * y + v / 16777216 % 256) (λ d. f (omega arith)) ∙ sym (ne_eqb c (v / 16777216) f)

-- the part that a payload carries
pub part_there : (parted : Bool) (s : List ℕ) (p v : ℕ) → parted ≡ true → v ≡ get_or s (p + 2) 0 → v ≡ cond parted (get_or s (p + 2) 0) 0
part_there parted s p v e f = f ∙ rw e

pub part_none : (parted : Bool) (s : List ℕ) (p : ℕ) → parted ≡ false → ◌≡◌ {A = ℕ} 0 (cond parted (get_or s (p + 2) 0) 0)
part_none parted s p e = rw e

-- a payload in use lies within the words
pub payload_inside : (w h g q len : ℕ) → q < h → h ≡ g → 3 ≤ w → 6 + w * g ≤ len → 6 + w * q + 3 ≤ len
payload_inside w h g q len l e wide fit =
    let less : 1 + q ≤ g = omega arith in
    omega (arith, mul-le-mul_left w less, mul-add w 1 q)

-- a cell whose payload carries another spot, whatever word stands for its part
pub named_other : (w : ℕ) (parted : Bool) (s : List ℕ) (at h v : ℕ) → h ≡ get_or s 0 0 → v ≡ get_or s (at + 2) 0 → v % 65536 < h →
    ((i : ℕ) → get_or s i 0 < 4294967296) → (x y : ℕ) → x ≡ spot_at s (6 + w * (v % 65536)) → y ≡ spot_at s at → (x ≡ y → ⊥) →
    false ≡ (ltb (number_of (cell_at s at)) (get_or s 0 0) && eqb (carried_at w parted s (number_of (cell_at s at))) (rank_of (cell_at s at)))
named_other w parted s at h v held third under words x y p q n =
    named_else w parted s at h v held third under x y (cond parted (get_or s (6 + w * (v % 65536) + 2) 0) 0) p q refl (small parted) n
  where
    small : (b : Bool) → cond b (get_or s (6 + w * (v % 65536) + 2) 0) 0 < 4294967296
    small true = words (6 + w * (v % 65536) + 2)
    small false = omega arith

-- a cell after another
module _ (carried : ℕ → ℕ) (h : ℕ) (s : List ℕ) (last : Option ℕ) (at : ℕ) (r : Bool)
    (told : r ≡ (ltb (number_of (cell_at s at)) h && eqb (carried (number_of (cell_at s at))) (rank_of (cell_at s at)))) where
  pub fine_not : r ≡ false → false ≡ fine carried h (limit_at s last at) (cell_at s at)
  unfolding fine
  fine_not e =
      let f : (ltb (number_of (cell_at s at)) h && eqb (carried (number_of (cell_at s at))) (rank_of (cell_at s at))) ≡ false = sym told ∙ e in
      rw f

  module _ (e : r ≡ true) where
    fine_rest : fine carried h (limit_at s last at) (cell_at s at) ≡ ltb (rank_of (cell_at s at)) (limit_at s last at)
    unfolding fine
    fine_rest =
        let f : (ltb (number_of (cell_at s at)) h && eqb (carried (number_of (cell_at s at))) (rank_of (cell_at s at))) ≡ true = sym told ∙ e in
        rw f

    pub fine_first : last ≡ None → true ≡ fine carried h (limit_at s last at) (cell_at s at)
    unfolding limit_at
    fine_first z = sym (fine_rest ∙ rw z (lt-ltb (rank_of (cell_at s at)) (suc (rank_of (cell_at s at))) (omega arith)))

    pub fine_next : (p : ℕ) → last ≡ Some p → (t : Bool) → t ≡ ltb (rank_of (cell_at s at)) (rank_of (cell_at s p)) → t ≡ fine carried h (limit_at s last at) (cell_at s at)
    unfolding limit_at
    fine_next p z t g = g ∙ sym (fine_rest ∙ rw z)

pub void_none : (c m : ℕ) → c ≡ 0 → ltb 0 m ≡ (eqb c 0 && ltb 0 m)
void_none c m e = rw (eq-eqb c 0 e)

pub void_some : (c m : ℕ) → (c ≡ 0 → ⊥) → false ≡ (eqb c 0 && ltb 0 m)
void_some c m e = rw (ne_eqb c 0 e)

-- a page
module _ (base n : ℕ) (s : List ℕ) (k c m : ℕ) (count : c ≡ get_or s (base + 97 * k) 0) (pages : m ≡ get_or s 1 0) where
  pub page_over : (r : ℕ) → r ≡ room_of n → r < c → false ≡ page_test base n s k
  unfolding page_test
  page_over r e l = rw (lt-leb (get_or s (base + 97 * k) 0) (room_of n) (omega arith))

  module _ (r : ℕ) (room : r ≡ room_of n) (fits : c ≤ r) (v : Bool) (void : v ≡ (eqb c 0 && ltb 0 m)) where
    pub page_void : v ≡ true → false ≡ page_test base n s k
    unfolding page_test
    page_void e =
        let f : (eqb (get_or s (base + 97 * k) 0) 0 && ltb 0 (get_or s 1 0)) ≡ true = rw (← count, ← pages) (sym void ∙ e) in
        rw (le-leb (get_or s (base + 97 * k) 0) (room_of n) (omega arith), f)

    module _ (e : v ≡ false) (z : Bool) where
      page_rest : page_test base n s k ≡ zero_from (base + 97 * k + 1 + 3 * c) (cond (ltb k m) (base + 97 * suc k) (32 * n)) s
      unfolding page_test
      page_rest =
          let f : (eqb (get_or s (base + 97 * k) 0) 0 && ltb 0 (get_or s 1 0)) ≡ false = rw (← count, ← pages) (sym void ∙ e) in
          rw (le-leb (get_or s (base + 97 * k) 0) (room_of n) (omega arith), f, ← count, ← pages)

      pub page_inner : k < m → z ≡ all_zero (take (base + 97 * k + 97 - (base + 97 * k + 1 + 3 * c)) (drop (base + 97 * k + 1 + 3 * c) s)) → z ≡ page_test base n s k
      unfolding zero_from
      page_inner l g =
          let d : base + 97 * k + 97 ≡ base + 97 * suc k = omega arith in
          g ∙ sym (page_rest ∙ rw (lt-ltb k m l, d))

      pub page_last : m ≤ k → z ≡ all_zero (take (32 * n - (base + 97 * k + 1 + 3 * c)) (drop (base + 97 * k + 1 + 3 * c) s)) → z ≡ page_test base n s k
      unfolding zero_from
      page_last l g = g ∙ sym (page_rest ∙ rw (le-ltb k m l))

-- the whole
module _ (w : ℕ) (parted : Bool) (n : ℕ) (s : List ℕ) (h : ℕ) (held : h ≡ get_or s 0 0) where
  pub valid_over : n < h → false ≡ valid_test w parted n s
  unfolding valid_test
  valid_over l = rw (lt-leb (get_or s 0 0) n (omega arith))

  module _ (units : h ≤ n) (p m : ℕ) (most : p ≡ most_pages n) (last : m ≡ get_or s 1 0) where
    pub valid_most : p ≤ m → false ≡ valid_test w parted n s
    unfolding valid_test
    valid_most l = rw (le-leb (get_or s 0 0) n (omega arith), le-ltb (get_or s 1 0) (most_pages n) (omega arith))

    module _ (few : m < p) (y : Bool) (heads : y ≡ all_zero (take (6 - 2) (drop 2 s))) where
      pub valid_heads : y ≡ false → false ≡ valid_test w parted n s
      unfolding valid_test
      valid_heads e =
          let f : zero_from 2 6 s ≡ false = zero_is 2 6 s y false heads e in
          rw (le-leb (get_or s 0 0) n (omega arith), lt-ltb (get_or s 1 0) (most_pages n) (omega arith), f)

      module _ (e : y ≡ true) (z : Bool) (spare : z ≡ all_zero (take (6 + w * n - (6 + w * h)) (drop (6 + w * h) s))) where
        valid_rest : valid_test w parted n s ≡ (z && cells_test w parted n s)
        unfolding valid_test base_of
        valid_rest =
            let f : zero_from 2 6 s ≡ true = zero_is 2 6 s y true heads e in
            let g : zero_from (6 + w * h) (6 + w * n) s ≡ z = zero_is (6 + w * h) (6 + w * n) s z z spare refl in
            rw (← held, le-leb h n (omega arith), lt-ltb (get_or s 1 0) (most_pages n) (omega arith), f, g)

        pub valid_spare : z ≡ false → false ≡ valid_test w parted n s
        valid_spare g = sym (valid_rest ∙ rw g)

        pub valid_cells : z ≡ true → (r : Bool) → r ≡ cells_test w parted n s → r ≡ valid_test w parted n s
        valid_cells g r f = f ∙ sym (valid_rest ∙ rw g)

-- where a page follows, a page has 32 cells at most
pub inner_few : (n m g k r c : ℕ) → m ≡ g → g < most_pages n → k < m → r ≡ room_of n → c ≤ r → c ≤ 32
inner_few n m g k r c e l h f i = omega (arith, (sizes n).apart (omega arith))

pub base_low : (w n base : ℕ) → base ≡ base_of w n → 6 ≤ base
unfolding base_of
base_low w n base e = omega arith

-- a page that passes lies within the words
pub record PageInside (base : ℕ) (s : List ℕ) (k : ℕ) : Type 0 where
  pub within : base + 97 * k + 1 + 3 * get_or s (base + 97 * k) 0 ≤ length s
  pub few : get_or s (base + 97 * k) 0 ≤ 64

pub page_inside : (base n : ℕ) (s : List ℕ) (k m : ℕ) → base + 97 * (most_pages n - 1) + 1 + 3 * room_of n ≤ 32 * n → 32 * n ≤ length s →
    get_or s 1 0 < most_pages n → m ≡ get_or s 1 0 → k ≤ m → (r : Bool) → r ≡ page_test base n s k → r ≡ true → PageInside base s k
page_inside base n s k m space size pages e l r f g =
    let c = (page_told base n s k (sym f ∙ g)).count in
    record { within = omega arith; few = omega (arith, (sizes n).few) }

-- where the words of a store lie
pub base_is : (w n : ℕ) → 6 + w * n ≡ base_of w n
unfolding base_of
base_is w n = refl

pub space_is : (w n : ℕ) → w ≤ 22 → 0 < n → 6 + w * n + 97 * (most_pages n - 1) + 1 + 3 * room_of n ≤ 32 * n
unfolding base_of
space_is w n narrow some = layout_fits w n narrow some

pub payloads_fit : (w n h len : ℕ) → w ≤ 22 → 0 < n → h ≤ n → 32 * n ≤ len → (6 + w * n ≤ len) × (w * h ≤ w * n)
payloads_fit w n h len narrow some l size = (omega (arith, space_is w n narrow some), mul-le-mul_left w l)

pub payloads_inside : (w n h g len : ℕ) → w ≤ 22 → 0 < n → h ≤ n → h ≡ g → 32 * n ≤ len → 6 + w * g ≤ len
payloads_inside w n h g len narrow some l e size = let f = payloads_fit w n g len narrow some (omega arith) size in omega arith

-- The place that the first cells of pages and then a page give.
-- Assumes nothing.
use mathlib.Core.Path.{◌≡◌, refl, sym, ◌∙◌, ap}
use mathlib.Core.Bool.{true}
use mathlib.Core.List.{List, [], ◌∷◌, ◌++◌, map}
use Prim.Native.Nat.{ℕ, zero, suc, ◌+◌, ◌-◌, ◌*◌, ◌≤◌, ◌<◌}
use native.Mathlib.Omega.{arith}
use lib.ListN.{length, get_or, take, drop, replicate, length-append, length-map}
use borrow.Author.Tests.{le-leb}
use Rattle.probe.specs.Cells.{readings, spot_at, spaced, cells, firsts, falls, count_above}
use Rattle.probe.proofs.Probe.{readings_at, length_readings, count_fits}
use Rattle.probe.proofs.Readings.{readings_same, readings_append, map_readings}
use Rattle.pages.specs.Dir.{flat, page, offset, heads}
use Rattle.pages.proofs.Edits.{around}
use Rattle.pages.proofs.Search.{Filled, falls_left, falls_right, padded, padded_falls, heads_fall, find_place_lem}
use Rattle.numbers.specs.Numbers.{Cell, spot_of, part_of, rank_of, spots, ranks, Below, Drops}
use Rattle.directory.specs.Cells.{cell_at, page_at, dir_at, cells_in, position_in}
use Rattle.directory.specs.Directory.{Sound, Stands}

-- where ranks drop, spots fall, for a part is below 256
spot_under : (c e : Cell) → rank_of e < rank_of c → spot_of e ≤ spot_of c
unfolding rank_of part_of spot_of
spot_under c e h = omega arith

pub spots_fall : (cs : List Cell) → Drops (ranks cs) → falls (spots cs) ≡ true
unfolding Drops falls Below
spots_fall [] d = refl
spots_fall (c ∷ []) d = rw (le-leb 0 (spot_of c) (omega arith))
spots_fall (c ∷ e ∷ cs) d = rw (le-leb (spot_of e) (spot_of c) (spot_under c e d.0.0)) (spots_fall (e ∷ cs) d.1)

map-append : {A B : Type 0} (f : A → B) (p q : List A) → map f (p ++ q) ≡ map f p ++ map f q
map-append f [] q = refl
map-append f (x ∷ p) q = rw (map-append f p q)

pub flat_map : {A B : Type 0} (f : A → B) (d : List (List A)) → flat (map (λ p. map f p) d) ≡ map f (flat d)
unfolding flat
flat_map f [] = refl
flat_map f (p ∷ d) = rw (map-append f p (flat d), flat_map f d)

pub offset_map : {A B : Type 0} (f : A → B) (k : ℕ) (d : List (List A)) → offset k (map (λ p. map f p) d) ≡ offset k d
unfolding offset flat
offset_map f zero d = refl
offset_map f (suc k) [] = refl
offset_map f (suc k) (p ∷ d) =
    length-append (map f p) (flat (take k (map (λ q. map f q) d)))
    ∙ rw (length-map p f, length-append p (flat (take k d))) (ap (λ (n : ℕ). length p + n) (offset_map f k d))

-- zeros after what is read
zeros_read : (n : ℕ) (f : ℕ → ℕ) → ((i : ℕ) → i < n → f i ≡ 0) → readings f n ≡ replicate n 0
unfolding readings
zeros_read zero f h = refl
zeros_read (suc n) f h = rw (h 0 (omega arith), zeros_read n (λ i. f (suc i)) (λ i l. h (suc i) (omega arith)))

-- the spots of page k
unfoldable pub page_spots_lem : ℕ → List ℕ → ℕ → List ℕ
page_spots_lem base s k = cells (get_or s (base + 97 * k) 0) (base + 97 * k + 1) s

page_spots : (base : ℕ) (s : List ℕ) (k : ℕ) → spots (page_at s (base + 97 * k)) ≡ page_spots_lem base s k
unfolding page_spots_lem page_at spaced spot_of cell_at
page_spots base s k = map_readings spot_of (get_or s (base + 97 * k) 0) (λ i. cell_at s (base + 97 * k + 1 + 3 * i))

first_spot : (base : ℕ) (s : List ℕ) (k : ℕ) → 0 < get_or s (base + 97 * k) 0 → get_or (page_spots_lem base s k) 0 0 ≡ spot_at s (base + 97 * k + 1 + 3 * 0)
unfolding page_spots_lem spaced
first_spot base s k h = readings_at (get_or s (base + 97 * k) 0) (λ i. spot_at s (base + 97 * k + 1 + 3 * i)) 0 0 h

module _ (base r : ℕ) (s : List ℕ) (ok : Sound base r s) where
  abbrev d : List (List ℕ)
  d = readings (λ k. page_spots_lem base s (suc k)) (get_or s 1 0)

  spots_dir : map (λ p. spots p) (dir_at base s) ≡ page_spots_lem base s 0 ∷ d
  unfolding dir_at readings
  spots_dir =
      map_readings (λ p. spots p) (suc (get_or s 1 0)) (λ k. page_at s (base + 97 * k))
      ∙ readings_same (suc (get_or s 1 0)) (λ k. spots (page_at s (base + 97 * k))) (page_spots_lem base s) (λ k h. page_spots base s k)

  spots_flat : spots (cells_in base s) ≡ flat (page_spots_lem base s 0 ∷ d)
  unfolding cells_in
  spots_flat = sym (flat_map spot_of (dir_at base s)) ∙ ap flat spots_dir

  order : falls (flat (page_spots_lem base s 0 ∷ d)) ≡ true
  order = rw (← spots_flat) (spots_fall (cells_in base s) ok.order)

  size : (k : ℕ) → length (page_spots_lem base s k) ≡ get_or s (base + 97 * k) 0
  unfolding page_spots_lem spaced
  size k = length_readings (get_or s (base + 97 * k) 0) (λ i. spot_at s (base + 97 * k + 1 + 3 * i))

  filled : Filled d
  unfolding page
  filled i h =
      let l : i < get_or s 1 0 = omega (arith, length_readings (get_or s 1 0) (λ k. page_spots_lem base s (suc k))) in
      rw (readings_at (get_or s 1 0) (λ k. page_spots_lem base s (suc k)) i [] l) (omega (arith, size (suc i), ok.filled i l))

  tail_order : falls (flat d) ≡ true
  unfolding flat
  tail_order = falls_right (page_spots_lem base s 0) (flat d) order

  heads_are : heads d ≡ firsts (get_or s 1 0) (base + 98) s
  unfolding heads spaced
  heads_are =
      map_readings (λ p. get_or p 0 0) (get_or s 1 0) (λ k. page_spots_lem base s (suc k))
      ∙ readings_same (get_or s 1 0) (λ k. get_or (page_spots_lem base s (suc k)) 0 0) (λ k. spot_at s (base + 98 + 97 * k)) (λ k h. first k h)
    where
      first : (k : ℕ) → k < get_or s 1 0 → get_or (page_spots_lem base s (suc k)) 0 0 ≡ spot_at s (base + 98 + 97 * k)
      first k h =
          first_spot base s (suc k) (ok.filled k h)
          ∙ (let e : base + 97 * suc k + 1 + 3 * 0 ≡ base + 98 + 97 * k = omega arith in ap (spot_at s) e)

  firsts_fall : falls (firsts (get_or s 1 0) (base + 98) s) ≡ true
  firsts_fall = rw (← heads_are) (heads_fall d tail_order filled)

  firsts_inside : base + 98 + 97 * get_or s 1 0 ≤ length s + 95
  firsts_inside = omega (arith, ok.laid.inside, ok.laid.some)

  -- all cells of a page, the unused ones too
  whole : (k : ℕ) → k ≤ get_or s 1 0 → cells r (base + 97 * k + 1) s ≡ page_spots_lem base s k ++ replicate (r - get_or s (base + 97 * k) 0) 0
  unfolding spaced page_spots_lem
  whole k h =
      let c : ℕ = get_or s (base + 97 * k) 0 in
      let e : r ≡ c + (r - c) = omega (arith, ok.laid.counts k h) in
      ap (readings (λ i. spot_at s (base + 97 * k + 1 + 3 * i))) e
      ∙ readings_append c (r - c) (λ i. spot_at s (base + 97 * k + 1 + 3 * i))
      ∙ ap (λ (l : List ℕ). readings (λ i. spot_at s (base + 97 * k + 1 + 3 * i)) c ++ l)
      (zeros_read (r - c) (λ i. spot_at s (base + 97 * k + 1 + 3 * (c + i))) (λ i l. ok.zeros k (c + i) h (omega arith) (omega arith)))

  -- page k of the spots
  page_of : (k : ℕ) → k ≤ get_or s 1 0 → page k (page_spots_lem base s 0 ∷ d) ≡ page_spots_lem base s k
  unfolding page
  page_of zero h = refl
  page_of (suc k) h = readings_at (get_or s 1 0) (λ j. page_spots_lem base s (suc j)) k [] (omega arith)

  page_falls : (k : ℕ) → k ≤ get_or s 1 0 → falls (page_spots_lem base s k) ≡ true
  page_falls k h =
      let all : List (List ℕ) = page_spots_lem base s 0 ∷ d in
      let l : k < length all = omega (arith, length_readings (get_or s 1 0) (λ j. page_spots_lem base s (suc j))) in
      let a : falls (flat (take k all) ++ (page k all ++ flat (drop (suc k) all))) ≡ true = rw (around all k l) at order in
      rw (← page_of k h) (falls_left (page k all) (flat (drop (suc k) all)) (falls_right (flat (take k all)) (page k all ++ flat (drop (suc k) all)) a))

  pub firsts_order : (m : ℕ) → m ≡ get_or s 1 0 → (base + 98 + 97 * m ≤ length s + 95) × (falls (firsts m (base + 98) s) ≡ true)
  firsts_order m f = rw f (firsts_inside, firsts_fall)

  module _ (m y k : ℕ) (pages : m ≡ get_or s 1 0) (above : k ≡ count_above y (firsts m (base + 98) s)) where
    e : k ≡ count_above y (firsts (get_or s 1 0) (base + 98) s)
    e = above ∙ ap (λ (n : ℕ). count_above y (firsts n (base + 98) s)) pages

    pub page_in : k ≤ get_or s 1 0
    unfolding spaced
    page_in =
        omega (
          arith,
          e,
          count_fits y (firsts (get_or s 1 0) (base + 98) s),
          length_readings (get_or s 1 0) (λ j. spot_at s (base + 98 + 97 * j)),
        )

    pub page_order : falls (cells r (base + 97 * k + 1) s) ≡ true
    page_order = rw (whole k page_in) (padded_falls (page_spots_lem base s k) (r - get_or s (base + 97 * k) 0) (page_falls k page_in))

    pub page_inside : base + 97 * k + 1 + 3 * r ≤ length s
    page_inside = omega (arith, ok.laid.inside, page_in)

    pub page_count : get_or s (base + 97 * k) 0 ≤ r
    page_count = ok.laid.counts k page_in

    pub found : (i : ℕ) → i ≡ count_above y (cells r (base + 97 * k + 1) s) →
        Stands base s k i × (position_in base s k i ≡ count_above y (spots (cells_in base s)))
    unfolding position_in
    found i f =
        let c : i ≡ count_above y (page_spots_lem base s k) =
        f ∙ ap (count_above y) (whole k page_in) ∙ padded y (page_spots_lem base s k) (r - get_or s (base + 97 * k) 0) in
        let h : count_above y (heads d) ≡ k = ap (count_above y) heads_are ∙ sym e in
        let o : offset k (page_spots_lem base s 0 ∷ d) ≡ offset k (dir_at base s) = ap (offset k) (sym spots_dir) ∙ offset_map spot_of k (dir_at base s) in
        let p : count_above y (flat (page_spots_lem base s 0 ∷ d)) ≡ offset k (page_spots_lem base s 0 ∷ d) + count_above y (page k (page_spots_lem base s 0 ∷ d)) =
        rw h at (find_place_lem y (page_spots_lem base s 0) d order filled) in
        let q : count_above y (page k (page_spots_lem base s 0 ∷ d)) ≡ count_above y (page_spots_lem base s k) = ap (count_above y) (page_of k page_in) in
        let v : count_above y (spots (cells_in base s)) ≡ count_above y (flat (page_spots_lem base s 0 ∷ d)) = ap (count_above y) spots_flat in
        (record { inside = page_in; fits = omega (arith, count_fits y (page_spots_lem base s k), size k) }, omega arith)

-- a search in a page's first m cells asks less, and one in all of them answers
pub asked_of : (r m a : ℕ) (s : List ℕ) → m ≤ r → (a + 3 * r ≤ length s) × (falls (cells r a s) ≡ true) → (a + 3 * m ≤ length s) × (falls (cells m a s) ≡ true)
unfolding spaced
asked_of r m a s l h =
    let e : r ≡ m + (r - m) = omega arith in
    let f : falls (readings (λ i. spot_at s (a + 3 * i)) (m + (r - m))) ≡ true = rw (← e) h.1 in
    let g : falls (readings (λ i. spot_at s (a + 3 * i)) m ++ readings (λ i. spot_at s (a + 3 * (m + i))) (r - m)) ≡ true =
    ap falls (sym (readings_append m (r - m) (λ i. spot_at s (a + 3 * i)))) ∙ f in
    (omega (arith, h.0), falls_left (readings (λ i. spot_at s (a + 3 * i)) m) (readings (λ i. spot_at s (a + 3 * (m + i))) (r - m)) g)

pub counted_of : (r m a x y : ℕ) (s : List ℕ) → r ≡ m → x ≡ count_above y (cells m a s) → x ≡ count_above y (cells r a s)
counted_of r m a x y s e h = rw e h

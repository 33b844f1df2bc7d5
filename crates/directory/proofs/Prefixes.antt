-- The cells of the first pages, and what is left of them where pages are taken out, split or joined.
-- Assumes nothing.
use mathlib.Core.Path.{◌≡◌, refl, sym, ◌∙◌, ap}
use mathlib.Core.List.{List, [], ◌++◌, append_assoc, append-nil}
use Prim.Native.Nat.{ℕ, zero, suc, ◌+◌, ◌-◌, ◌*◌, ◌≤◌, ◌<◌}
use native.Mathlib.Omega.{arith}
use lib.ListN.{length, get_or, take, drop, length-append, take-append-drop}
use lib.Seq.{length-take-le}
use Rattle.probe.specs.Cells.{readings}
use Rattle.probe.proofs.Readings.{readings_same, readings_append}
use Rattle.pages.specs.Dir.{flat, offset}
use Rattle.pages.proofs.Edits.{flat_append}
use Rattle.numbers.specs.Numbers.{Cell}
use Rattle.directory.specs.Cells.{page_at, dir_at, cells_in}
use Rattle.directory.specs.Pages.{PageClosed, PageSplit, PagesJoined}
use Rattle.directory.proofs.Frames.{page_length}
use Rattle.directory.proofs.Shifting.{take_readings}

-- the cells of the first j pages
unfoldable up_to : ℕ → List ℕ → ℕ → List Cell
up_to base s j = flat (readings (λ k. page_at s (base + 97 * k)) j)

up_next : (base : ℕ) (s : List ℕ) (j : ℕ) → up_to base s (suc j) ≡ up_to base s j ++ page_at s (base + 97 * j)
unfolding up_to flat readings
up_next base s j =
    let e : suc j ≡ j + 1 = omega arith in
    let f : j + 0 ≡ j = omega arith in
    let g : flat (readings (λ i. page_at s (base + 97 * (j + i))) 1) ≡ page_at s (base + 97 * j) =
    append-nil (page_at s (base + 97 * (j + 0))) ∙ ap (λ (z : ℕ). page_at s (base + 97 * z)) f in
    ap (λ (z : ℕ). flat (readings (λ k. page_at s (base + 97 * k)) z)) e
    ∙ ap flat (readings_append j 1 (λ k. page_at s (base + 97 * k)))
    ∙ flat_append (readings (λ k. page_at s (base + 97 * k)) j) (readings (λ i. page_at s (base + 97 * (j + i))) 1)
    ∙ ap (λ (l : List Cell). flat (readings (λ k. page_at s (base + 97 * k)) j) ++ l) g

up_cells : (base : ℕ) (s : List ℕ) → cells_in base s ≡ up_to base s (suc (get_or s 1 0))
unfolding up_to cells_in dir_at
up_cells base s = refl

up_offset : (base : ℕ) (s : List ℕ) (j : ℕ) → j ≤ suc (get_or s 1 0) → offset j (dir_at base s) ≡ length (up_to base s j)
unfolding up_to offset dir_at
up_offset base s j h =
    let e : suc (get_or s 1 0) ≡ j + (suc (get_or s 1 0) - j) = omega arith in
    rw e (ap (λ (d : List (List Cell)). length (flat d)) (take_readings j (suc (get_or s 1 0) - j) (λ k. page_at s (base + 97 * k))))

up_same : (base : ℕ) (s t : List ℕ) (j : ℕ) → ((i : ℕ) → i < j → page_at t (base + 97 * i) ≡ page_at s (base + 97 * i)) → up_to base t j ≡ up_to base s j
unfolding up_to
up_same base s t j h = ap flat (readings_same j (λ k. page_at t (base + 97 * k)) (λ k. page_at s (base + 97 * k)) h)

-- pages that lie elsewhere, after the same cells
up_later : (base : ℕ) (s t : List ℕ) (a b c : ℕ) → up_to base t a ≡ up_to base s b →
    ((i : ℕ) → i < c → page_at t (base + 97 * (a + i)) ≡ page_at s (base + 97 * (b + i))) → up_to base t (a + c) ≡ up_to base s (b + c)
up_later base s t a b zero e h =
    let f : a + zero ≡ a = omega arith in
    let g : b + zero ≡ b = omega arith in
    rw (f, g) e
up_later base s t a b (suc c) e h =
    let ih : up_to base t (a + c) ≡ up_to base s (b + c) = up_later base s t a b c e (λ i l. h i (omega arith)) in
    let f : a + suc c ≡ suc (a + c) = omega arith in
    let g : b + suc c ≡ suc (b + c) = omega arith in
    let p : page_at t (base + 97 * (a + c)) ≡ page_at s (base + 97 * (b + c)) = h c (omega arith) in
    rw (f, g, up_next base t (a + c), up_next base s (b + c), ih, p)

pub count_of_lem : (s t : List ℕ) (a b : ℕ) → page_at t b ≡ page_at s a → get_or t b 0 ≡ get_or s a 0
count_of_lem s t a b e = sym (page_length t b) ∙ ap (λ (l : List Cell). length l) e ∙ page_length s a

empty : (s : List ℕ) (a : ℕ) → get_or s a 0 ≡ 0 → page_at s a ≡ []
unfolding page_at readings
empty s a e = rw e

-- an empty page taken out
module _ (base n k : ℕ) (s t : List ℕ) (inside : k ≤ get_or s 1 0) (none : get_or s (base + 97 * k) 0 ≡ 0) (cl : PageClosed base n k s t) where
  closed_later : (j : ℕ) → k ≤ j → j ≤ get_or s 1 0 → up_to base t j ≡ up_to base s (suc j)
  closed_later j h l =
      let e : j ≡ k + (j - k) = omega arith in
      let f : suc j ≡ suc k + (j - k) = omega arith in
      let z : page_at s (base + 97 * k) ≡ [] = empty s (base + 97 * k) none in
      let g : up_to base s k ≡ up_to base s (suc k) = sym (up_next base s k ∙ ap (λ (c : List Cell). up_to base s k ++ c) z ∙ append-nil (up_to base s k)) in
      ap (up_to base t) e
      ∙ up_later base s t k (suc k) (j - k) (up_same base s t k cl.before ∙ g)
      (λ i m. let o : suc (k + i) ≡ suc k + i = omega arith in cl.after (k + i) (omega arith) (omega arith) ∙ ap (λ (z : ℕ). page_at s (base + 97 * z)) o)
      ∙ ap (up_to base s) (sym f)

  pub closed_cells : cells_in base t ≡ cells_in base s
  closed_cells = up_cells base t ∙ ap (up_to base t) cl.less ∙ closed_later (get_or s 1 0) inside (omega arith) ∙ sym (up_cells base s)

-- a page made two
module _ (base n k h : ℕ) (s t : List ℕ) (inside : k ≤ get_or s 1 0) (sp : PageSplit base n k h s t) where
  split_before : (j : ℕ) → j ≤ k → up_to base t j ≡ up_to base s j
  split_before j l = up_same base s t j (λ i m. sp.before i (omega arith))

  split_next : up_to base t (suc k) ≡ up_to base s k ++ take h (page_at s (base + 97 * k))
  split_next =
      let e : up_to base t k ≡ up_to base s k = split_before k (omega arith) in
      let f : page_at t (base + 97 * k) ≡ take h (page_at s (base + 97 * k)) = sp.here in
      rw (up_next base t k, e, f)

  split_both : up_to base t (suc (suc k)) ≡ up_to base s (suc k)
  split_both =
      let f : page_at t (base + 97 * suc k) ≡ drop h (page_at s (base + 97 * k)) = sp.next in
      up_next base t (suc k) ∙ ap (λ (c : List Cell). c ++ page_at t (base + 97 * suc k)) split_next
      ∙ ap (λ (c : List Cell). (up_to base s k ++ take h (page_at s (base + 97 * k))) ++ c) f
      ∙ append_assoc (up_to base s k) (take h (page_at s (base + 97 * k))) (drop h (page_at s (base + 97 * k)))
      ∙ ap (λ (c : List Cell). up_to base s k ++ c) (take-append-drop h (page_at s (base + 97 * k)))
      ∙ sym (up_next base s k)

  pub split_cells : cells_in base t ≡ cells_in base s
  split_cells =
      let e : suc (suc (get_or s 1 0)) ≡ suc (suc k) + (get_or s 1 0 - k) = omega arith in
      let f : suc (get_or s 1 0) ≡ suc k + (get_or s 1 0 - k) = omega arith in
      up_cells base t ∙ ap (λ (z : ℕ). up_to base t (suc z)) sp.more ∙ ap (up_to base t) e
      ∙ up_later base s t (suc (suc k)) (suc k) (get_or s 1 0 - k) split_both
      (λ i m.
      let o : suc (suc k) + i ≡ suc (suc k + i) = omega arith in
      ap (λ (z : ℕ). page_at t (base + 97 * z)) o ∙ sp.after (suc k + i) (omega arith) (omega arith))
      ∙ ap (up_to base s) (sym f) ∙ sym (up_cells base s)

  pub split_offset : offset k (dir_at base t) ≡ offset k (dir_at base s)
  split_offset =
      up_offset base t k (omega (arith, sp.more)) ∙ ap (λ (c : List Cell). length c) (split_before k (omega arith)) ∙ sym (up_offset base s k (omega arith))

  pub split_offset_next : h ≤ get_or s (base + 97 * k) 0 → offset (suc k) (dir_at base t) ≡ offset k (dir_at base s) + h
  split_offset_next l =
      up_offset base t (suc k) (omega (arith, sp.more)) ∙ ap (λ (c : List Cell). length c) split_next
      ∙ omega (
        arith,
        length-append (up_to base s k) (take h (page_at s (base + 97 * k))),
        up_offset base s k (omega arith),
        length-take-le h (page_at s (base + 97 * k)) (omega (arith, page_length s (base + 97 * k))),
      )

-- two pages made one
module _ (base n k : ℕ) (s t : List ℕ) (inside : k < get_or s 1 0) (jo : PagesJoined base n k s t) where
  joined_both : up_to base t (suc k) ≡ up_to base s (suc (suc k))
  joined_both =
      let e : up_to base t k ≡ up_to base s k = up_same base s t k jo.before in
      let f : page_at t (base + 97 * k) ≡ page_at s (base + 97 * k) ++ page_at s (base + 97 * suc k) = jo.here in
      let g : up_to base s (suc (suc k)) ≡ (up_to base s k ++ page_at s (base + 97 * k)) ++ page_at s (base + 97 * suc k) =
      up_next base s (suc k) ∙ ap (λ (c : List Cell). c ++ page_at s (base + 97 * suc k)) (up_next base s k) in
      rw (up_next base t k, e, f, g) (sym (append_assoc (up_to base s k) (page_at s (base + 97 * k)) (page_at s (base + 97 * suc k))))

  joined_later : (j : ℕ) → k < j → j ≤ get_or s 1 0 → up_to base t j ≡ up_to base s (suc j)
  joined_later j h l =
      let e : j ≡ suc k + (j - suc k) = omega arith in
      let f : suc j ≡ suc (suc k) + (j - suc k) = omega arith in
      ap (up_to base t) e
      ∙ up_later base s t (suc k) (suc (suc k)) (j - suc k) joined_both
      (λ i m. let o : suc (suc k + i) ≡ suc (suc k) + i = omega arith in jo.after (suc k + i) (omega arith) (omega arith) ∙ ap (λ (z : ℕ). page_at s (base + 97 * z)) o)
      ∙ ap (up_to base s) (sym f)

  pub joined_cells : cells_in base t ≡ cells_in base s
  joined_cells = up_cells base t ∙ ap (up_to base t) jo.less ∙ joined_later (get_or s 1 0) inside (omega arith) ∙ sym (up_cells base s)

  pub joined_offset_low : (j : ℕ) → j ≤ k → offset j (dir_at base t) ≡ offset j (dir_at base s)
  joined_offset_low j h =
      up_offset base t j (omega (arith, jo.less)) ∙ ap (λ (c : List Cell). length c) (up_same base s t j (λ i m. jo.before i (omega arith)))
      ∙ sym (up_offset base s j (omega arith))

  pub joined_offset_up : (j : ℕ) → k < j → j ≤ get_or s 1 0 → offset j (dir_at base t) ≡ offset (suc j) (dir_at base s)
  joined_offset_up j h l =
      up_offset base t j (omega (arith, jo.less)) ∙ ap (λ (c : List Cell). length c) (joined_later j h l) ∙ sym (up_offset base s (suc j) (omega arith))

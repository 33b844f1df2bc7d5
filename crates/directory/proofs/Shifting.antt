-- Pages moved by one page, a page cut in two and two made one, word by word.
-- Assumes nothing.
use mathlib.Core.Path.{◌≡◌, refl, sym, ◌∙◌, ap}
use mathlib.Core.List.{List, ◌++◌}
use Prim.Native.Nat.{ℕ, zero, suc, ◌+◌, ◌-◌, ◌*◌, ◌≤◌, ◌<◌}
use native.Mathlib.Omega.{arith}
use native.Mathlib.Decide.{dec_lt}
use lib.ListN.{length, get_or, set, take, drop, length-set}
use Rattle.probe.specs.Cells.{readings}
use Rattle.probe.proofs.Readings.{readings_same, readings_append}
use Rattle.moves.specs.Moves.{Raised, Copied, Cleared}
use Rattle.moves.proofs.Turns.{set_here, set_else}
use Rattle.numbers.specs.Numbers.{Cell}
use Rattle.directory.specs.Cells.{cell_at, page_at}
use Rattle.directory.specs.Edits.{Kept}
use Rattle.directory.specs.Pages.{Fine, Wide, PageClosed, PageOpened, Cut, Merged}
use Rattle.directory.proofs.Frames.{cell_same, page_same}

-- a word that was copied, and one that was cleared
copy_at : (to from n : ℕ) (s t : List ℕ) → Copied to from n s t → (i j : ℕ) → to ≤ i → i < to + n → j + to ≡ i + from → get_or t i 0 ≡ get_or s j 0
copy_at to from n s t c i j h l e =
    let f : i ≡ to + (i - to) = omega arith in
    let g : from + (i - to) ≡ j = omega arith in
    ap (λ (m : ℕ). get_or t m 0) f ∙ c.within (i - to) (omega arith) ∙ ap (λ (m : ℕ). get_or s m 0) g

zero_at : (at n : ℕ) (s t : List ℕ) → Cleared at n s t → (i : ℕ) → at ≤ i → i < at + n → get_or t i 0 ≡ 0
zero_at at n s t c i h l =
    let f : i ≡ at + (i - at) = omega arith in
    ap (λ (m : ℕ). get_or t m 0) f ∙ c.within (i - at) (omega arith)

-- a page that lies elsewhere
module _ (s t : List ℕ) (a b : ℕ) (e : get_or t b 0 ≡ get_or s a 0) (h : (i : ℕ) → i < 96 → get_or t (b + 1 + i) 0 ≡ get_or s (a + 1 + i) 0) (f : Fine s a) where
  pub fine_moved : Fine t b
  fine_moved = record { few = omega (arith, f.few); zeros = λ i l m. h i m ∙ f.zeros i (omega arith) m }

  pub page_moved : page_at t b ≡ page_at s a
  page_moved = page_same s t a b e (λ i l. h i (omega (arith, f.few)))

pub kept_through : (base end : ℕ) (s u t : List ℕ) → Kept base end s u → Kept base end u t → Kept base end s t
kept_through base end s u t p q =
    record {
      size = q.size ∙ p.size;
      under = λ k h d. q.under k h d ∙ p.under k h d;
      past = λ k h. q.past k h ∙ p.past k h;
    }

-- page k taken out
module _ (base n k e : ℕ) (s u v : List ℕ) (ok : Wide base n s) (pages : suc e ≡ get_or s 1 0) (inside : k ≤ suc e)
    (copied : Copied (base + 97 * k) (base + 97 * (k + 1)) (97 * (e + 1 - k)) s u) (cleared : Cleared (base + 97 * (e + 1)) 97 u v) where
  abbrev out : List ℕ
  out = set v 1 e

  out_one : get_or out 1 0 ≡ e
  out_one = set_here v 1 1 e refl (omega (arith, copied.size, cleared.size, ok.size, ok.many))

  out_low : (j : ℕ) → (j ≡ 1 → ⊥) → j < base + 97 * k → get_or out j 0 ≡ get_or s j 0
  out_low j d h = set_else v 1 j e d ∙ cleared.under j (omega arith) ∙ copied.under j h

  out_down : (i j : ℕ) → base + 97 * k ≤ i → i < base + 97 * suc e → j ≡ i + 97 → get_or out i 0 ≡ get_or s j 0
  out_down i j h l d =
      set_else v 1 i e (λ c. omega (arith, ok.low)) ∙ cleared.under i (omega arith)
      ∙ copy_at (base + 97 * k) (base + 97 * (k + 1)) (97 * (e + 1 - k)) s u copied i j h (omega arith) (omega arith)

  out_zero : (j : ℕ) → base + 97 * suc e ≤ j → j < base + 97 * suc (suc e) → get_or out j 0 ≡ 0
  out_zero j h l = set_else v 1 j e (λ c. omega (arith, ok.low)) ∙ zero_at (base + 97 * (e + 1)) 97 u v cleared j (omega arith) (omega arith)

  out_past : (j : ℕ) → base + 97 * suc (suc e) ≤ j → get_or out j 0 ≡ get_or s j 0
  out_past j h = set_else v 1 j e (λ c. omega (arith, ok.low)) ∙ cleared.past j (omega arith) ∙ copied.past j (omega arith)

  out_size : length out ≡ length s
  out_size = length-set v 1 e ∙ cleared.size ∙ copied.size

  pub page_out : PageClosed base n k s out
  page_out =
      record {
        kept = record {
          size = out_size;
          under = λ j h d. out_low j d (omega arith);
          past = λ j h. out_past j (omega (arith, ok.space, ok.pages));
        };
        wide = record {
          low = ok.low;
          many = ok.many;
          space = ok.space;
          size = omega (arith, ok.size, out_size);
          pages = omega (arith, ok.pages, out_one);
          fine = λ j h. fine j (omega (arith, out_one)) (dec_lt j k);
          rest = λ j h l. rest j (omega (arith, out_one)) l (dec_lt j (base + 97 * suc (suc e)));
        };
        less = ap suc out_one ∙ pages;
        before = λ j h. page_moved s out (base + 97 * j) (base + 97 * j) (out_low (base + 97 * j) (λ d. omega (arith, ok.low)) (omega arith))
            (λ i l. out_low (base + 97 * j + 1 + i) (λ d. omega (arith, ok.low)) (omega arith)) (ok.fine j (omega arith));
        after = λ j h l. page_moved s out (base + 97 * suc j) (base + 97 * j) (out_down (base + 97 * j) (base + 97 * suc j) (omega arith) (omega arith) (omega arith))
            (λ i m. out_down (base + 97 * j + 1 + i) (base + 97 * suc j + 1 + i) (omega arith) (omega arith) (omega arith)) (ok.fine (suc j) (omega arith));
      }
    where
      fine : (j : ℕ) → j ≤ e → Dec (j < k) → Fine out (base + 97 * j)
      fine j h (yes l) =
          fine_moved s out (base + 97 * j) (base + 97 * j) (out_low (base + 97 * j) (λ d. omega (arith, ok.low)) (omega arith))
          (λ i m. out_low (base + 97 * j + 1 + i) (λ d. omega (arith, ok.low)) (omega arith)) (ok.fine j (omega arith))
      fine j h (no l) =
          fine_moved s out (base + 97 * suc j) (base + 97 * j) (out_down (base + 97 * j) (base + 97 * suc j) (omega arith) (omega arith) (omega arith))
          (λ i m. out_down (base + 97 * j + 1 + i) (base + 97 * suc j + 1 + i) (omega arith) (omega arith) (omega arith)) (ok.fine (suc j) (omega arith))

      rest : (j : ℕ) → base + 97 * suc e ≤ j → j < 32 * n → Dec (j < base + 97 * suc (suc e)) → get_or out j 0 ≡ 0
      rest j h l (yes m) = out_zero j h m
      rest j h l (no m) = out_past j (omega arith) ∙ ok.rest j (omega arith) l

-- the pages after page k moved up
pub page_in : (base n k e : ℕ) (s u : List ℕ) → Wide base n s → e ≡ get_or s 1 0 → k ≤ e → Raised 97 (base + 97 * (k + 1)) (base + 97 * (e + 1)) s u →
    PageOpened base k s (set u 1 (e + 1))
page_in base n k e s u ok pages inside up =
    record {
      size = length-set u 1 (e + 1) ∙ up.size;
      pages = set_here u 1 1 (e + 1) refl (omega (arith, up.size, ok.size, ok.many)) ∙ omega arith;
      under = λ j d h. set_else u 1 j (e + 1) d ∙ up.under j (omega arith);
      up = λ j h l. set_else u 1 (j + 97) (e + 1) (λ d. omega arith) ∙ up.within j (omega arith) (omega arith);
      past = λ j h. set_else u 1 j (e + 1) (λ d. omega (arith, ok.low)) ∙ up.past j (omega arith);
    }

-- a page cut
module _ (a h : ℕ) (s u v w : List ℕ) (inside : a + 194 ≤ length s) (fits : h ≤ 32) (copied : Copied (a + 98) (a + 1 + 3 * h) (3 * (32 - h)) s u)
    (one : Cleared (a + 98 + 3 * (32 - h)) (3 * h) u v) (two : Cleared (a + 1 + 3 * h) (3 * (32 - h)) v w) where
  abbrev half : List ℕ
  half = set (set w a h) (a + 97) (32 - h)

  wide : length w ≡ length s
  wide = two.size ∙ one.size ∙ copied.size

  half_else : (j : ℕ) → (j ≡ a → ⊥) → (j ≡ a + 97 → ⊥) → get_or half j 0 ≡ get_or w j 0
  half_else j d e = set_else (set w a h) (a + 97) j (32 - h) e ∙ set_else w a j h d

  pub page_cut : Cut a h s half
  page_cut =
      record {
        size = length-set (set w a h) (a + 97) (32 - h) ∙ length-set w a h ∙ wide;
        under = λ j l. half_else j (λ d. omega arith) (λ d. omega arith) ∙ two.under j (omega arith) ∙ one.under j (omega arith) ∙ copied.under j (omega arith);
        here = set_else (set w a h) (a + 97) a (32 - h) (λ d. omega arith) ∙ set_here w a a h refl (omega (arith, wide));
        front = λ j l. half_else (a + 1 + j) (λ d. omega arith) (λ d. omega arith) ∙ two.under (a + 1 + j) (omega arith)
            ∙ one.under (a + 1 + j) (omega arith) ∙ copied.under (a + 1 + j) (omega arith);
        gap = λ j l m. half_else (a + 1 + j) (λ d. omega arith) (λ d. omega arith)
            ∙ zero_at (a + 1 + 3 * h) (3 * (32 - h)) v w two (a + 1 + j) (omega arith) (omega arith);
        next = set_here (set w a h) (a + 97) (a + 97) (32 - h) refl (omega (arith, wide, length-set w a h));
        back = λ j l. half_else (a + 97 + 1 + j) (λ d. omega arith) (λ d. omega arith) ∙ two.past (a + 97 + 1 + j) (omega arith)
            ∙ one.under (a + 97 + 1 + j) (omega arith)
            ∙ copy_at (a + 98) (a + 1 + 3 * h) (3 * (32 - h)) s u copied (a + 97 + 1 + j) (a + 1 + 3 * h + j) (omega arith) (omega arith) (omega arith);
        tail = λ j l m. half_else (a + 97 + 1 + j) (λ d. omega arith) (λ d. omega arith) ∙ two.past (a + 97 + 1 + j) (omega arith)
            ∙ zero_at (a + 98 + 3 * (32 - h)) (3 * h) u v one (a + 97 + 1 + j) (omega arith) (omega arith);
        past = λ j l. half_else j (λ d. omega arith) (λ d. omega arith) ∙ two.past j (omega arith) ∙ one.past j (omega arith) ∙ copied.past j (omega arith);
      }

-- two pages made one
pub page_merged : (a c d : ℕ) (s u : List ℕ) → a + 194 ≤ length s → c + d ≤ 32 → Copied (a + 1 + 3 * c) (a + 98) (3 * d) s u → Merged a c d s (set u a (c + d))
page_merged a c d s u inside fits copied =
    record {
      size = length-set u a (c + d) ∙ copied.size;
      under = λ j l. set_else u a j (c + d) (λ e. omega arith) ∙ copied.under j (omega arith);
      here = set_here u a a (c + d) refl (omega (arith, copied.size));
      front = λ j l. set_else u a (a + 1 + j) (c + d) (λ e. omega arith) ∙ copied.under (a + 1 + j) (omega arith);
      back = λ j l. set_else u a (a + 1 + 3 * c + j) (c + d) (λ e. omega arith)
          ∙ copy_at (a + 1 + 3 * c) (a + 98) (3 * d) s u copied (a + 1 + 3 * c + j) (a + 97 + 1 + j) (omega arith) (omega arith) (omega arith);
      past = λ j l. set_else u a j (c + d) (λ e. omega arith) ∙ copied.past j (omega arith);
    }

-- cells read from a run of words
run : (s t : List ℕ) (a b n : ℕ) (x y : ℕ → ℕ) → ((i : ℕ) → x i ≡ a + 3 * i) → ((i : ℕ) → y i ≡ b + 3 * i) →
    ((i : ℕ) → i < 3 * n → get_or t (b + i) 0 ≡ get_or s (a + i) 0) → readings (λ i. cell_at t (y i)) n ≡ readings (λ i. cell_at s (x i)) n
run s t a b n x y e f h =
    readings_same n (λ i. cell_at t (y i)) (λ i. cell_at s (x i)) (λ i l.
    cell_same s t (x i) (y i) (word (x i) (y i) i 0 (omega (arith, e i)) (omega (arith, f i)) l (omega arith))
    (word (x i + 1) (y i + 1) i 1 (omega (arith, e i)) (omega (arith, f i)) l (omega arith))
    (word (x i + 2) (y i + 2) i 2 (omega (arith, e i)) (omega (arith, f i)) l (omega arith)))
  where
    word : (p q i k : ℕ) → p ≡ a + 3 * i + k → q ≡ b + 3 * i + k → i < n → k < 3 → get_or t q 0 ≡ get_or s p 0
    word p q i k c d l m =
        let g : q ≡ b + (3 * i + k) = omega arith in
        let o : a + (3 * i + k) ≡ p = omega arith in
        ap (λ (z : ℕ). get_or t z 0) g ∙ h (3 * i + k) (omega arith) ∙ ap (λ (z : ℕ). get_or s z 0) o

pub take_readings : {A : Type 0} (m n : ℕ) (f : ℕ → A) → take m (readings f (m + n)) ≡ readings f m
unfolding readings
take_readings zero n f = refl
take_readings (suc m) n f =
    let e : suc m + n ≡ suc (m + n) = omega arith in
    rw (e, take_readings m n (λ i. f (suc i)))

drop_readings : {A : Type 0} (m n : ℕ) (f : ℕ → A) → drop m (readings f (m + n)) ≡ readings (λ i. f (m + i)) n
unfolding readings
drop_readings zero n f =
    let e : zero + n ≡ n = omega arith in
    rw e (readings_same n f (λ i. f (zero + i)) (λ i h. let d : i ≡ zero + i = omega arith in ap f d))
drop_readings (suc m) n f =
    let e : suc m + n ≡ suc (m + n) = omega arith in
    rw (e, drop_readings m n (λ i. f (suc i)))
    (readings_same n (λ i. f (suc (m + i))) (λ i. f (suc m + i)) (λ i h. let d : suc (m + i) ≡ suc m + i = omega arith in ap f d))

-- a page with the first cells of another, with the rest of them, and with those of two
pub front_page : (s t : List ℕ) (a b h : ℕ) → get_or t b 0 ≡ h → h ≤ get_or s a 0 → ((i : ℕ) → i < 3 * h → get_or t (b + 1 + i) 0 ≡ get_or s (a + 1 + i) 0) →
    page_at t b ≡ take h (page_at s a)
unfolding page_at
front_page s t a b h e l w =
    let f : get_or s a 0 ≡ h + (get_or s a 0 - h) = omega arith in
    rw e
    (run s t (a + 1) (b + 1) h (λ i. a + 1 + 3 * i) (λ i. b + 1 + 3 * i) (λ i. refl) (λ i. refl) w
    ∙ sym (ap (λ (n : ℕ). take h (readings (λ i. cell_at s (a + 1 + 3 * i)) n)) f ∙ take_readings h (get_or s a 0 - h) (λ i. cell_at s (a + 1 + 3 * i))))

pub back_page : (s t : List ℕ) (a b h c : ℕ) → get_or t b 0 ≡ c → get_or s a 0 ≡ h + c → ((i : ℕ) → i < 3 * c → get_or t (b + 1 + i) 0 ≡ get_or s (a + 1 + 3 * h + i) 0) →
    page_at t b ≡ drop h (page_at s a)
unfolding page_at
back_page s t a b h c e l w =
    rw (e, l)
    (run s t (a + 1 + 3 * h) (b + 1) c (λ i. a + 1 + 3 * (h + i)) (λ i. b + 1 + 3 * i) (λ i. omega arith) (λ i. refl) w
    ∙ sym (drop_readings h c (λ i. cell_at s (a + 1 + 3 * i))))

pub both_page : (s t : List ℕ) (a₁ a₂ b c d : ℕ) → get_or t b 0 ≡ c + d → get_or s a₁ 0 ≡ c → get_or s a₂ 0 ≡ d →
    ((i : ℕ) → i < 3 * c → get_or t (b + 1 + i) 0 ≡ get_or s (a₁ + 1 + i) 0) → ((i : ℕ) → i < 3 * d → get_or t (b + 1 + 3 * c + i) 0 ≡ get_or s (a₂ + 1 + i) 0) →
    page_at t b ≡ page_at s a₁ ++ page_at s a₂
unfolding page_at
both_page s t a₁ a₂ b c d e f g w x =
    rw (e, f, g)
    (readings_append c d (λ i. cell_at t (b + 1 + 3 * i))
    ∙ ap (λ (l : List Cell). l ++ readings (λ i. cell_at t (b + 1 + 3 * (c + i))) d)
    (run s t (a₁ + 1) (b + 1) c (λ i. a₁ + 1 + 3 * i) (λ i. b + 1 + 3 * i) (λ i. refl) (λ i. refl) w)
    ∙ ap (λ (l : List Cell). readings (λ i. cell_at s (a₁ + 1 + 3 * i)) c ++ l)
    (run s t (a₂ + 1) (b + 1 + 3 * c) d (λ i. a₂ + 1 + 3 * i) (λ i. b + 1 + 3 * (c + i)) (λ i. refl) (λ i. omega arith) x))

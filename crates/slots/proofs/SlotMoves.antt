-- What moves of words leave: slots opened, closed, cleared and written.
-- Assumes nothing.
use mathlib.Core.Path.{◌≡◌, sym, ◌∙◌, ap}
use mathlib.Core.List.{List, [], ◌∷◌, ◌++◌, append_assoc}
use Prim.Native.Nat.{ℕ, suc, ◌+◌, ◌-◌, ◌*◌, ◌≤◌, ◌<◌}
use native.Mathlib.Omega.{arith}
use native.Mathlib.Numerals.{add-one}
use lib.ListN.{length, get_or, take, drop, set, replicate, length-append, length-drop, length-replicate, take-append-drop}
use lib.Seq.{length-take-le, take-suc, drop-cons, take_at, drop_at, drop-drop, set_at, take_all}
use Rattle.slots.specs.Slots.{slot_width, opened, cleared, closed, written}
use Rattle.types.specs.Units.{units_in}
use Rattle.std.specs.List.{copy_within}
use Rattle.std.proofs.lemmas.Slice.{put_mid-paste}
use borrow.Rule.Slice.PartMut.{put_mid}
use Rattle.slots.proofs.StoreWords.{slots_inside}

pub copied_opened : (d s : List ℕ) (c i n : ℕ) → s ≡ copy_within d (slot_width * i) (slot_width * n) (slot_width * (i + c)) → i ≤ n → s ≡ opened c i n d
unfolding opened
copied_opened d s c i n a h =
    let e : slot_width * n - slot_width * i ≡ slot_width * (n - i) = omega arith in
    let f : slot_width * (i + c) + slot_width * (n - i) ≡ slot_width * (n + c) = omega arith in
    a ∙ rw (e, f) (append_assoc (take (slot_width * (i + c)) d) (take (slot_width * (n - i)) (drop (slot_width * i) d)) (drop (slot_width * (n + c)) d))

pub filled_cleared : (d z : List ℕ) (c i : ℕ) → i + c ≤ units_in (length d) →
    z ≡ replicate (length (take (slot_width * (i + c) - slot_width * i) (drop (slot_width * i) d))) 0 →
    put_mid (slot_width * i) (slot_width * (i + c) - slot_width * i) d z ≡ cleared c i d
unfolding cleared
filled_cleared d z c i h e =
    let inside : slot_width * (i + c) ≤ length d = slots_inside (i + c) (length d) h in
    let size : length (take (slot_width * (i + c) - slot_width * i) (drop (slot_width * i) d)) ≡ slot_width * c =
    length-take-le (slot_width * (i + c) - slot_width * i) (drop (slot_width * i) d) (rw (length-drop (slot_width * i) d) (omega arith)) ∙ omega arith
    in
    let zeros : z ≡ replicate (slot_width * c) 0 = e ∙ ap (λ (n : ℕ). replicate n 0) size in
    let long : slot_width * c ≡ length (replicate (slot_width * c) (let o : ℕ = 0 in o)) = sym (length-replicate {A = ℕ} (slot_width * c) 0) in
    let f : slot_width * i + slot_width * c ≡ slot_width * (i + c) = omega arith in
    put_mid-paste (slot_width * i) (slot_width * (i + c) - slot_width * i) d z (replicate (slot_width * c) 0) (slot_width * c) zeros (omega arith) long
    ∙ rw (f, take_all {A = ℕ} (slot_width * c) (replicate (slot_width * c) 0) (omega (arith, length-replicate {A = ℕ} (slot_width * c) 0)))
    (append_assoc (take (slot_width * i) d) (replicate (slot_width * c) 0) (drop (slot_width * (i + c)) d))

-- The first n words of `w` written over those of `d` from index `at`.
unfoldable pub copied : List ℕ → ℕ → List ℕ → ℕ → List ℕ
copied d at w n = take at d ++ (take n w ++ drop (at + n) d)

pub copied_none : (d : List ℕ) (at : ℕ) (w : List ℕ) → d ≡ copied d at w 0
unfolding copied
copied_none d at w =
    let e : at + 0 ≡ at = omega arith in
    rw e (sym (take-append-drop at d))

-- one word more
pub copied_more : (d : List ℕ) (at : ℕ) (w : List ℕ) (j : ℕ) → at + j < length d → j < length w →
    set (copied d at w j) (at + j) (get_or w j 0) ≡ copied d at w (j + 1)
unfolding copied
copied_more d at w j inside some =
    let p : List ℕ = take at d ++ take j w in
    let z : List ℕ = drop (suc (at + j)) d in
    let size : length p ≡ at + j =
    length-append (take at d) (take j w) ∙ rw (length-take-le at d (omega arith), length-take-le j w (omega arith))
    in
    let e : take at d ++ (take j w ++ drop (at + j) d) ≡ p ++ (get_or d (at + j) 0 ∷ z) =
    sym (append_assoc (take at d) (take j w) (drop (at + j) d)) ∙ ap (λ (l : List ℕ). p ++ l) (drop-cons d (at + j) 0 inside)
    in
    let f : at + (j + 1) ≡ suc (at + j) = omega arith in
    let g : take (j + 1) w ≡ take j w ++ (get_or w j 0 ∷ []) = rw (add-one j) (take-suc w j 0 some) in
    rw (e, set_at p (get_or d (at + j) 0) z (get_or w j 0) (at + j) size, f, g)
    (append_assoc (take at d) (take j w) (get_or w j 0 ∷ z)
    ∙ ap (λ (l : List ℕ). take at d ++ l) (sym (append_assoc (take j w) (get_or w j 0 ∷ []) z)))

pub copied_written : (d s : List ℕ) (i : ℕ) (u : List ℕ) (j : ℕ) → s ≡ copied d (slot_width * i) u j → j ≡ slot_width → length u ≡ slot_width → s ≡ written i u d
unfolding copied written
copied_written d s i u j a b e =
    let f : slot_width * i + slot_width ≡ slot_width * (i + 1) = omega arith in
    rw (a, b, f, take_all slot_width u (omega arith))

pub shift : (p s : List ℕ) (b k c n : ℕ) → length p ≡ b → c + k ≡ n → drop (b + k) (p ++ drop c s) ≡ drop n s
shift p s b k c n e f = sym (drop-drop k b (p ++ drop c s)) ∙ rw (drop_at p (drop c s) b e) (drop-drop k c s ∙ ap (λ (m : ℕ). drop m s) f)

-- slots moved down by c, and the last c of them cleared
pub lowered_closed : (c i n : ℕ) (s : List ℕ) → i + c ≤ n → slot_width * n ≤ length s →
    cleared c (n - c) (take (slot_width * i) s ++ (take (slot_width * (n - c - i)) (drop (slot_width * i + slot_width * c) s) ++ drop (slot_width * i + slot_width * (n - c - i)) s)) ≡ closed c i n s
unfolding cleared closed
lowered_closed c i n s h g =
    let a : ℕ = slot_width * i in
    let m : ℕ = slot_width * (n - c - i) in
    let b : ℕ = slot_width * (n - c) in
    let w : List ℕ = drop (a + slot_width * c) s in
    let p : List ℕ = take a s ++ take m w in
    let room : m ≤ length w = rw (length-drop (a + slot_width * c) s) (omega arith) in
    let size : length p ≡ b =
    length-append (take a s) (take m w) ∙ rw (length-take-le a s (omega arith), length-take-le m w room) (omega arith)
    in
    let x : take a s ++ (take m w ++ drop (a + m) s) ≡ p ++ drop (a + m) s = sym (append_assoc (take a s) (take m w) (drop (a + m) s)) in
    let e : slot_width * (n - c + c) ≡ b + slot_width * c = omega arith in
    let last : drop (b + slot_width * c) (p ++ drop (a + m) s) ≡ drop (slot_width * n) s = shift p s b (slot_width * c) (a + m) (slot_width * n) size (omega arith) in
    let q : a + slot_width * c ≡ slot_width * (i + c) = omega arith in
    let r : m ≡ slot_width * (n - (i + c)) = omega arith in
    rw (x, take_at p (drop (a + m) s) b size, e, last)
    (append_assoc (take a s) (take m w) (replicate (slot_width * c) 0 ++ drop (slot_width * n) s) ∙ rw (q, r))

pub closed_steps : (d m s : List ℕ) (c i n : ℕ) → i + c ≤ n → n ≤ units_in (length d) → m ≡ copy_within d (slot_width * (i + c)) (slot_width * n) (slot_width * i) →
    s ≡ cleared c (n - c) m → s ≡ closed c i n d
closed_steps d m s c i n h g e f =
    let x : slot_width * n - slot_width * (i + c) ≡ slot_width * (n - c - i) = omega arith in
    let y : slot_width * (i + c) ≡ slot_width * i + slot_width * c = omega arith in
    let z : m ≡ take (slot_width * i) d ++ (take (slot_width * (n - c - i)) (drop (slot_width * i + slot_width * c) d) ++ drop (slot_width * i + slot_width * (n - c - i)) d) =
    e ∙ rw (x, y) (append_assoc (take (slot_width * i) d) (take (slot_width * (n - c - i)) (drop (slot_width * i + slot_width * c) d)) (drop (slot_width * i + slot_width * (n - c - i)) d))
    in
    f ∙ ap (cleared c (n - c)) z ∙ lowered_closed c i n d h (slots_inside n (length d) g)

-- Laws of the requests of a whole input, and of their lines: the next request is answered, and the rest is as if it were the whole input.
use Rattle.std.proofs.Common.{◌≡◌, ℕ, zero, suc, ◌-◌, ◌*◌, ◌≤◌, Bool, true, false, cond, eqb, List, [], ◌∷◌, ◌++◌, length, drop, sym, refl, ap, ◌∙◌, arith, length-drop, eq-eqb, ne_eqb}
use borrow.Author.Tests.{eqb-false}
use Rattle.mvhashmap.specs.Call.{View, call_of}
use Rattle.mvhashmap.specs.Run.{seen_of}
use Rattle.history.specs.Input.{request_in}
use Rattle.history.specs.Line.{line_of}
use Rattle.history.specs.Whole.{requests_by, requests_in, lines_of, view_after}

-- The bytes after the first request.
abbrev after_first : List ℕ → List ℕ
after_first b = drop (4 * length (request_in b)) b

-- More than enough makes no difference.
requests_by_none : (n : ℕ) (b : List ℕ) → length b ≡ 0 → requests_by n b ≡ []
unfolding requests_by
requests_by_none zero b e = refl
requests_by_none (suc n) b e = rw (eq-eqb (length b) 0 e) refl

requests_by_enough : (n m : ℕ) (b : List ℕ) → length b ≤ n → length b ≤ m → requests_by n b ≡ requests_by m b
unfolding requests_by
requests_by_enough zero m b h k = sym (requests_by_none m b (omega arith))
requests_by_enough (suc n) zero b h k = requests_by_none (suc n) b (omega arith)
requests_by_enough (suc n) (suc m) b h k =
    go (eqb (length b) 0) refl (eqb (length (request_in b)) 0) refl (requests_by_enough n m (drop (4 * length (request_in b)) b))
  where
    go : (t : Bool) → eqb (length b) 0 ≡ t → (v : Bool) → eqb (length (request_in b)) 0 ≡ v
        → (length (after_first b) ≤ n → length (after_first b) ≤ m → requests_by n (after_first b) ≡ requests_by m (after_first b))
        → cond {A = List (List ℕ)} t [] (request_in b ∷ cond v [] (requests_by n (after_first b)))
        ≡ cond t [] (request_in b ∷ cond v [] (requests_by m (after_first b)))
    go true e v f ih = refl
    go false e true f ih = refl
    go false e false f ih =
        let some : length b ≡ 0 → ⊥ = eqb-false (length b) 0 e in
        let used : length (request_in b) ≡ 0 → ⊥ = eqb-false (length (request_in b)) 0 f in
        let fewer = length-drop (4 * length (request_in b)) b in
        ap (λ (ts : List (List ℕ)). request_in b ∷ ts) (ih (omega arith) (omega arith))

-- No input has no requests.
pub requests_in_none : (b : List ℕ) → length b ≡ 0 → requests_in b ≡ []
unfolding requests_in
requests_in_none b e = requests_by_none (length b) b e

-- The first request, and those of the bytes after it.
pub requests_in_next : (b : List ℕ) → (length b ≡ 0 → ⊥)
    → requests_in b ≡ request_in b ∷ cond (eqb (length (request_in b)) 0) [] (requests_in (drop (4 * length (request_in b)) b))
unfolding requests_in requests_by
requests_in_next b some =
    let e : length b ≡ suc (length b - 1) = omega arith in
    ap (λ (n : ℕ). requests_by n b) e
    ∙ rw (ne_eqb (length b) 0 some) (ap (λ (ts : List (List ℕ)). request_in b ∷ ts) (go (eqb (length (request_in b)) 0) refl))
  where
    go : (t : Bool) → eqb (length (request_in b)) 0 ≡ t
        → cond {A = List (List ℕ)} t [] (requests_by (length b - 1) (after_first b)) ≡ cond t [] (requests_by (length (after_first b)) (after_first b))
    go true e = refl
    go false e =
        let used : length (request_in b) ≡ 0 → ⊥ = eqb-false (length (request_in b)) 0 e in
        requests_by_enough (length b - 1) (length (after_first b)) (after_first b) (omega (arith, length-drop (4 * length (request_in b)) b)) (omega arith)

-- Their lines, and what is known of what they leave.
pub lines_of_none : (b : List ℕ) (l : View) → length b ≡ 0 → lines_of (requests_in b) l ≡ []
unfolding lines_of
lines_of_none b l e = rw (requests_in_none b e) refl

pub view_after_none : (b : List ℕ) (l : View) → length b ≡ 0 → view_after (requests_in b) l ≡ l
unfolding view_after
view_after_none b l e = rw (requests_in_none b e) refl

-- The bytes b start with the request t, which is no longer than they are; where it has no words it is the last.
module _ (b t : List ℕ) (l : View) (some : length b ≡ 0 → ⊥) (first : request_in b ≡ t) where
  next : requests_in b ≡ t ∷ cond (eqb (length t) 0) [] (requests_in (drop (4 * length t) b))
  next = rw first at (requests_in_next b some)

  pub lines_of_next : lines_of (requests_in b) l
      ≡ line_of (seen_of (call_of t l)) ++ cond (eqb (length t) 0) [] (lines_of (requests_in (drop (4 * length t) b)) (call_of t l).view)
  unfolding lines_of
  lines_of_next = rw next (ap (λ (x : List ℕ). line_of (seen_of (call_of t l)) ++ x) (go (eqb (length t) 0)))
    where
      go : (v : Bool) → lines_of (cond v [] (requests_in (drop (4 * length t) b))) (call_of t l).view
          ≡ cond v [] (lines_of (requests_in (drop (4 * length t) b)) (call_of t l).view)
      go true = refl
      go false = refl

  pub view_after_next : view_after (requests_in b) l
      ≡ cond (eqb (length t) 0) (call_of t l).view (view_after (requests_in (drop (4 * length t) b)) (call_of t l).view)
  unfolding view_after
  view_after_next = rw next (go (eqb (length t) 0))
    where
      go : (v : Bool) → view_after (cond v [] (requests_in (drop (4 * length t) b))) (call_of t l).view
          ≡ cond v (call_of t l).view (view_after (requests_in (drop (4 * length t) b)) (call_of t l).view)
      go true = refl
      go false = refl

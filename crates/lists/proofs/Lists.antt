-- Laws of `keep`, `every` and `front`, and what the library's laws of lists leave out, over any element.
-- Assumes nothing.
use mathlib.Core.Path.{◌≡◌, refl, sym, ap}
use mathlib.Core.Bool.{Bool, true, false, ◌&&◌}
use mathlib.Core.List.{List, [], ◌∷◌, ◌++◌, map, reverse, reverse-cons, append-nil}
use Prim.Native.Nat.{ℕ, zero, suc, ◌+◌, ◌≤◌, ◌<◌}
use native.Mathlib.Omega.{arith}
use lib.ListN.{length, get_or, take, drop, set}
use Rattle.lists.specs.Lists.{keep, every, front}
use Rattle.lists.proofs.Bools.{and_left, and_right, and_both, and_assoc}

module _ {A : Type 0} where
  pub keep_append : (p : A → Bool) (xs ys : List A) → keep p (xs ++ ys) ≡ keep p xs ++ keep p ys
  unfolding keep
  keep_append p [] ys = refl
  keep_append p (x ∷ xs) ys = go (p x) refl (keep_append p xs ys)
    where
      go : (b : Bool) → p x ≡ b → keep p (xs ++ ys) ≡ keep p xs ++ keep p ys → keep p (x ∷ (xs ++ ys)) ≡ keep p (x ∷ xs) ++ keep p ys
      go true e ih = rw (e, ih)
      go false e ih = rw (e, ih)

  pub keep_reverse : (p : A → Bool) (xs : List A) → keep p (reverse xs) ≡ reverse (keep p xs)
  unfolding keep
  keep_reverse p [] = refl
  keep_reverse p (x ∷ xs) = go (p x) refl (keep_reverse p xs)
    where
      go : (b : Bool) → p x ≡ b → keep p (reverse xs) ≡ reverse (keep p xs) → keep p (reverse (x ∷ xs)) ≡ reverse (keep p (x ∷ xs))
      go true e ih = rw (reverse-cons x xs, keep_append p (reverse xs) (x ∷ []), ih, e, reverse-cons x (keep p xs))
      go false e ih = rw (reverse-cons x xs, keep_append p (reverse xs) (x ∷ []), ih, e, append-nil)

  -- a test that implies another is the stronger of the two
  pub keep_stronger : (p q : A → Bool) → ((x : A) → p x ≡ true → q x ≡ true) → (xs : List A) → keep p (keep q xs) ≡ keep p xs
  unfolding keep
  keep_stronger p q h [] = refl
  keep_stronger p q h (x ∷ xs) = go (p x) refl (q x) refl (keep_stronger p q h xs)
    where
      go : (b : Bool) → p x ≡ b → (c : Bool) → q x ≡ c → keep p (keep q xs) ≡ keep p xs → keep p (keep q (x ∷ xs)) ≡ keep p (x ∷ xs)
      go true e true f ih = rw (f, e, ih)
      go true e false f ih = let g : q x ≡ true = h x e in cc
      go false e true f ih = rw (f, e, ih)
      go false e false f ih = rw (f, e, ih)

  pub keep_swap : (p q : A → Bool) (xs : List A) → keep p (keep q xs) ≡ keep q (keep p xs)
  unfolding keep
  keep_swap p q [] = refl
  keep_swap p q (x ∷ xs) = go (p x) refl (q x) refl (keep_swap p q xs)
    where
      go : (b : Bool) → p x ≡ b → (c : Bool) → q x ≡ c → keep p (keep q xs) ≡ keep q (keep p xs) → keep p (keep q (x ∷ xs)) ≡ keep q (keep p (x ∷ xs))
      go true e true f ih = rw (e, f, e, ih)
      go true e false f ih = rw (e, f, ih)
      go false e true f ih = rw (e, f, e, ih)
      go false e false f ih = rw (e, f, ih)

  pub keep_all : (p : A → Bool) (xs : List A) → every p xs ≡ true → keep p xs ≡ xs
  unfolding keep every
  keep_all p [] h = refl
  keep_all p (x ∷ xs) h = rw (and_left (p x) (every p xs) h, keep_all p xs (and_right (p x) (every p xs) h))

  -- what every element fails keeps nothing
  pub keep_none : (p q : A → Bool) → ((x : A) → q x ≡ true → p x ≡ false) → (xs : List A) → every q xs ≡ true → keep p xs ≡ []
  unfolding keep every
  keep_none p q n [] h = refl
  keep_none p q n (x ∷ xs) h = rw (n x (and_left (q x) (every q xs) h), keep_none p q n xs (and_right (q x) (every q xs) h))

  pub every_keep : (p q : A → Bool) (xs : List A) → every p xs ≡ true → every p (keep q xs) ≡ true
  unfolding keep every
  every_keep p q [] e = refl
  every_keep p q (x ∷ xs) e = go (q x) refl (every_keep p q xs (and_right (p x) (every p xs) e))
    where
      go : (b : Bool) → q x ≡ b → every p (keep q xs) ≡ true → every p (keep q (x ∷ xs)) ≡ true
      go true f ih = rw f (and_both (p x) (every p (keep q xs)) (and_left (p x) (every p xs) e) ih)
      go false f ih = rw f ih

  pub every_kept : (p : A → Bool) (xs : List A) → every p (keep p xs) ≡ true
  unfolding keep every
  every_kept p [] = refl
  every_kept p (x ∷ xs) = go (p x) refl (every_kept p xs)
    where
      go : (b : Bool) → p x ≡ b → every p (keep p xs) ≡ true → every p (keep p (x ∷ xs)) ≡ true
      go true f ih = rw f (and_both (p x) (every p (keep p xs)) f ih)
      go false f ih = rw f ih

  pub every_join : (p : A → Bool) (xs ys : List A) → every p xs ≡ true → every p ys ≡ true → every p (xs ++ ys) ≡ true
  unfolding every
  every_join p [] ys e f = f
  every_join p (x ∷ xs) ys e f =
      and_both (p x) (every p (xs ++ ys)) (and_left (p x) (every p xs) e) (every_join p xs ys (and_right (p x) (every p xs) e) f)

  pub every_reverse : (p : A → Bool) (xs : List A) → every p xs ≡ true → every p (reverse xs) ≡ true
  unfolding every
  every_reverse p [] e = refl
  every_reverse p (x ∷ xs) e =
      rw (reverse-cons x xs)
      (every_join p (reverse xs) (x ∷ []) (every_reverse p xs (and_right (p x) (every p xs) e))
      (and_both (p x) true (and_left (p x) (every p xs) e) refl))

  -- two tests in a row are their conjunction
  pub keep_both : (p q r : A → Bool) → ((x : A) → (p x && q x) ≡ r x) → (xs : List A) → keep p (keep q xs) ≡ keep r xs
  unfolding keep
  keep_both p q r h [] = refl
  keep_both p q r h (x ∷ xs) = go (p x) refl (q x) refl (keep_both p q r h xs)
    where
      go : (b : Bool) → p x ≡ b → (c : Bool) → q x ≡ c → keep p (keep q xs) ≡ keep r xs → keep p (keep q (x ∷ xs)) ≡ keep r (x ∷ xs)
      go true e true f ih = let g : true ≡ r x = rw (e, f) at (h x) in rw (f, e, ih, ← g)
      go true e false f ih = let g : false ≡ r x = rw (e, f) at (h x) in rw (f, ih, ← g)
      go false e true f ih = let g : false ≡ r x = rw e at (h x) in rw (f, e, ih, ← g)
      go false e false f ih = let g : false ≡ r x = rw e at (h x) in rw (f, ih, ← g)

  pub every_get_d : (p : A → Bool) (xs : List A) (d : A) → every p xs ≡ true → p d ≡ true → (i : ℕ) → p (get_or xs i d) ≡ true
  unfolding every
  every_get_d p [] d h g i = g
  every_get_d p (x ∷ xs) d h g zero = and_left (p x) (every p xs) h
  every_get_d p (x ∷ xs) d h g (suc i) = every_get_d p xs d (and_right (p x) (every p xs) h) g i

  pub every_append : (p : A → Bool) (xs ys : List A) → every p (xs ++ ys) ≡ (every p xs && every p ys)
  unfolding every
  every_append p [] ys = refl
  every_append p (x ∷ xs) ys = rw (every_append p xs ys) (sym (and_assoc (p x) (every p xs) (every p ys)))

  pub every_imp : (p q : A → Bool) → ((x : A) → p x ≡ true → q x ≡ true) → (xs : List A) → every p xs ≡ true → every q xs ≡ true
  unfolding every
  every_imp p q h [] e = refl
  every_imp p q h (x ∷ xs) e =
      and_both (q x) (every q xs) (h x (and_left (p x) (every p xs) e)) (every_imp p q h xs (and_right (p x) (every p xs) e))

  pub every_take : (p : A → Bool) (n : ℕ) (xs : List A) → every p xs ≡ true → every p (take n xs) ≡ true
  unfolding every
  every_take p zero xs e = refl
  every_take p (suc n) [] e = refl
  every_take p (suc n) (x ∷ xs) e =
      and_both (p x) (every p (take n xs)) (and_left (p x) (every p xs) e) (every_take p n xs (and_right (p x) (every p xs) e))

  pub every_drop : (p : A → Bool) (n : ℕ) (xs : List A) → every p xs ≡ true → every p (drop n xs) ≡ true
  unfolding every
  every_drop p zero xs e = e
  every_drop p (suc n) [] e = refl
  every_drop p (suc n) (x ∷ xs) e = every_drop p n xs (and_right (p x) (every p xs) e)

  pub every_at : (p : A → Bool) (xs : List A) (i : ℕ) (d : A) → i < length xs → every p xs ≡ true → p (get_or xs i d) ≡ true
  unfolding every
  every_at p [] i d h e = absurd (omega arith)
  every_at p (x ∷ xs) zero d h e = and_left (p x) (every p xs) e
  every_at p (x ∷ xs) (suc i) d h e = every_at p xs i d (omega arith) (and_right (p x) (every p xs) e)

  pub every_of : (p : A → Bool) (xs : List A) (d : A) → ((i : ℕ) → i < length xs → p (get_or xs i d) ≡ true) → every p xs ≡ true
  unfolding every
  every_of p [] d h = refl
  every_of p (x ∷ xs) d h = and_both (p x) (every p xs) (h zero (omega arith)) (every_of p xs d (λ i l. h (suc i) (omega arith)))

  -- the elements at the front pass the test, are the first ones, and the next one fails it
  pub every_front : (p : A → Bool) (xs : List A) → every p (front p xs) ≡ true
  unfolding every front
  every_front p [] = refl
  every_front p (x ∷ xs) = go (p x) refl (every_front p xs)
    where
      go : (b : Bool) → p x ≡ b → every p (front p xs) ≡ true → every p (front p (x ∷ xs)) ≡ true
      go true e ih = rw e (and_both (p x) (every p (front p xs)) e ih)
      go false e ih = rw e

  pub front_take : (p : A → Bool) (xs : List A) → front p xs ≡ take (length (front p xs)) xs
  unfolding front
  front_take p [] = refl
  front_take p (x ∷ xs) = go (p x) refl (front_take p xs)
    where
      go : (b : Bool) → p x ≡ b → front p xs ≡ take (length (front p xs)) xs → front p (x ∷ xs) ≡ take (length (front p (x ∷ xs))) (x ∷ xs)
      go true e ih = rw e (ap (λ (l : List A). x ∷ l) ih)
      go false e ih = rw e

  pub length_front : (p : A → Bool) (xs : List A) → length (front p xs) ≤ length xs
  unfolding front
  length_front p [] = omega arith
  length_front p (x ∷ xs) = go (p x) refl (length_front p xs)
    where
      go : (b : Bool) → p x ≡ b → length (front p xs) ≤ length xs → length (front p (x ∷ xs)) ≤ length (x ∷ xs)
      go true e ih = rw e (omega arith)
      go false e ih = rw e (omega arith)

  pub front_append : (p : A → Bool) (xs ys : List A) → every p xs ≡ true → front p (xs ++ ys) ≡ xs ++ front p ys
  unfolding every front
  front_append p [] ys e = refl
  front_append p (x ∷ xs) ys e = rw (and_left (p x) (every p xs) e, front_append p xs ys (and_right (p x) (every p xs) e))

  pub front_all : (p : A → Bool) (xs : List A) → every p xs ≡ true → front p xs ≡ xs
  unfolding every front
  front_all p [] e = refl
  front_all p (x ∷ xs) e = rw (and_left (p x) (every p xs) e, front_all p xs (and_right (p x) (every p xs) e))

  pub front_long : (p : A → Bool) (i : ℕ) (xs : List A) → i ≤ length xs → every p (take i xs) ≡ true → i ≤ length (front p xs)
  unfolding every front
  front_long p zero xs h e = omega arith
  front_long p (suc i) [] h e = absurd (omega arith)
  front_long p (suc i) (x ∷ xs) h e =
      rw (and_left (p x) (every p (take i xs)) e)
      (let ih : i ≤ length (front p xs) = front_long p i xs (omega arith) (and_right (p x) (every p (take i xs)) e) in omega arith)

  pub front_stop : (p : A → Bool) (i : ℕ) (xs : List A) (d : A) → i < length xs → every p (take i xs) ≡ true → p (get_or xs i d) ≡ false → front p xs ≡ take i xs
  unfolding every front
  front_stop p i [] d h e f = absurd (omega arith)
  front_stop p zero (x ∷ xs) d h e f = rw f
  front_stop p (suc i) (x ∷ xs) d h e f =
      rw (and_left (p x) (every p (take i xs)) e, front_stop p i xs d (omega arith) (and_right (p x) (every p (take i xs)) e) f)

  -- a write past a list's end is one of what follows
  pub set_append_add : (xs ys : List A) (n : ℕ) (a : A) → set (xs ++ ys) (length xs + n) a ≡ xs ++ set ys n a
  set_append_add [] ys n a = ap (λ (k : ℕ). set ys k a) (omega arith)
  set_append_add (x ∷ xs) ys n a =
      let e : length (x ∷ xs) + n ≡ suc (length xs + n) = omega arith in
      rw e (ap (λ (l : List A). x ∷ l) (set_append_add xs ys n a))

pub every_set : {A : Type 0} (p : A → Bool) (xs : List A) (i : ℕ) (a : A) → every p xs ≡ true → p a ≡ true → every p (set xs i a) ≡ true
unfolding every
every_set p [] i a e f = e
every_set p (x ∷ xs) zero a e f = and_both (p a) (every p xs) f (and_right (p x) (every p xs) e)
every_set p (x ∷ xs) (suc i) a e f =
    and_both (p x) (every p (set xs i a)) (and_left (p x) (every p xs) e) (every_set p xs i a (and_right (p x) (every p xs) e) f)

-- a map of a part, or of a list with one element changed
module _ {A B : Type 0} (f : A → B) where
  pub map_take : (i : ℕ) (xs : List A) → map f (take i xs) ≡ take i (map f xs)
  map_take zero xs = refl
  map_take (suc i) [] = refl
  map_take (suc i) (x ∷ xs) = ap (λ (l : List B). f x ∷ l) (map_take i xs)

  pub map_drop : (i : ℕ) (xs : List A) → map f (drop i xs) ≡ drop i (map f xs)
  map_drop zero xs = refl
  map_drop (suc i) [] = refl
  map_drop (suc i) (x ∷ xs) = map_drop i xs

  pub map_set : (xs : List A) (i : ℕ) (x : A) → map f (set xs i x) ≡ set (map f xs) i (f x)
  map_set [] i x = refl
  map_set (y ∷ xs) zero x = refl
  map_set (y ∷ xs) (suc i) x = ap (λ (l : List B). f y ∷ l) (map_set xs i x)

  pub get_d_map_lt : (xs : List A) (i : ℕ) (d : A) (e : B) → i < length xs → get_or (map f xs) i e ≡ f (get_or xs i d)
  get_d_map_lt [] i d e h = absurd (omega arith)
  get_d_map_lt (x ∷ xs) zero d e h = refl
  get_d_map_lt (x ∷ xs) (suc i) d e h = get_d_map_lt xs i d e (omega arith)
